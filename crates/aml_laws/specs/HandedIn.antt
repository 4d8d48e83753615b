-- Data that can be handed in, how many objects are made of it, how deep packages nest, data with its integers cut to the width, and data
-- with a part that can't be handed in.
use Rattle.std.specs.Prelude.{◌≡◌, ◌≤◌, ◌<◌, ◌+◌, ◌%◌, ◌^◌, ℕ, zero, suc, List, [], ◌∷◌, ◌++◌, length, Some, Ok, Err}
use Rattle.std.specs.FinMap.{get}
use Rattle.ar_space.specs.declared.integer_width.IntegerWidth.{IntegerWidth}
use Rattle.ar_space.specs.declared.refusal.Refusal.{Refusal}
use Rattle.ar_space.specs.declared.refusal.Refusal.TheVariants as refusal
use Rattle.ar_space.specs.declared.refusal.EvaluationFault.TheVariants.{ObjectLimit}
use Rattle.ar_space.specs.declared.refusal.ValueFault.TheVariants.{WrongType}
use Rattle.aml_path.specs.declared.segment.Seg.{Seg}
use Rattle.aml_objects.specs.declared.entry.Entry.{Entry}
use Rattle.aml_namespace.specs.Namespace.{Map}
use Rattle.aml_namespace.specs.Search.{found}
use Rattle.aml_convert.specs.Integers.{bits_of}
use Rattle.aml_world.specs.state.Given.{Given, Nothing, Integer, Text, Bytes, Package, Named, Reference, Givens, none, more, givens}
use Rattle.aml_laws.specs.NamesFound.{LeadsTo}
use Rattle.aml_laws.specs.NamesWritten.{from_root}

-- packages one inside another: at most so many
abbrev mutual
  pub NestsWithin : ℕ → Given → Type 0
  NestsWithin n Nothing = Unit {0}
  NestsWithin n (Integer k) = Unit {0}
  NestsWithin n (Text bytes) = Unit {0}
  NestsWithin n (Bytes bytes) = Unit {0}
  NestsWithin zero (Package gs) = ⊥
  NestsWithin (suc n) (Package gs) = AllNestWithin n gs
  NestsWithin n (Named path) = Unit {0}
  NestsWithin n Reference = Unit {0}

  pub AllNestWithin : ℕ → Givens → Type 0
  AllNestWithin n none = Unit {0}
  AllNestWithin n (more g gs) = NestsWithin n g × AllNestWithin n gs

-- nowhere a reference without a path
abbrev mutual
  pub HasPaths : Given → Type 0
  HasPaths Nothing = Unit {0}
  HasPaths (Integer k) = Unit {0}
  HasPaths (Text bytes) = Unit {0}
  HasPaths (Bytes bytes) = Unit {0}
  HasPaths (Package gs) = AllHavePaths gs
  HasPaths (Named path) = Unit {0}
  HasPaths Reference = ⊥

  pub AllHavePaths : Givens → Type 0
  AllHavePaths none = Unit {0}
  AllHavePaths (more g gs) = HasPaths g × AllHavePaths gs

-- the same data, with each integer n replaced by n mod 2^width, at any depth of packages
abbrev mutual
  pub with_integers_cut : IntegerWidth → Given → Given
  with_integers_cut width Nothing = Nothing
  with_integers_cut width (Integer n) = Integer (n % 2 ^ bits_of width)
  with_integers_cut width (Text bytes) = Text bytes
  with_integers_cut width (Bytes bytes) = Bytes bytes
  with_integers_cut width (Package gs) = Package (all_with_integers_cut width gs)
  with_integers_cut width (Named path) = Named path
  with_integers_cut width Reference = Reference

  pub all_with_integers_cut : IntegerWidth → Givens → Givens
  all_with_integers_cut width none = none
  all_with_integers_cut width (more g gs) = more (with_integers_cut width g) (all_with_integers_cut width gs)

-- how many elements a package has
abbrev pub many : Givens → ℕ
many none = 0
many (more g gs) = suc (many gs)

mutual
  -- Texts and bytes are at most 1,048,576 long, packages have at most 65,535 elements and nest at most so deep, and each path is that of a
  -- name that stands, or of an alias of one. So many objects are made of it. A reference without a path can't be handed in.
  pub data MayBeHandedIn (names : Map) : ℕ → ℕ → Given → Type 0 where
    nothing : (deep : ℕ) → MayBeHandedIn names deep 0 Nothing
    integer : (deep n : ℕ) → MayBeHandedIn names deep 0 (Integer n)
    text : (deep : ℕ) (bytes : List ℕ) → length bytes ≤ 1048576 → MayBeHandedIn names deep 1 (Text bytes)
    some_bytes : (deep : ℕ) (bytes : List ℕ) → length bytes ≤ 1048576 → MayBeHandedIn names deep 1 (Bytes bytes)
    named : (deep : ℕ) (path at : List Seg) (entry other : Entry) → get names path ≡ Some entry
        → LeadsTo names path entry (Ok (at, other)) → MayBeHandedIn names deep 0 (Named path)
    of_package : (deep count : ℕ) (gs : Givens) → many gs ≤ 65535 → AllMayBeHandedIn names deep count gs
        → MayBeHandedIn names (suc deep) (suc count) (Package gs)

  pub data AllMayBeHandedIn (names : Map) : ℕ → ℕ → Givens → Type 0 where
    no_more : (deep : ℕ) → AllMayBeHandedIn names deep 0 none
    one_more : (deep count rest : ℕ) (g : Given) (gs : Givens) → MayBeHandedIn names deep count g
        → AllMayBeHandedIn names deep rest gs → AllMayBeHandedIn names deep (count + rest) (more g gs)

-- Data with a part that can't be handed in, the refusal of the first such part, and how many objects the parts before it need. Parts are
-- taken from left to right, at any depth. Such a part is the path of a name that isn't found, a reference without a path, a text or bytes
-- that are too long, a package inside too many others, or a package of too many elements, all of which can be handed in. The parts before
-- it are within the limits.
pub data FirstRefusedPart (names : Map) (e : Refusal) : ℕ → ℕ → Given → Type 0 where
  not_found : (deep : ℕ) (path : List Seg) → found names [] (from_root path) ≡ Err e → FirstRefusedPart names e deep 0 (Named path)
  without_path : (deep : ℕ) → e ≡ refusal.Value WrongType → FirstRefusedPart names e deep 0 Reference
  long_text : (deep : ℕ) (bytes : List ℕ) → 1048576 < length bytes → e ≡ refusal.Evaluation ObjectLimit
      → FirstRefusedPart names e deep 0 (Text bytes)
  many_bytes : (deep : ℕ) (bytes : List ℕ) → 1048576 < length bytes → e ≡ refusal.Evaluation ObjectLimit
      → FirstRefusedPart names e deep 0 (Bytes bytes)
  too_deep : (gs : Givens) → e ≡ refusal.Evaluation ObjectLimit → FirstRefusedPart names e 0 0 (Package gs)
  many_elements : (deep count : ℕ) (gs : Givens) → 65535 < many gs → AllMayBeHandedIn names deep count gs
      → e ≡ refusal.Evaluation ObjectLimit → FirstRefusedPart names e (suc deep) count (Package gs)
  inside : (deep count rest : ℕ) (front others : List Given) (g : Given) → AllMayBeHandedIn names deep count (givens front)
      → FirstRefusedPart names e deep rest g → FirstRefusedPart names e (suc deep) (count + rest) (Package (givens (front ++ g ∷ others)))
