-- Data may be handed in, or it has a first part that can't.
use Rattle.std.specs.Prelude.{◌≡◌, ◌⊎◌, ◌≤◌, ◌<◌, ◌+◌, ℕ, zero, suc, List, [], ◌∷◌, ◌++◌, length, Option, Some, None, Err, refl}
use Rattle.std.proofs.Common.{inl, inr, ap, subst}
use Rattle.std.proofs.lemmas.Bool.{cases_lt}
use Rattle.std.specs.FinMap.{get}
use Rattle.ar_space.specs.declared.refusal.Refusal.{Refusal}
use Rattle.ar_space.specs.declared.refusal.Refusal.TheVariants as refusal
use Rattle.ar_space.specs.declared.refusal.EvaluationFault.TheVariants.{ObjectLimit}
use Rattle.ar_space.specs.declared.refusal.NamespaceFault.TheVariants.{NotFound}
use Rattle.ar_space.specs.declared.refusal.ValueFault.TheVariants.{WrongType}
use Rattle.aml_path.specs.declared.segment.Seg.{Seg}
use Rattle.aml_objects.specs.declared.entry.Entry.{Entry}
use Rattle.aml_namespace.specs.Namespace.{Map}
use Rattle.aml_world.specs.state.Given.{Given, Nothing, Integer, Text, Bytes, Package, Named, Reference, Givens, none, more, givens}
use Rattle.aml_laws.specs.HandedIn.{many, MayBeHandedIn, AllMayBeHandedIn, nothing, integer, text, some_bytes, named, of_package, no_more, one_more}
use Rattle.aml_laws.specs.HandedIn.{FirstRefusedPart, not_found, without_path, long_text, many_bytes, too_deep, many_elements, inside}
use Rattle.aml_laws.specs.NamesFound.{alias_path, itself, target, chain}
use Rattle.aml_laws.specs.NamesFound as leads
use Rattle.aml_laws.specs.NamesWritten.{from_root, below_root}
use Rattle.aml_laws.proofs.NamesWritten.{path_found, path_empty}

module _ (names : Map) where
  abbrev Decided : ℕ → Given → Type 0
  Decided deep g = ((count : ℕ) × MayBeHandedIn names deep count g) ⊎ ((e : Refusal) × (count : ℕ) × FirstRefusedPart names e deep count g)

  -- of elements, the first one that can't be handed in, with those before it
  record Parted (deep : ℕ) (gs : Givens) : Type 0 where
    pub before : List Given
    pub part : Given
    pub others : List Given
    pub is : givens (before ++ part ∷ others) ≡ gs
    pub count : ℕ
    pub may : AllMayBeHandedIn names deep count (givens before)
    pub refused_by : Refusal
    pub rest : ℕ
    pub refused : FirstRefusedPart names refused_by deep rest part

  abbrev AllDecided : ℕ → Givens → Type 0
  AllDecided deep gs = ((count : ℕ) × AllMayBeHandedIn names deep count gs) ⊎ Parted deep gs

  lost : (deep : ℕ) (path : List Seg) (entry : Entry) → get names path ≡ Some entry → leads.LeadsTo names path entry (Err (refusal.Namespace NotFound)) → Decided deep (Named path)
  lost deep path entry stands h = inr (refusal.Namespace NotFound, 0, not_found deep path (path_found names [] (from_root path) path entry (Err (refusal.Namespace NotFound)) (below_root path) stands h))

  by_target : (deep : ℕ) (path at : List Seg) (entry other : Entry) → get names path ≡ Some entry → alias_path entry.object ≡ Some at → get names at ≡ Some other → (o : Option (List Seg)) → alias_path other.object ≡ o → Decided deep (Named path)
  by_target deep path at entry other stands is there None none_further = inl (0, named deep path at entry other stands (target at other is there none_further))
  by_target deep path at entry other stands is there (Some next) further = lost deep path entry stands (chain at next other is there further)

  by_alias : (deep : ℕ) (path at : List Seg) (entry : Entry) → get names path ≡ Some entry → alias_path entry.object ≡ Some at → (o : Option Entry) → get names at ≡ o → Decided deep (Named path)
  by_alias deep path at entry stands is None gone = lost deep path entry stands (leads.nothing at is gone)
  by_alias deep path at entry stands is (Some other) there = by_target deep path at entry other stands is there (alias_path other.object) refl

  by_entry : (deep : ℕ) (path : List Seg) (entry : Entry) → get names path ≡ Some entry → (o : Option (List Seg)) → alias_path entry.object ≡ o → Decided deep (Named path)
  by_entry deep path entry stands None is = inl (0, named deep path path entry entry stands (itself is))
  by_entry deep path entry stands (Some at) is = by_alias deep path at entry stands is (get names at) refl

  path_decided : (deep : ℕ) (path : List Seg) (o : Option Entry) → get names path ≡ o → Decided deep (Named path)
  path_decided deep path None gone = inr (refusal.Namespace NotFound, 0, not_found deep path (path_empty names [] (from_root path) path (below_root path) gone))
  path_decided deep path (Some entry) stands = by_entry deep path entry stands (alias_path entry.object) refl

  text_decided : (deep : ℕ) (bytes : List ℕ) → (1048576 < length bytes) ⊎ (length bytes ≤ 1048576) → Decided deep (Text bytes)
  text_decided deep bytes (inl long) = inr (refusal.Evaluation ObjectLimit, 0, long_text deep bytes long refl)
  text_decided deep bytes (inr short) = inl (1, text deep bytes short)

  bytes_decided : (deep : ℕ) (bytes : List ℕ) → (1048576 < length bytes) ⊎ (length bytes ≤ 1048576) → Decided deep (Bytes bytes)
  bytes_decided deep bytes (inl long) = inr (refusal.Evaluation ObjectLimit, 0, many_bytes deep bytes long refl)
  bytes_decided deep bytes (inr short) = inl (1, some_bytes deep bytes short)

  package_decided : (deep : ℕ) (gs : Givens) → AllDecided deep gs → (65535 < many gs) ⊎ (many gs ≤ 65535) → Decided (suc deep) (Package gs)
  package_decided deep gs (inl all) (inl long) = inr (refusal.Evaluation ObjectLimit, all.0, many_elements deep all.0 gs long all.1 refl)
  package_decided deep gs (inl all) (inr few) = inl (suc all.0, of_package deep all.0 gs few all.1)
  package_decided deep gs (inr p) size =
      inr (p.refused_by, p.count + p.rest, subst (λ (hs : Givens). FirstRefusedPart names p.refused_by (suc deep) (p.count + p.rest) (Package hs)) p.is (inside deep p.count p.rest p.before p.others p.part p.may p.refused))

  -- an element before others
  first_decided : (deep : ℕ) (g : Given) (gs : Givens) (list : List Given) → givens list ≡ gs → Decided deep g → AllDecided deep gs → AllDecided deep (more g gs)
  first_decided deep g gs list is (inl one) (inl all) = inl (one.0 + all.0, one_more deep one.0 all.0 g gs one.1 all.1)
  first_decided deep g gs list is (inl one) (inr p) = inr (record {
    before = g ∷ p.before;
    part = p.part;
    others = p.others;
    is = ap (λ (hs : Givens). more g hs) p.is;
    count = one.0 + p.count;
    may = one_more deep one.0 p.count g (givens p.before) one.1 p.may;
    refused_by = p.refused_by;
    rest = p.rest;
    refused = p.refused;
  })
  first_decided deep g gs list is (inr no_part) all = inr (record {
    before = [];
    part = g;
    others = list;
    is = ap (λ (hs : Givens). more g hs) is;
    count = 0;
    may = no_more deep;
    refused_by = no_part.0;
    rest = no_part.1;
    refused = no_part.2;
  })

  listed : (gs : Givens) → (list : List Given) × (givens list ≡ gs)
  listed none = ([], refl)
  listed (more g gs) = let l = listed gs in (g ∷ l.0, ap (λ (hs : Givens). more g hs) l.1)

  mutual
    pub decided : (deep : ℕ) (g : Given) → Decided deep g
    decided deep Nothing = inl (0, nothing deep)
    decided deep (Integer n) = inl (0, integer deep n)
    decided deep (Text bytes) = text_decided deep bytes (cases_lt 1048576 (length bytes))
    decided deep (Bytes bytes) = bytes_decided deep bytes (cases_lt 1048576 (length bytes))
    decided zero (Package gs) = inr (refusal.Evaluation ObjectLimit, 0, too_deep gs refl)
    decided (suc deep) (Package gs) = package_decided deep gs (all_decided deep gs) (cases_lt 65535 (many gs))
    decided deep (Named path) = path_decided deep path (get names path) refl
    decided deep Reference = inr (refusal.Value WrongType, 0, without_path deep refl)

    all_decided : (deep : ℕ) (gs : Givens) → AllDecided deep gs
    all_decided deep none = inl (0, no_more deep)
    all_decided deep (more g gs) = let l = listed gs in first_decided deep g gs l.0 l.1 (decided deep g) (all_decided deep gs)

  pub handed_in_or_refused : (g : Given) → ((count : ℕ) × MayBeHandedIn names 64 count g) ⊎ ((e : Refusal) × (count : ℕ) × FirstRefusedPart names e 64 count g)
  handed_in_or_refused g = decided 64 g
