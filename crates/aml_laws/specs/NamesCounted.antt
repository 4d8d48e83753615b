-- Increment and Decrement of an element of a package that is a name (ACPI 6.5, 19.6: Decrement, Increment, Package).
use Rattle.std.specs.Prelude.{◌≡◌, ◌<◌, ◌∷◌, ℕ, suc, List, length, take, slice_get, slice_set, Some, Ok, Err}
use Rattle.ar_space.specs.declared.integer_width.IntegerWidth.{IntegerWidth}
use Rattle.ar_space.specs.declared.refusal.Refusal.{Refusal}
use Rattle.ar_space.specs.declared.refusal.Refusal.TheVariants as refusal
use Rattle.ar_space.specs.declared.refusal.ValueFault.TheVariants.{WrongType}
use Rattle.ar_space.specs.Accesses.{Accesses}
use Rattle.aml_path.specs.declared.segment.Seg.{Seg}
use Rattle.aml_path.specs.Paths.{Name}
use Rattle.aml_grammar.specs.declared.opcode.Opcode.{Opcode}
use Rattle.aml_grammar.specs.Tree.{Tree, inner}
use Rattle.aml_objects.specs.declared.entry.Entry.{Entry}
use Rattle.aml_objects.specs.declared.entry.Field.{Field}
use Rattle.aml_objects.specs.declared.entry.NamedObject.TheVariants as named
use Rattle.aml_objects.specs.declared.object.Element.{Element}
use Rattle.aml_objects.specs.declared.object.Element.TheVariants as element
use Rattle.aml_objects.specs.declared.object.Object.TheVariants as object
use Rattle.aml_objects.specs.declared.value.Reference.TheVariants as reference
use Rattle.aml_objects.specs.declared.value.Value.{Value}
use Rattle.aml_objects.specs.declared.value.Value.TheVariants as value
use Rattle.aml_convert.specs.Integers.{bytes_of}
use Rattle.aml_namespace.specs.Search.{found}
use Rattle.aml_world.specs.declared.values.store_target.StoreTarget.TheVariants as targets
use Rattle.aml_world.specs.state.State.{State}
use Rattle.aml_world.specs.state.Readings.{integer_in}
use Rattle.aml_laws.specs.FieldNames.{NamesField, bits_read_at}
use Rattle.aml_laws.specs.IntegersOfValues.{lowest_first}
use Rattle.aml_laws.specs.NamesInPackages.{HoldsName}
use Rattle.aml_laws.specs.NamesUsed.{IsGivenBy}
use Rattle.aml_laws.specs.OperatorTerms.{counting, Gives, IsRefused}
use Rattle.aml_laws.specs.ReferringTargets.{NamesBehind}
use Rattle.aml_laws.specs.StoredNames.{with_object_numbered}
use Rattle.aml_laws.specs.StoredParts.{HoldsNothing}

-- the integer of what a name in a package finds, searched for from the scope where the package was made: of its data,
-- or of the bits of the field, which is read
pub data FindsInteger {S : Type 0} (accesses : Accesses S) (depth : ℕ) (n : Name) (home : List Seg) : State S × ℕ → ℕ → State S × ℕ → Type 0 where
  of_data : (s : State S × ℕ) (path : List Seg) (e : Entry) (v r : Value) (a : ℕ) → found s.0.names.map home n ≡ Ok (path, e) → e.object ≡ named.Data v → IsGivenBy e.number v r → integer_in r s.0 ≡ (Ok a, s.0) → FindsInteger accesses depth n home s a s
  of_field : (s : State S × ℕ) (f : Field) (bits b : ℕ) (bytes : List ℕ) (end : State S × ℕ) → NamesField s.0 home n f bits → bits_read_at accesses depth f s ≡ (Ok (b ∷ bytes), end)
      → FindsInteger accesses depth n home s (lowest_first (take (bytes_of end.0.width) (b ∷ bytes))) end

-- or it finds none: nothing is found, what is found holds nothing, or no value yet, its data doesn't convert, or the
-- field can't be read
pub data FindsNoInteger {S : Type 0} (accesses : Accesses S) (depth : ℕ) (n : Name) (home : List Seg) : State S × ℕ → Refusal → State S × ℕ → Type 0 where
  of_nothing : (s : State S × ℕ) (x : Refusal) → found s.0.names.map home n ≡ Err x → FindsNoInteger accesses depth n home s x s
  of_an_object : (s : State S × ℕ) (path : List Seg) (e : Entry) → found s.0.names.map home n ≡ Ok (path, e) → HoldsNothing e.object → FindsNoInteger accesses depth n home s (refusal.Value WrongType) s
  of_no_value : (s : State S × ℕ) (path : List Seg) (e : Entry) → found s.0.names.map home n ≡ Ok (path, e) → e.object ≡ named.Data value.Uninitialized → FindsNoInteger accesses depth n home s (refusal.Value WrongType) s
  of_other_data : (s : State S × ℕ) (path : List Seg) (e : Entry) (v r : Value) (x : Refusal) → found s.0.names.map home n ≡ Ok (path, e) → e.object ≡ named.Data v → IsGivenBy e.number v r → integer_in r s.0 ≡ (Err x, s.0)
      → FindsNoInteger accesses depth n home s x s
  of_unread_field : (s : State S × ℕ) (f : Field) (bits : ℕ) (x : Refusal) (end : State S × ℕ) → NamesField s.0 home n f bits → bits_read_at accesses depth f s ≡ (Err x, end) → FindsNoInteger accesses depth n home s x end

-- what an operator makes of that integer is its value, and stands in place of the name: nothing else is another, and
-- no field is written
abbrev pub CountsName : Type 0 → Opcode → (IntegerWidth → ℕ → ℕ → Type 0) → Type 0
CountsName S op Is = (accesses : Accesses S) (scope : List Seg) (depth : ℕ) (u : Tree) (w : State S) (steps o i : ℕ) (after : State S × ℕ) → NamesBehind accesses scope depth u (w, steps) (targets.Refers (reference.Element o i)) after → (n : Name) (home : List Seg) → HoldsName after.0 o i n home
    → (a : ℕ) (end : State S × ℕ) → FindsInteger accesses depth n home after a end → (es : List Element) → slice_get end.0.objects o ≡ Some (object.Package es) → i < length es
    → (m : ℕ) × Is end.0.width a m × Gives accesses scope depth (counting op (inner u)) (w, suc steps) m (with_object_numbered end.0 o (object.Package (slice_set es i (element.Value (value.Integer m)))), end.1)

-- and where there is none the operator is refused, and the name stays
abbrev pub CountsNoName : Type 0 → Opcode → Type 0
CountsNoName S op = (accesses : Accesses S) (scope : List Seg) (depth : ℕ) (u : Tree) (w : State S) (steps o i : ℕ) (after : State S × ℕ) → NamesBehind accesses scope depth u (w, steps) (targets.Refers (reference.Element o i)) after → (n : Name) (home : List Seg) → HoldsName after.0 o i n home → (x : Refusal)
    (end : State S × ℕ) → FindsNoInteger accesses depth n home after x end → IsRefused accesses scope depth (counting op (inner u)) (w, suc steps) x end
