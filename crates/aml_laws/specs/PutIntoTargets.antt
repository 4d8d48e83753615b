-- Terms that put what they give into a target (ACPI 6.5, 19.3.5.8, 19.6 and 20.2.2: SuperName, Target).
use Rattle.std.specs.Prelude.{◌≡◌, ◌-◌, ◌^◌, ℕ, suc, List, ◌∷◌, take, Some, Ok, Err}
use Rattle.std.specs.FinMap.{get}
use Rattle.ar_space.specs.declared.integer_width.IntegerWidth.{IntegerWidth}
use Rattle.ar_space.specs.declared.refusal.Refusal.{Refusal}
use Rattle.ar_space.specs.Accesses.{Accesses}
use Rattle.ar_space.specs.Change.{Change}
use Rattle.ar_space.specs.Outcome.{Outcome}
use Rattle.aml_path.specs.declared.segment.Seg.{Seg}
use Rattle.aml_grammar.specs.declared.opcode.Opcode.{Opcode}
use Rattle.aml_grammar.specs.declared.opcode.Opcode.TheVariants as opcodes
use Rattle.aml_grammar.specs.Tree.{Tree, Part, null}
use Rattle.aml_objects.specs.Contents.{Integer, content_in}
use Rattle.aml_objects.specs.declared.entry.Entry.{Entry}
use Rattle.aml_objects.specs.declared.entry.Field.{Field}
use Rattle.aml_objects.specs.declared.value.Reference.{Reference}
use Rattle.aml_objects.specs.declared.value.Reference.TheVariants as reference
use Rattle.aml_objects.specs.declared.value.Value.{Value}
use Rattle.aml_objects.specs.declared.value.Value.TheVariants as value
use Rattle.aml_convert.specs.Conversions.{to_buffer_of}
use Rattle.aml_convert.specs.Integers.{bits_of, bytes_of}
use Rattle.aml_world.specs.declared.values.store_target.Held.TheVariants as held
use Rattle.aml_world.specs.declared.values.store_target.StoreTarget.{StoreTarget}
use Rattle.aml_world.specs.declared.values.store_target.StoreTarget.TheVariants as targets
use Rattle.aml_world.specs.declared.values.store_target.Stored.{Stored}
use Rattle.aml_world.specs.declared.values.store_target.Stored.TheVariants as store
use Rattle.aml_world.specs.state.State.{State}
use Rattle.aml_world.specs.state.Readings.{integer_in}
use Rattle.aml_world.specs.values.Stores.{stored, copied_to}
use Rattle.aml_world.specs.values.StoreTargets.{dereferenced}
use Rattle.aml_world.specs.values.FormedStores.{formed_to}
use Rattle.aml_laws.specs.FieldNames.{IsField, bits_read_at, bits_written_at}
use Rattle.aml_laws.specs.IntegersOfValues.{lowest_first}
use Rattle.aml_laws.specs.JoinedTerms.{middle}
use Rattle.aml_laws.specs.OperatorTerms.{one_to, two_to, counting, TargetHolds, GivesValue, Gives, IsRefused}
use Rattle.aml_laws.specs.TargetsNamed.{NamesAt, NamesNone}

-- ---- terms with a target

-- an operator with one operand whose value is stored
pub data StoresOfOne : Opcode → Type 0 where
  of_not : StoresOfOne opcodes.Not
  of_highest_bit : StoresOfOne opcodes.FindSetLeftBit
  of_lowest_bit : StoresOfOne opcodes.FindSetRightBit
  of_buffer : StoresOfOne opcodes.ToBuffer
  of_integer : StoresOfOne opcodes.ToInteger

-- an operator with two operands whose value is stored
pub data StoresOfTwo : Opcode → Type 0 where
  of_sum : StoresOfTwo opcodes.Add
  of_difference : StoresOfTwo opcodes.Subtract
  of_product : StoresOfTwo opcodes.Multiply
  of_remainder : StoresOfTwo opcodes.Mod
  of_and : StoresOfTwo opcodes.And
  of_nand : StoresOfTwo opcodes.Nand
  of_or : StoresOfTwo opcodes.Or
  of_nor : StoresOfTwo opcodes.Nor
  of_xor : StoresOfTwo opcodes.Xor
  of_left_shift : StoresOfTwo opcodes.ShiftLeft
  of_right_shift : StoresOfTwo opcodes.ShiftRight
  of_joined_values : StoresOfTwo opcodes.Concat
  of_joined_resources : StoresOfTwo opcodes.ConcatRes
  of_index : StoresOfTwo opcodes.Index

-- a conversion of the wide profile with one operand, whose value isn't converted again
pub data FormsOfOne : Opcode → Type 0 where
  of_decimal_string : FormsOfOne opcodes.ToDecimalString
  of_hexadecimal_string : FormsOfOne opcodes.ToHexString
  from_coded_decimal : FormsOfOne opcodes.FromBcd
  to_coded_decimal : FormsOfOne opcodes.ToBcd

-- how a term puts its value into its target: as Store does, as CopyObject does, or without another conversion
pub data PutsBy {S : Type 0} : (StoreTarget → Value → Change (State S) Stored) → (Part → Tree) → Type 0 where
  by_store : (x : Tree) → PutsBy stored (λ p. one_to opcodes.Store x p)
  by_copy : (x : Tree) → PutsBy copied_to (λ p. one_to opcodes.CopyObject x p)
  by_one : (op : Opcode) → StoresOfOne op → (x : Tree) → PutsBy stored (λ p. one_to op x p)
  by_two : (op : Opcode) → StoresOfTwo op → (x y : Tree) → PutsBy stored (λ p. two_to op x y p)
  by_part : (x y z : Tree) → PutsBy stored (λ p. middle x y z p)
  by_form : (op : Opcode) → FormsOfOne op → (x : Tree) → PutsBy formed_to (λ p. one_to op x p)
  by_string : (x y : Tree) → PutsBy formed_to (λ p. two_to opcodes.ToString x y p)

-- ---- targets

-- What comes of a value that is put into a target: it is stored there or refused, or there is a field. Then it is
-- converted to bytes, and these are written as the field's bits.
pub data ComesOfTarget {S : Type 0} (accesses : Accesses S) (depth : ℕ) (put : StoreTarget → Value → Change (State S) Stored) (t : StoreTarget) (v : Value) (s : State S × ℕ) : Outcome (Unit {0}) → State S × ℕ → Type 0 where
  stored_there : (end : State S) → put t v s.0 ≡ (Ok store.Done, end) → ComesOfTarget accesses depth put t v s (Ok tt) (end, s.1)
  refused_there : (e : Refusal) (end : State S) → put t v s.0 ≡ (Err e, end) → ComesOfTarget accesses depth put t v s (Err e) (end, s.1)
  unconverted : (f : Field) (there : State S) → put t v s.0 ≡ (Ok (store.Field f), there) → (e : Refusal) → to_buffer_of there.width (content_in there.objects v) ≡ Err e → ComesOfTarget accesses depth put t v s (Err e) (there, s.1)
  written : (f : Field) (there : State S) → put t v s.0 ≡ (Ok (store.Field f), there) → (bytes : List ℕ) → to_buffer_of there.width (content_in there.objects v) ≡ Ok bytes
      → (o : Outcome (Unit {0})) (after : State S × ℕ) → bits_written_at accesses depth f bytes (there, s.1) ≡ (o, after) → ComesOfTarget accesses depth put t v s o after

module _ {S : Type 0} (accesses : Accesses S) (scope : List Seg) (depth : ℕ) where
  -- what comes of a value that is put into the target that an operand names: it is refused where that is
  pub data ComesOfPut (put : StoreTarget → Value → Change (State S) Stored) (p : Part) (v : Value) (s : State S × ℕ) : Outcome (Unit {0}) → State S × ℕ → Type 0 where
    not_named : (e : Refusal) (after : State S × ℕ) → NamesNone accesses scope depth s p e after → ComesOfPut put p v s (Err e) after
    named_so : (t : StoreTarget) (between : State S × ℕ) → NamesAt accesses scope depth s p t between → (o : Outcome (Unit {0})) (after : State S × ℕ) → ComesOfTarget accesses depth put t v between o after → ComesOfPut put p v s o after

  -- it is taken, or refused
  abbrev pub IsTaken : (StoreTarget → Value → Change (State S) Stored) → Part → Value → State S × ℕ → State S × ℕ → Type 0
  IsTaken put p v s after = ComesOfPut put p v s (Ok tt) after

  abbrev pub IsNotTaken : (StoreTarget → Value → Change (State S) Stored) → Part → Value → State S × ℕ → Refusal → State S × ℕ → Type 0
  IsNotTaken put p v s e after = ComesOfPut put p v s (Err e) after

-- ---- what terms do

-- What a term gives without a target is put into the target that its operand names, and is its value; where it isn't
-- taken there, the term is refused.
abbrev pub PutsWhatItGives : (S : Type 0) → (StoreTarget → Value → Change (State S) Stored) → (Part → Tree) → Type 0
PutsWhatItGives S put t = (accesses : Accesses S) (scope : List Seg) (depth : ℕ) (w : State S) (steps : ℕ) (v : Value) (between : State S × ℕ) → GivesValue accesses scope depth (t null) (w, suc steps) v between → (p : Part) (after : State S × ℕ)
    → (IsTaken accesses scope depth put p v between after → GivesValue accesses scope depth (t p) (w, suc steps) v after)
    × ((e : Refusal) → IsNotTaken accesses scope depth put p v between e after → IsRefused accesses scope depth (t p) (w, suc steps) e after)

-- once its operand is evaluated, a term gives Ones where its target takes a reference, and is refused where it doesn't
abbrev pub PutsReferenceAfter : {S : Type 0} → Accesses S → List Seg → ℕ → Tree → State S × ℕ → State S × ℕ → Part → Reference → Type 0
PutsReferenceAfter {S} accesses scope depth t s between q r = (end : State S × ℕ)
    → (IsTaken accesses scope depth stored q (value.Reference r) between end → Gives accesses scope depth t (s.0, suc s.1) (2 ^ bits_of end.0.width - 1) end)
    × ((e : Refusal) → IsNotTaken accesses scope depth stored q (value.Reference r) between e end → IsRefused accesses scope depth t (s.0, suc s.1) e end)

-- the same of a term whose operand changes nothing
abbrev pub PutsReference : {S : Type 0} → Accesses S → List Seg → ℕ → Tree → State S × ℕ → Part → Reference → Type 0
PutsReference accesses scope depth t s q r = PutsReferenceAfter accesses scope depth t s s q r

-- ---- Increment and Decrement

pub data IsCount : Opcode → Type 0 where
  upwards : IsCount opcodes.Increment
  downwards : IsCount opcodes.Decrement

-- a value stands in a target: a slot or a name holds it, or it is what a reference refers to
pub data StandsAt {S : Type 0} (w : State S) : StoreTarget → Value → Type 0 where
  in_place : (t : StoreTarget) (v : Value) → TargetHolds w t v → StandsAt w t v
  referred : (r : Reference) (v : Value) → dereferenced r w ≡ (Ok (held.Value v), w) → StandsAt w (targets.Refers r) v

-- or a field does: a name of it is found, or a reference refers to its declaration
pub data IsFieldAt {S : Type 0} (w : State S) : StoreTarget → Field → Type 0 where
  named_there : (path : List Seg) (e : Entry) (f : Field) (bits : ℕ) → get w.names.map path ≡ Some e → IsField e.object f bits → IsFieldAt w (targets.Name path) f
  referred_there : (n : ℕ) (f : Field) → dereferenced (reference.Name n) w ≡ (Ok (held.Field f), w) → IsFieldAt w (targets.Refers (reference.Name n)) f

-- what an operator makes of the integer that the value in its target converts to is put back there, and is its value
abbrev pub CountsTarget : Type 0 → Opcode → (IntegerWidth → ℕ → ℕ → Type 0) → Type 0
CountsTarget S op Is = (accesses : Accesses S) (scope : List Seg) (depth : ℕ) (p : Part) (w : State S) (steps a : ℕ) (t : StoreTarget) (between : State S × ℕ) (v : Value) → NamesAt accesses scope depth (w, steps) p t between → StandsAt between.0 t v → integer_in v between.0 ≡ (Ok a, between.0)
    → (n : ℕ) × Is between.0.width a n
    × ((after : State S × ℕ) → (ComesOfTarget accesses depth stored t (value.Integer n) between (Ok tt) after → Gives accesses scope depth (counting op p) (w, suc steps) n after)
    × ((e : Refusal) → ComesOfTarget accesses depth stored t (value.Integer n) between (Err e) after → IsRefused accesses scope depth (counting op p) (w, suc steps) e after))

-- and of the integer that the bits of a field are, which is written back as these
abbrev pub CountsFieldAt : Type 0 → Opcode → (IntegerWidth → ℕ → ℕ → Type 0) → Type 0
CountsFieldAt S op Is = (accesses : Accesses S) (scope : List Seg) (depth : ℕ) (p : Part) (w : State S) (steps : ℕ) (t : StoreTarget) (between : State S × ℕ) (f : Field) → NamesAt accesses scope depth (w, steps) p t between → IsFieldAt between.0 t f
    → (b : ℕ) (bytes : List ℕ) (end : State S × ℕ) → bits_read_at accesses depth f between ≡ (Ok (b ∷ bytes), end)
    → (n : ℕ) × Is end.0.width (lowest_first (take (bytes_of end.0.width) (b ∷ bytes))) n
    × ((out : List ℕ) (after : State S × ℕ) → to_buffer_of end.0.width (Integer n) ≡ Ok out → (bits_written_at accesses depth f out end ≡ (Ok tt, after) → Gives accesses scope depth (counting op p) (w, suc steps) n after)
    × ((e : Refusal) → bits_written_at accesses depth f out end ≡ (Err e, after) → IsRefused accesses scope depth (counting op p) (w, suc steps) e after))

-- or there is no integer, and it is refused: no target is found, its value doesn't convert, or its field can't be read
pub data CountsNothing {S : Type 0} (accesses : Accesses S) (scope : List Seg) (depth : ℕ) (p : Part) (s : State S × ℕ) : Refusal → State S × ℕ → Type 0 where
  no_target : (e : Refusal) (after : State S × ℕ) → NamesNone accesses scope depth s p e after → CountsNothing accesses scope depth p s e after
  no_integer : (t : StoreTarget) (between : State S × ℕ) (v : Value) (e : Refusal) → NamesAt accesses scope depth s p t between → StandsAt between.0 t v → integer_in v between.0 ≡ (Err e, between.0) → CountsNothing accesses scope depth p s e between
  unread : (t : StoreTarget) (between : State S × ℕ) (f : Field) (e : Refusal) (after : State S × ℕ) → NamesAt accesses scope depth s p t between → IsFieldAt between.0 t f → bits_read_at accesses depth f between ≡ (Err e, after) → CountsNothing accesses scope depth p s e after
