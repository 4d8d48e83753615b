-- RefOf, DerefOf and Index where a target stands (ACPI 6.5, 19.6: DerefOf, Index, RefOf; 20.2.2: SuperName).
use Rattle.std.specs.Prelude.{◌≡◌, ◌≢◌, ◌<◌, ◌≤◌, ℕ, suc, List, length, slice_get, Some, None, Err}
use Rattle.std.specs.FinMap.{get}
use Rattle.ar_space.specs.declared.refusal.Refusal.{Refusal}
use Rattle.ar_space.specs.declared.refusal.Refusal.TheVariants as refusal
use Rattle.ar_space.specs.declared.refusal.EvaluationFault.TheVariants.{DeadReference, NoValue}
use Rattle.ar_space.specs.declared.refusal.ValueFault.TheVariants.{WrongType}
use Rattle.ar_space.specs.Accesses.{Accesses}
use Rattle.aml_path.specs.declared.segment.Seg.{Seg}
use Rattle.aml_path.specs.Paths.{Name}
use Rattle.aml_grammar.specs.declared.opcode.Opcode.TheVariants as opcodes
use Rattle.aml_grammar.specs.Tree.{Tree, Part, name, inner}
use Rattle.aml_objects.specs.declared.entry.Entry.{Entry}
use Rattle.aml_objects.specs.declared.object.Element.{Element}
use Rattle.aml_objects.specs.declared.object.Object.TheVariants as object
use Rattle.aml_objects.specs.declared.value.Reference.{Reference}
use Rattle.aml_objects.specs.declared.value.Reference.TheVariants as reference
use Rattle.aml_objects.specs.declared.value.Slot.{Slot}
use Rattle.aml_objects.specs.declared.value.Value.{Value}
use Rattle.aml_objects.specs.declared.value.Value.TheVariants as value
use Rattle.aml_namespace.specs.Namespace.{numbered}
use Rattle.aml_namespace.specs.Numbering.{Numbered}
use Rattle.aml_namespace.specs.Search.{found}
use Rattle.aml_world.specs.declared.values.store_target.StoreTarget.{StoreTarget}
use Rattle.aml_world.specs.declared.values.store_target.StoreTarget.TheVariants as targets
use Rattle.aml_world.specs.state.State.{State}
use Rattle.aml_world.specs.state.Slots.{frame_index}
use Rattle.aml_laws.specs.ObjectTerms.{on_target}
use Rattle.aml_laws.specs.OperatorTerms.{of_one, two_to, NamesTarget, GivesValue, GivesNothing, IsRefused}
use Rattle.aml_laws.specs.ReferringTerms.{HasParts}

-- what a reference refers to stands: a declaration by its number, the frame of a slot, a part of an object
pub data Stands {S : Type 0} (w : State S) : Reference → Type 0 where
  a_name : (path : List Seg) (e : Entry) → Numbered w.names → get w.names.map path ≡ Some e → Stands w (reference.Name e.number)
  a_slot : (s : Slot) (n k : ℕ) → frame_index n w.frames ≡ Some k → Stands w (reference.Slot s n)
  a_part : (v : Value) (i n : ℕ) (f : ℕ → Reference) → HasParts w v n f → i < n → Stands w (f i)

-- or it is gone: no declaration has the number, no frame does, no object, or the object has no such element or byte
pub data IsGone {S : Type 0} (w : State S) : Reference → Type 0 where
  no_name : (n : ℕ) → numbered n w.names.map ≡ None → IsGone w (reference.Name n)
  no_frame : (s : Slot) (n : ℕ) → frame_index n w.frames ≡ None → IsGone w (reference.Slot s n)
  no_package : (o i : ℕ) → slice_get w.objects o ≡ None → IsGone w (reference.Element o i)
  no_element : (o i : ℕ) (es : List Element) → slice_get w.objects o ≡ Some (object.Package es) → length es ≤ i → IsGone w (reference.Element o i)
  no_bytes : (o i : ℕ) → slice_get w.objects o ≡ None → IsGone w (reference.Byte o i)
  no_byte_of_string : (o i : ℕ) (bytes : List ℕ) → slice_get w.objects o ≡ Some (object.String bytes) → slice_get bytes i ≡ None → IsGone w (reference.Byte o i)
  no_byte_of_buffer : (o i : ℕ) (bytes : List ℕ) → slice_get w.objects o ≡ Some (object.Buffer bytes) → slice_get bytes i ≡ None → IsGone w (reference.Byte o i)

-- The target that such a term names, and what it leaves: RefOf that of its operand, which may be a RefOf again, a
-- DerefOf or an Index; DerefOf what the value of its operand refers to; and Index what its own value refers to, once
-- its own target has taken this.
pub data NamesBehind {S : Type 0} (accesses : Accesses S) (scope : List Seg) (depth : ℕ) : Tree → State S × ℕ → StoreTarget → State S × ℕ → Type 0 where
  by_refof : (p : Part) (w : State S) (steps : ℕ) (t : StoreTarget) → NamesTarget scope w p t → NamesBehind accesses scope depth (on_target opcodes.RefOf p) (w, suc steps) t (w, steps)
  by_refof_again : (u : Tree) (w : State S) (steps : ℕ) (t : StoreTarget) (after : State S × ℕ) → NamesBehind accesses scope depth u (w, steps) t after
      → NamesBehind accesses scope depth (on_target opcodes.RefOf (inner u)) (w, suc steps) t after
  by_derefof : (x : Tree) (w : State S) (steps : ℕ) (r : Reference) (after : State S × ℕ) → GivesValue accesses scope depth x (w, steps) (value.Reference r) after → Stands after.0 r
      → NamesBehind accesses scope depth (of_one opcodes.DerefOf x) (w, suc steps) (targets.Refers r) after
  by_index : (x y : Tree) (p : Part) (s : State S × ℕ) (r : Reference) (after : State S × ℕ) → GivesValue accesses scope depth (two_to opcodes.Index x y p) s (value.Reference r) after
      → NamesBehind accesses scope depth (two_to opcodes.Index x y p) s (targets.Refers r) after

-- Or it names none, and is refused: a RefOf as the name of its operand is, or as the term in its place; a DerefOf as
-- its operand is, and where this gives nothing, no reference, or one to what is gone; and an Index as it is where a
-- value stands.
pub data NamesNothingBehind {S : Type 0} (accesses : Accesses S) (scope : List Seg) (depth : ℕ) : Tree → State S × ℕ → Refusal → State S × ℕ → Type 0 where
  unfound_name : (n : Name) (w : State S) (steps : ℕ) (e : Refusal) → found w.names.map scope n ≡ Err e → NamesNothingBehind accesses scope depth (on_target opcodes.RefOf (name n)) (w, suc steps) e (w, steps)
  unfound_again : (u : Tree) (w : State S) (steps : ℕ) (e : Refusal) (after : State S × ℕ) → NamesNothingBehind accesses scope depth u (w, steps) e after
      → NamesNothingBehind accesses scope depth (on_target opcodes.RefOf (inner u)) (w, suc steps) e after
  refused_operand : (x : Tree) (w : State S) (steps : ℕ) (e : Refusal) (after : State S × ℕ) → IsRefused accesses scope depth x (w, steps) e after → NamesNothingBehind accesses scope depth (of_one opcodes.DerefOf x) (w, suc steps) e after
  no_value : (x : Tree) (w : State S) (steps : ℕ) (after : State S × ℕ) → GivesNothing accesses scope depth x (w, steps) after
      → NamesNothingBehind accesses scope depth (of_one opcodes.DerefOf x) (w, suc steps) (refusal.Evaluation NoValue) after
  no_reference : (x : Tree) (w : State S) (steps : ℕ) (v : Value) (after : State S × ℕ) → GivesValue accesses scope depth x (w, steps) v after → ((r : Reference) → v ≢ value.Reference r)
      → NamesNothingBehind accesses scope depth (of_one opcodes.DerefOf x) (w, suc steps) (refusal.Value WrongType) after
  dead_reference : (x : Tree) (w : State S) (steps : ℕ) (r : Reference) (after : State S × ℕ) → GivesValue accesses scope depth x (w, steps) (value.Reference r) after → IsGone after.0 r
      → NamesNothingBehind accesses scope depth (of_one opcodes.DerefOf x) (w, suc steps) (refusal.Evaluation DeadReference) after
  refused_index : (x y : Tree) (p : Part) (s : State S × ℕ) (e : Refusal) (after : State S × ℕ) → IsRefused accesses scope depth (two_to opcodes.Index x y p) s e after
      → NamesNothingBehind accesses scope depth (two_to opcodes.Index x y p) s e after
