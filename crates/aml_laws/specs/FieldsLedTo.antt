-- Operands of SizeOf and ObjectType, and what they lead to in the end (ACPI 6.5, 19.6: ObjectType, SizeOf).
use Rattle.std.specs.Prelude.{◌≡◌, ℕ, List, Some}
use Rattle.std.specs.FinMap.{get}
use Rattle.ar_space.specs.Accesses.{Accesses}
use Rattle.ar_space.specs.declared.refusal.Refusal.{Refusal}
use Rattle.ar_space.specs.declared.refusal.Refusal.TheVariants as refusal
use Rattle.ar_space.specs.declared.refusal.EvaluationFault.TheVariants.{NoValue}
use Rattle.ar_space.specs.declared.refusal.ValueFault.TheVariants.{WrongType}
use Rattle.aml_path.specs.declared.segment.Seg.{Seg}
use Rattle.aml_grammar.specs.Tree.{Tree, Part, inner}
use Rattle.aml_objects.specs.declared.entry.Entry.{Entry}
use Rattle.aml_objects.specs.declared.value.Slot.{Slot}
use Rattle.aml_objects.specs.declared.value.Value.{Value}
use Rattle.aml_objects.specs.declared.value.Value.TheVariants as value
use Rattle.aml_world.specs.declared.values.object_type.ObjectType.{ObjectType}
use Rattle.aml_world.specs.declared.values.object_type.ObjectType.TheVariants as types
use Rattle.aml_world.specs.declared.values.object_type.Referent.{Referent}
use Rattle.aml_world.specs.declared.values.object_type.Referent.TheVariants as referent
use Rattle.aml_world.specs.declared.values.store_target.StoreTarget.{StoreTarget}
use Rattle.aml_world.specs.declared.values.store_target.StoreTarget.TheVariants as targets
use Rattle.aml_world.specs.state.State.{State}
use Rattle.aml_laws.specs.Limits.{HasType}
use Rattle.aml_laws.specs.OperatorTerms.{NamesTarget, SlotIsEmpty, TargetHolds, GivesValue}
use Rattle.aml_laws.specs.TargetsNamed.{IsReferring, EndsAt}

-- What an operand leads to in the end, and what asking it leaves: a RefOf, a DerefOf or an Index is evaluated, and its
-- value leads there; a local, an argument or a name leads there by what it holds; a name that holds no value is what it
-- is declared as, a slot that holds none leads to no value, and Debug to itself.
pub data AsksOf {S : Type 0} (accesses : Accesses S) (scope : List Seg) (depth : ℕ) (s : State S × ℕ) : Part → Referent → State S × ℕ → Type 0 where
  of_term : (u : Tree) (v : Value) (x : Referent) (after : State S × ℕ) → IsReferring u → GivesValue accesses scope depth u s v after → EndsAt after.0 v x → AsksOf accesses scope depth s (inner u) x after
  of_holder : (p : Part) (t : StoreTarget) (v : Value) (x : Referent) → NamesTarget scope s.0 p t → TargetHolds s.0 t v → EndsAt s.0 v x → AsksOf accesses scope depth s p x s
  of_name : (p : Part) (path : List Seg) (e : Entry) (t : ObjectType) → NamesTarget scope s.0 p (targets.Name path) → get s.0.names.map path ≡ Some e → HasType e.object t → AsksOf accesses scope depth s p (referent.Object t) s
  of_empty_slot : (p : Part) (slot : Slot) → NamesTarget scope s.0 p (targets.Slot slot) → SlotIsEmpty s.0 slot → AsksOf accesses scope depth s p (referent.Value value.Uninitialized) s
  of_debug : (p : Part) → NamesTarget scope s.0 p targets.Nowhere → AsksOf accesses scope depth s p (referent.Object types.DebugObject) s

-- what has no size, and how SizeOf of it is refused: the declaration of what holds no value, as that of a field, a byte,
-- and Debug; an integer; and no value
pub data HasNoSize : Referent → Refusal → Type 0 where
  a_type : (t : ObjectType) → HasNoSize (referent.Object t) (refusal.Value WrongType)
  an_integer : (n : ℕ) → HasNoSize (referent.Value (value.Integer n)) (refusal.Value WrongType)
  no_value : HasNoSize (referent.Value value.Uninitialized) (refusal.Evaluation NoValue)
