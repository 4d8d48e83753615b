-- Increment and Decrement: what their target holds, and what is stored back.
use Rattle.std.specs.Prelude.{◌≡◌, ◌≢◌, ◌<◌, ◌+◌, ◌-◌, ◌^◌, ◌%◌, ℕ, suc, false, List, length, slice_get, Some, Ok, refl}
use Rattle.std.proofs.Common.{arith, ap, ◌∙◌}
use Rattle.ar_space.specs.declared.integer_width.IntegerWidth.{IntegerWidth}
use Rattle.ar_space.specs.declared.integer_width.IntegerWidth.TheVariants.{Bits32, Bits64}
use Rattle.ar_space.specs.Accesses.{Accesses}
use Rattle.ar_space.specs.Change.{give, settle, go_on, ◌>>=◌}
use Rattle.ar_space.specs.Outcome.{Outcome}
use Rattle.aml_path.specs.declared.segment.Seg.{Seg}
use Rattle.aml_grammar.specs.declared.opcode.Opcode.{Opcode}
use Rattle.aml_grammar.specs.declared.opcode.Opcode.TheVariants as opcodes
use Rattle.aml_grammar.specs.Tree.{Tree, Part}
use Rattle.aml_objects.specs.declared.value.Slot.{Slot}
use Rattle.aml_objects.specs.declared.value.Value.{Value}
use Rattle.aml_objects.specs.declared.value.Value.TheVariants as value
use Rattle.aml_convert.specs.Integers.{bits_of, truncated}
use Rattle.aml_world.specs.declared.values.store_target.StoreTarget.{StoreTarget}
use Rattle.aml_world.specs.declared.values.store_target.StoreTarget.TheVariants as targets
use Rattle.aml_world.specs.declared.values.store_target.Held.TheVariants as held
use Rattle.aml_world.specs.declared.values.store_target.Stored.TheVariants as store
use Rattle.aml_world.specs.declared.values.operation_kind.Count.{Count}
use Rattle.aml_world.specs.declared.values.operation_kind.Count.TheVariants as count
use Rattle.aml_world.specs.state.State.{State}
use Rattle.aml_world.specs.state.Run.{lift}
use Rattle.aml_world.specs.values.Stores.{stored}
use Rattle.aml_world.specs.state.Readings.{integer_in}
use Rattle.aml_world.specs.values.Operations.{incremented, decremented, counted_by}
use Rattle.aml_world.specs.values.StoreTargets.{latest_frame, slot_held, own_slot, initialized, slot_read, held_at, name_read, held_in_slot, target_read}
use Rattle.aml_meaning.specs.declared.flow.Flow.TheVariants as flow
use Rattle.aml_meaning.specs.declared.term_kind.TermKind.TheVariants as kinds
use Rattle.aml_meaning.specs.declared.term_kind.OperatorKind.TheVariants as operators
use Rattle.aml_meaning.specs.Terms.{kind_of}
use Rattle.aml_meaning.specs.Tasks.{task}
use Rattle.aml_meaning.specs.OperatorTerms.{count_rule}
use Rattle.aml_meaning.specs.FieldCalls.{stored_to}
use Rattle.aml_meaning.specs.Evaluation.{rule}
use Rattle.aml_meaning.specs.Meaning.{meaning}
use Rattle.aml_laws.specs.OperatorTerms.{counting, NamesTarget, SlotHolds, TargetHolds, in_slot, in_name, Gives, Counts}
use Rattle.aml_laws.proofs.TreesCost.{term_begins}
use Rattle.aml_laws.proofs.OperatorsComputed.{target_is}

-- ---- what targets hold

pub initialized_is : (v : Value) → v ≢ value.Uninitialized → initialized v ≡ Ok v
initialized_is value.Uninitialized some = absurd (some refl)
initialized_is (value.Integer n) some = refl
initialized_is (value.String o) some = refl
initialized_is (value.Buffer o) some = refl
initialized_is (value.Package o) some = refl
initialized_is (value.Reference r) some = refl

module _ {S : Type 0} (w : State S) where
  pub slot_gives : (s : Slot) (v : Value) → SlotHolds w s v → slot_read s w ≡ (Ok v, w)
  unfolding slot_read own_slot latest_frame slot_held settle go_on ◌>>=◌
  slot_gives s v h = rw (h.latest, h.stands, h.holds, initialized_is v h.initialized) refl

  pub target_gives : (t : StoreTarget) (v : Value) → TargetHolds w t v → target_read t w ≡ (Ok (held.Value v), w)
  unfolding held_in_slot name_read held_at settle give go_on ◌>>=◌
  target_gives _ _ (in_slot s v h) = rw (slot_gives s v h) refl
  target_gives _ _ (in_name path number v at) = rw at refl

-- a target that holds a value is no element of a package
module _ {S : Type 0} (accesses : Accesses S) (scope : List Seg) (depth : ℕ) (p : Part) (w : State S) (steps a n : ℕ) (v : Value) (converts : integer_in v w ≡ (Ok a, w)) (k : Count) (op : Opcode) (is : kind_of op ≡ kinds.Operator (operators.Count k)) (counted : counted_by k a w ≡ (Ok (value.Integer n), w))
    (end : State S) where
  ruled : rule accesses (meaning accesses) (task scope depth (counting op p)) (w, steps) ≡ count_rule accesses (meaning accesses) k scope depth (counting op p) (w, steps)
  unfolding rule
  ruled = rw is refl

  count_gives : (t : StoreTarget) → NamesTarget scope w p t → TargetHolds w t v → stored t (value.Integer n) w ≡ (Ok store.Done, end) → count_rule accesses (meaning accesses) k scope depth (counting op p) (w, steps) ≡ (Ok (flow.Value (value.Integer n)), (end, steps))
  unfolding count_rule stored_to settle lift give go_on ◌>>=◌
  count_gives _ names (in_slot s v h) e = rw (target_is accesses scope depth (counting op p) 0 w steps p (targets.Slot s) names refl, target_gives w (targets.Slot s) v (in_slot s v h), converts, counted, e) refl
  count_gives _ names (in_name path number v at) e = rw (target_is accesses scope depth (counting op p) 0 w steps p (targets.Name path) names refl, target_gives w (targets.Name path) v (in_name path number v at), converts, counted, e) refl

  pub count_is : (t : StoreTarget) → NamesTarget scope w p t → TargetHolds w t v → stored t (value.Integer n) w ≡ (Ok store.Done, end) → Gives accesses scope depth (counting op p) (w, suc steps) n (end, steps)
  count_is t names holds e = (term_begins accesses (task scope depth (counting op p))).paid w steps ∙ (ruled ∙ count_gives t names holds e)

-- ---- one more and one less

module _ {S : Type 0} (w : State S) (a : ℕ) where
  pub next_is : counted_by count.Increment a w ≡ (Ok (value.Integer (truncated w.width (a + 1))), w)
  unfolding incremented
  next_is = refl

  abbrev pub less : ℕ
  less = truncated w.width (a + (2 ^ bits_of w.width - truncated w.width 1))

  pub before_is : counted_by count.Decrement a w ≡ (Ok (value.Integer less), w)
  unfolding decremented
  before_is = refl

pub one_less : (width : IntegerWidth) (a : ℕ) → (truncated width (a + (2 ^ bits_of width - truncated width 1)) < 2 ^ bits_of width) × ((truncated width (a + (2 ^ bits_of width - truncated width 1)) + 1) % 2 ^ bits_of width ≡ a % 2 ^ bits_of width)
one_less Bits32 a = (omega arith, omega arith)
one_less Bits64 a = (omega arith, omega arith)

pub increments : {S : Type 0} → Counts S opcodes.Increment (λ width a n. n ≡ (a + 1) % 2 ^ bits_of width)
increments accesses scope depth p t w steps a v names holds converts =
    (truncated w.width (a + 1), refl, λ end e. count_is accesses scope depth p w steps a (truncated w.width (a + 1)) v converts count.Increment opcodes.Increment refl (next_is w a) end t names holds e)

pub decrements : {S : Type 0} → Counts S opcodes.Decrement (λ width a n. (n < 2 ^ bits_of width) × ((n + 1) % 2 ^ bits_of width ≡ a % 2 ^ bits_of width))
decrements accesses scope depth p t w steps a v names holds converts =
    (less w a, one_less w.width a, λ end e. count_is accesses scope depth p w steps a (less w a) v converts count.Decrement opcodes.Decrement refl (before_is w a) end t names holds e)
