-- Events maintain that what a world holds fits a claim, and so does what Wait gives.
use Rattle.std.specs.Prelude.{ℕ, ◌-◌, ◌==◌, List, Bool, true, false, Option, if◌then◌else◌}
use Rattle.std.proofs.Common.{arith}
use Rattle.ar_space.specs.Accesses.{Accesses}
use Rattle.ar_space.specs.Change.{Change}
use Rattle.aml_path.specs.declared.segment.Seg.{Seg}
use Rattle.aml_grammar.specs.Tree.{Tree}
use Rattle.aml_objects.specs.declared.value.Reference.{Reference}
use Rattle.aml_objects.specs.declared.value.Reference.TheVariants as reference
use Rattle.aml_objects.specs.declared.value.Slot.{Slot}
use Rattle.aml_objects.specs.declared.value.Slot.TheVariants.{Local, Argument}
use Rattle.aml_objects.specs.declared.value.Value.{Value}
use Rattle.aml_objects.specs.declared.value.Value.TheVariants as value
use Rattle.aml_world.specs.declared.values.store_target.StoreTarget.{StoreTarget}
use Rattle.aml_world.specs.declared.values.store_target.StoreTarget.TheVariants as targets
use Rattle.aml_world.specs.declared.values.operation_kind.EventChange.{EventChange}
use Rattle.aml_world.specs.state.State.{State}
use Rattle.aml_world.specs.state.Run.{Run}
use Rattle.aml_world.specs.values.StoreTargets.{declared_number, entry_declared}
use Rattle.aml_world.specs.state.Events.{name_referred, named_by_reference, named_by_value, named_by_argument, named_by_slot, name_at, event_named, signals_under, put_signals, event_changed, signal_taken, taken_or_not, waited}
use Rattle.aml_meaning.specs.declared.flow.Flow.{Flow}
use Rattle.aml_meaning.specs.Tasks.{Task}
use Rattle.aml_meaning.specs.TargetTerms.{target_at}
use Rattle.aml_meaning.specs.WideTerms.{event_rule, wait_rule}
use Rattle.aml_laws.proofs.ReadingStepsGiveBytes.{Any}
use Rattle.aml_laws.proofs.Invariants.{Maintains, settled_maintained, give_maintains, settle_maintains, then_maintains}
use Rattle.aml_laws.proofs.IntegersOfOperators.{small_number_fits}
use Rattle.aml_laws.proofs.ValuesOfWorlds.{WorldWithin, integer_in_maintains, integer_kept_maintains, replaced_maintains}
use Rattle.aml_laws.proofs.ValuesOfFields.{RunWithin, lift_maintains}
use Rattle.aml_laws.proofs.Claims.{Claim, ValueFits, TreeFits}
use Rattle.aml_laws.proofs.ValuesOfTargets.{TargetFits, own_slot_maintains, declaration_maintains, tested_maintains}
use Rattle.aml_laws.proofs.ValuesOfOperands.{PartsMaintain, FlowFits, value_at_maintains}

module _ (S : Type 0) (claim : Claim) where
  named_by_reference_maintains : (r : Reference) → Maintains (WorldWithin S claim) Any (named_by_reference r)
  unfolding name_referred
  named_by_reference_maintains (reference.Name n) = then_maintains _ _ (tested_maintains S claim (reference.Name n)) (λ there u. give_maintains _ tt)
  named_by_reference_maintains (reference.Slot slot n) = give_maintains _ tt
  named_by_reference_maintains (reference.Element o i) = give_maintains _ tt
  named_by_reference_maintains (reference.Byte o i) = give_maintains _ tt

  named_by_value_maintains : (v : Value) → Maintains (WorldWithin S claim) Any (named_by_value v)
  named_by_value_maintains (value.Reference r) = named_by_reference_maintains r
  named_by_value_maintains value.Uninitialized = give_maintains _ tt
  named_by_value_maintains (value.Integer n) = give_maintains _ tt
  named_by_value_maintains (value.String o) = give_maintains _ tt
  named_by_value_maintains (value.Buffer o) = give_maintains _ tt
  named_by_value_maintains (value.Package o) = give_maintains _ tt

  named_by_slot_maintains : (slot : Slot) → Maintains (WorldWithin S claim) Any (named_by_slot slot)
  unfolding named_by_argument
  named_by_slot_maintains (Local i) = give_maintains _ tt
  named_by_slot_maintains (Argument i) = then_maintains _ _ (own_slot_maintains S claim (Argument i)) (λ v f. named_by_value_maintains v)

  declared_number_maintains : (q : List Seg) → Maintains (WorldWithin S claim) Any (declared_number q)
  unfolding declared_number
  declared_number_maintains q = record { maintains = λ w i. settled_maintained _ w i (λ n e. tt) }

  event_named_maintains : (at : StoreTarget) → Maintains (WorldWithin S claim) Any (event_named at)
  unfolding name_at
  event_named_maintains targets.Nowhere = give_maintains _ tt
  event_named_maintains (targets.Slot slot) = named_by_slot_maintains slot
  event_named_maintains (targets.Name q) = then_maintains _ _ (declared_number_maintains q) (λ n u. give_maintains _ tt)
  event_named_maintains (targets.Refers r) = named_by_reference_maintains r

  entry_declared_maintains : (n : ℕ) → Maintains (WorldWithin S claim) Any (entry_declared n)
  unfolding entry_declared
  entry_declared_maintains n = record { maintains = λ w i. settled_maintained _ w i (λ x e. tt) }

  signals_under_maintains : (n : ℕ) → Maintains (WorldWithin S claim) Any (signals_under n)
  unfolding signals_under
  signals_under_maintains n = then_maintains _ _ (entry_declared_maintains n) (λ e u. settle_maintains _ (λ a x. tt))

  put_signals_maintains : (n count : ℕ) → Maintains (WorldWithin S claim) Any (put_signals n count)
  unfolding put_signals
  put_signals_maintains n count = then_maintains _ _ (declaration_maintains S claim n) (λ e f. replaced_maintains S claim e.0 _ tt)

  event_changed_maintains : (k : EventChange) (event : Option ℕ) → Maintains (WorldWithin S claim) Any (event_changed k event)
  unfolding event_changed
  event_changed_maintains k event =
      then_maintains {Fit = Any} _ _ (settle_maintains _ (λ a x. tt)) (λ n u. then_maintains _ _ (signals_under_maintains n) (λ count v. then_maintains {Fit = Any} _ _ (settle_maintains _ (λ a x. tt)) (λ after y. put_signals_maintains n after)))

  either_maintains : (b : Bool) (m n : Change (State S) Value) → Maintains (WorldWithin S claim) (ValueFits claim) m → Maintains (WorldWithin S claim) (ValueFits claim) n → Maintains (WorldWithin S claim) (ValueFits claim) (if b then m else n)
  either_maintains true m n h i = h
  either_maintains false m n h i = i

  taken_or_not_maintains : (n count : ℕ) → Maintains (WorldWithin S claim) (ValueFits claim) (taken_or_not n count)
  unfolding signal_taken
  taken_or_not_maintains n count = either_maintains (count == 0) _ _ (integer_kept_maintains S claim _) (then_maintains _ _ (put_signals_maintains n (count - 1)) (λ done u. give_maintains _ (λ m. small_number_fits claim.width 0 (omega arith))))

  waited_maintains : (event : Option ℕ) (timeout : Value) → ValueFits claim timeout → Maintains (WorldWithin S claim) (ValueFits claim) (waited event timeout)
  unfolding waited
  waited_maintains event timeout f =
      then_maintains {Fit = Any} _ _ (settle_maintains _ (λ a x. tt)) (λ n u. then_maintains _ _ (signals_under_maintains n) (λ count v. then_maintains _ _ (integer_in_maintains S claim timeout f) (λ time y. taken_or_not_maintains n count)))

-- aimed: what finding a target does
module _ (S : Type 0) (claim : Claim) (accesses : Accesses S) (ev : Task → Run S Flow) (parts : PartsMaintain S claim accesses ev)
    (aimed : (scope : List Seg) (depth : ℕ) (t : Tree) (i : ℕ) → TreeFits claim t → Maintains (RunWithin S claim) (TargetFits claim) (target_at ev scope depth t i)) where
  pub event_rule_maintains : (k : EventChange) (scope : List Seg) (depth : ℕ) (t : Tree) → TreeFits claim t → Maintains (RunWithin S claim) (FlowFits claim) (event_rule accesses ev k scope depth t)
  unfolding event_rule
  event_rule_maintains k scope depth t h = then_maintains _ _ (aimed scope depth t 0 h) (λ q u. then_maintains _ _ (lift_maintains S claim _ (event_named_maintains S claim q)) (λ e v. then_maintains _ _ (lift_maintains S claim _ (event_changed_maintains S claim k e)) (λ done x. give_maintains _ tt)))

  pub wait_rule_maintains : (scope : List Seg) (depth : ℕ) (t : Tree) → TreeFits claim t → Maintains (RunWithin S claim) (FlowFits claim) (wait_rule accesses ev scope depth t)
  unfolding wait_rule
  wait_rule_maintains scope depth t h = then_maintains _ _ (aimed scope depth t 0 h) (λ q u. then_maintains _ _ (lift_maintains S claim _ (event_named_maintains S claim q)) (λ e v. then_maintains _ _ (value_at_maintains S claim accesses ev parts scope depth t 1 h) (λ y f. then_maintains _ _ (lift_maintains S claim _ (waited_maintains S claim e y f)) (λ r g. give_maintains _ g))))
