-- Events over a register space with a counter do what they do without it.
use Rattle.std.specs.Prelude.{ℕ, ◌-◌, ◌==◌, List, Bool, true, false, refl, Option, if◌then◌else◌}
use Rattle.ar_space.specs.Accesses.{Accesses}
use Rattle.ar_space.specs.Change.{Change}
use Rattle.aml_path.specs.declared.segment.Seg.{Seg}
use Rattle.aml_grammar.specs.Tree.{Tree}
use Rattle.aml_objects.specs.declared.value.Reference.{Reference}
use Rattle.aml_objects.specs.declared.value.Reference.TheVariants as reference
use Rattle.aml_objects.specs.declared.value.Slot.{Slot}
use Rattle.aml_objects.specs.declared.value.Slot.TheVariants.{Local, Argument}
use Rattle.aml_objects.specs.declared.value.Value.{Value}
use Rattle.aml_objects.specs.declared.value.Value.TheVariants as value
use Rattle.aml_world.specs.declared.values.store_target.StoreTarget.{StoreTarget}
use Rattle.aml_world.specs.declared.values.store_target.StoreTarget.TheVariants as targets
use Rattle.aml_world.specs.declared.values.operation_kind.EventChange.{EventChange}
use Rattle.aml_world.specs.state.State.{State}
use Rattle.aml_world.specs.state.Run.{Run}
use Rattle.aml_world.specs.values.StoreTargets.{entry_declared}
use Rattle.aml_world.specs.state.Events.{name_referred, named_by_reference, named_by_value, named_by_argument, named_by_slot, name_at, event_named, signals_under, put_signals, event_changed, signal_taken, taken_or_not, waited}
use Rattle.aml_meaning.specs.declared.flow.Flow.{Flow}
use Rattle.aml_meaning.specs.Tasks.{Task}
use Rattle.aml_meaning.specs.TargetTerms.{target_at}
use Rattle.aml_meaning.specs.WideTerms.{event_rule, wait_rule}
use Rattle.aml_laws.specs.Counted.{beside_counter}
use Rattle.aml_laws.proofs.CountedChanges.{Counts, RunCounts, direct_counts, give_counts, lift_counts, on_names_counts, settle_counts, then_counts}
use Rattle.aml_laws.proofs.CountedOperations.{integer_in_counts, integer_kept_counts}
use Rattle.aml_laws.proofs.CountedStoreTargets.{own_slot_counts, declaration_counts, declared_number_counts, tested_counts}
use Rattle.aml_laws.proofs.CountedCalls.{value_at_counts}

module _ {S : Type 0} where
  name_referred_counts : (n : ℕ) → Counts {S = S} (name_referred n) (name_referred n)
  unfolding name_referred
  name_referred_counts n = then_counts _ _ _ _ (tested_counts (reference.Name n)) (λ there. give_counts _)

  named_by_reference_counts : (r : Reference) → Counts {S = S} (named_by_reference r) (named_by_reference r)
  named_by_reference_counts (reference.Name n) = name_referred_counts n
  named_by_reference_counts (reference.Slot slot n) = give_counts _
  named_by_reference_counts (reference.Element o i) = give_counts _
  named_by_reference_counts (reference.Byte o i) = give_counts _

  named_by_value_counts : (v : Value) → Counts {S = S} (named_by_value v) (named_by_value v)
  named_by_value_counts (value.Reference r) = named_by_reference_counts r
  named_by_value_counts value.Uninitialized = give_counts _
  named_by_value_counts (value.Integer n) = give_counts _
  named_by_value_counts (value.String o) = give_counts _
  named_by_value_counts (value.Buffer o) = give_counts _
  named_by_value_counts (value.Package o) = give_counts _

  named_by_slot_counts : (slot : Slot) → Counts {S = S} (named_by_slot slot) (named_by_slot slot)
  unfolding named_by_argument
  named_by_slot_counts (Local i) = give_counts _
  named_by_slot_counts (Argument i) = then_counts _ _ _ _ (own_slot_counts (Argument i)) (λ v. named_by_value_counts v)

  pub event_named_counts : (at : StoreTarget) → Counts {S = S} (event_named at) (event_named at)
  unfolding name_at
  event_named_counts targets.Nowhere = give_counts _
  event_named_counts (targets.Slot slot) = named_by_slot_counts slot
  event_named_counts (targets.Name q) = then_counts _ _ _ _ (declared_number_counts q) (λ n. give_counts _)
  event_named_counts (targets.Refers r) = named_by_reference_counts r

  entry_declared_counts : (n : ℕ) → Counts {S = S} (entry_declared n) (entry_declared n)
  unfolding entry_declared
  entry_declared_counts n = direct_counts _ _ (λ w. refl) (λ w. refl)

  signals_under_counts : (n : ℕ) → Counts {S = S} (signals_under n) (signals_under n)
  unfolding signals_under
  signals_under_counts n = then_counts _ _ _ _ (entry_declared_counts n) (λ e. settle_counts _)

  put_signals_counts : (n count : ℕ) → Counts {S = S} (put_signals n count) (put_signals n count)
  unfolding put_signals
  put_signals_counts n count = then_counts _ _ _ _ (declaration_counts n) (λ e. on_names_counts _)

  pub event_changed_counts : (k : EventChange) (event : Option ℕ) → Counts {S = S} (event_changed k event) (event_changed k event)
  unfolding event_changed
  event_changed_counts k event = then_counts _ _ _ _ (settle_counts _) (λ n. then_counts _ _ _ _ (signals_under_counts n) (λ count. then_counts _ _ _ _ (settle_counts _) (λ after. put_signals_counts n after)))

  either_counts : {A : Type 0} (b : Bool) (m n : Change (State (S × ℕ)) A) (k l : Change (State S) A) → Counts m k → Counts n l → Counts (if b then m else n) (if b then k else l)
  either_counts true m n k l h i = h
  either_counts false m n k l h i = i

  taken_or_not_counts : (n count : ℕ) → Counts {S = S} (taken_or_not n count) (taken_or_not n count)
  unfolding signal_taken
  taken_or_not_counts n count = either_counts (count == 0) _ _ _ _ (integer_kept_counts _) (then_counts _ _ _ _ (put_signals_counts n (count - 1)) (λ done. give_counts _))

  pub waited_counts : (event : Option ℕ) (timeout : Value) → Counts {S = S} (waited event timeout) (waited event timeout)
  unfolding waited
  waited_counts event timeout = then_counts _ _ _ _ (settle_counts _) (λ n. then_counts _ _ _ _ (signals_under_counts n) (λ count. then_counts _ _ _ _ (integer_in_counts timeout) (λ time. taken_or_not_counts n count)))

-- aimed: what finding a target does
module _ {S : Type 0} (accesses : Accesses S) (ev : Task → Run (S × ℕ) Flow) (uncounted : Task → Run S Flow) (parts : (t : Task) → RunCounts (ev t) (uncounted t))
    (aimed : (scope : List Seg) (depth : ℕ) (t : Tree) (i : ℕ) → RunCounts {S = S} (target_at ev scope depth t i) (target_at uncounted scope depth t i)) where
  pub event_rule_counts : (k : EventChange) (scope : List Seg) (depth : ℕ) (t : Tree) → RunCounts {S = S} (event_rule (beside_counter accesses) ev k scope depth t) (event_rule accesses uncounted k scope depth t)
  unfolding event_rule
  event_rule_counts k scope depth t = then_counts _ _ _ _ (aimed scope depth t 0) (λ q. then_counts _ _ _ _ (lift_counts _ _ (event_named_counts q)) (λ e. then_counts _ _ _ _ (lift_counts _ _ (event_changed_counts k e)) (λ done. give_counts _)))

  pub wait_rule_counts : (scope : List Seg) (depth : ℕ) (t : Tree) → RunCounts {S = S} (wait_rule (beside_counter accesses) ev scope depth t) (wait_rule accesses uncounted scope depth t)
  unfolding wait_rule
  wait_rule_counts scope depth t = then_counts _ _ _ _ (aimed scope depth t 0) (λ q. then_counts _ _ _ _ (lift_counts _ _ (event_named_counts q)) (λ e. then_counts _ _ _ _ (value_at_counts accesses ev uncounted parts scope depth t 1) (λ v. then_counts _ _ _ _ (lift_counts _ _ (waited_counts e v)) (λ r. give_counts _))))
