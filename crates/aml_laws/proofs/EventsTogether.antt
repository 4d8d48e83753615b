-- Events over two register spaces side by side go the same way until they part.
use Rattle.std.specs.Prelude.{ℕ, ◌-◌, ◌==◌, List, Bool, true, false, refl, Option, if◌then◌else◌}
use Rattle.ar_space.specs.Accesses.{Accesses}
use Rattle.ar_space.specs.Change.{Change}
use Rattle.aml_path.specs.declared.segment.Seg.{Seg}
use Rattle.aml_grammar.specs.Tree.{Tree}
use Rattle.aml_objects.specs.declared.value.Reference.{Reference}
use Rattle.aml_objects.specs.declared.value.Reference.TheVariants as reference
use Rattle.aml_objects.specs.declared.value.Slot.{Slot}
use Rattle.aml_objects.specs.declared.value.Slot.TheVariants.{Local, Argument}
use Rattle.aml_objects.specs.declared.value.Value.{Value}
use Rattle.aml_objects.specs.declared.value.Value.TheVariants as value
use Rattle.aml_world.specs.declared.values.store_target.StoreTarget.{StoreTarget}
use Rattle.aml_world.specs.declared.values.store_target.StoreTarget.TheVariants as targets
use Rattle.aml_world.specs.declared.values.operation_kind.EventChange.{EventChange}
use Rattle.aml_world.specs.state.State.{State}
use Rattle.aml_world.specs.state.Run.{Run}
use Rattle.aml_world.specs.values.StoreTargets.{entry_declared}
use Rattle.aml_world.specs.state.Events.{name_referred, named_by_reference, named_by_value, named_by_argument, named_by_slot, name_at, event_named, signals_under, put_signals, event_changed, signal_taken, taken_or_not, waited}
use Rattle.aml_meaning.specs.declared.flow.Flow.{Flow}
use Rattle.aml_meaning.specs.Tasks.{Task}
use Rattle.aml_meaning.specs.TargetTerms.{target_at}
use Rattle.aml_meaning.specs.WideTerms.{event_rule, wait_rule}
use Rattle.aml_laws.proofs.Together.{Sides, Together, give_together, plain, settle_together, then_together}
use Rattle.aml_laws.proofs.WorldsTogether.{lift_together, names_together, runs, worlds}
use Rattle.aml_laws.proofs.ChangesTogether.{integer_in_together, integer_kept_together}
use Rattle.aml_laws.proofs.StoreTargetsTogether.{own_slot_together, declaration_together, declared_number_together, tested_together}
use Rattle.aml_laws.proofs.Levels.{level}
use Rattle.aml_laws.proofs.OperandsTogether.{PartsTogether, value_at_together}

module _ {S T : Type 0} {accesses : Accesses S} {accesses2 : Accesses T} {side : Sides accesses accesses2} where
  name_referred_together : (n : ℕ) → Together side worlds (name_referred n) (name_referred n)
  unfolding name_referred
  name_referred_together n = then_together (tested_together (reference.Name n)) (λ there. give_together _)

  named_by_reference_together : (r : Reference) → Together side worlds (named_by_reference r) (named_by_reference r)
  named_by_reference_together (reference.Name n) = name_referred_together n
  named_by_reference_together (reference.Slot slot n) = give_together _
  named_by_reference_together (reference.Element o i) = give_together _
  named_by_reference_together (reference.Byte o i) = give_together _

  named_by_value_together : (v : Value) → Together side worlds (named_by_value v) (named_by_value v)
  named_by_value_together (value.Reference r) = named_by_reference_together r
  named_by_value_together value.Uninitialized = give_together _
  named_by_value_together (value.Integer n) = give_together _
  named_by_value_together (value.String o) = give_together _
  named_by_value_together (value.Buffer o) = give_together _
  named_by_value_together (value.Package o) = give_together _

  named_by_slot_together : (slot : Slot) → Together side worlds (named_by_slot slot) (named_by_slot slot)
  unfolding named_by_argument
  named_by_slot_together (Local i) = give_together _
  named_by_slot_together (Argument i) = then_together (own_slot_together (Argument i)) (λ v. named_by_value_together v)

  pub event_named_together : (at : StoreTarget) → Together side worlds (event_named at) (event_named at)
  unfolding name_at
  event_named_together targets.Nowhere = give_together _
  event_named_together (targets.Slot slot) = named_by_slot_together slot
  event_named_together (targets.Name q) = then_together (declared_number_together q) (λ n. give_together _)
  event_named_together (targets.Refers r) = named_by_reference_together r

  entry_declared_together : (n : ℕ) → Together side worlds (entry_declared n) (entry_declared n)
  unfolding entry_declared
  entry_declared_together n = plain (λ w. refl) (λ w. refl) (λ w t. refl)

  signals_under_together : (n : ℕ) → Together side worlds (signals_under n) (signals_under n)
  unfolding signals_under
  signals_under_together n = then_together (entry_declared_together n) (λ e. settle_together _)

  put_signals_together : (n count : ℕ) → Together side worlds (put_signals n count) (put_signals n count)
  unfolding put_signals
  put_signals_together n count = then_together (declaration_together n) (λ e. names_together _)

  pub event_changed_together : (k : EventChange) (event : Option ℕ) → Together side worlds (event_changed k event) (event_changed k event)
  unfolding event_changed
  event_changed_together k event = then_together (settle_together _) (λ n. then_together (signals_under_together n) (λ count. then_together (settle_together _) (λ after. put_signals_together n after)))

  either_together : {A : Type 0} (b : Bool) {m n : Change (State S) A} {k l : Change (State T) A} → Together side worlds m k → Together side worlds n l → Together side worlds (if b then m else n) (if b then k else l)
  either_together true h i = h
  either_together false h i = i

  taken_or_not_together : (n count : ℕ) → Together side worlds (taken_or_not n count) (taken_or_not n count)
  unfolding signal_taken
  taken_or_not_together n count = either_together (count == 0) (integer_kept_together _) (then_together (put_signals_together n (count - 1)) (λ done. give_together _))

  pub waited_together : (event : Option ℕ) (timeout : Value) → Together side worlds (waited event timeout) (waited event timeout)
  unfolding waited
  waited_together event timeout = then_together (settle_together _) (λ n. then_together (signals_under_together n) (λ count. then_together (integer_in_together timeout) (λ time. taken_or_not_together n count)))

-- aimed: what finding a target does
module _ {S T : Type 0} {accesses : Accesses S} {accesses2 : Accesses T} {side : Sides accesses accesses2} {ev : Task → Run S Flow} {ev2 : Task → Run T Flow} (parts : PartsTogether side ev ev2)
    (aimed : (scope : List Seg) (depth : ℕ) (t : Tree) (i : ℕ) → Together (level side depth) runs (target_at ev scope depth t i) (target_at ev2 scope depth t i)) where
  pub event_rule_together : (k : EventChange) (scope : List Seg) (depth : ℕ) (t : Tree) → Together (level side depth) runs (event_rule accesses ev k scope depth t) (event_rule accesses2 ev2 k scope depth t)
  unfolding event_rule
  event_rule_together k scope depth t = then_together (aimed scope depth t 0) (λ q. then_together (lift_together (event_named_together q)) (λ e. then_together (lift_together (event_changed_together k e)) (λ done. give_together _)))

  pub wait_rule_together : (scope : List Seg) (depth : ℕ) (t : Tree) → Together (level side depth) runs (wait_rule accesses ev scope depth t) (wait_rule accesses2 ev2 scope depth t)
  unfolding wait_rule
  wait_rule_together scope depth t = then_together (aimed scope depth t 0) (λ q. then_together (lift_together (event_named_together q)) (λ e. then_together (value_at_together parts scope depth t 1) (λ v. then_together (lift_together (waited_together e v)) (λ r. give_together _))))
