-- Events are refused by no fault of the register space.
use Rattle.std.specs.Prelude.{ℕ, ◌-◌, ◌==◌, List, Bool, true, false, refl, Option, Some, None, if◌then◌else◌}
use Rattle.ar_space.specs.Accesses.{Accesses}
use Rattle.ar_space.specs.Change.{Change}
use Rattle.aml_path.specs.declared.segment.Seg.{Seg}
use Rattle.aml_grammar.specs.Tree.{Tree}
use Rattle.aml_objects.specs.declared.entry.NamedObject.{NamedObject}
use Rattle.aml_objects.specs.declared.entry.NamedObject.TheVariants as object
use Rattle.aml_namespace.specs.Namespace.{numbered}
use Rattle.aml_objects.specs.declared.value.Reference.{Reference}
use Rattle.aml_objects.specs.declared.value.Reference.TheVariants as reference
use Rattle.aml_objects.specs.declared.value.Slot.{Slot}
use Rattle.aml_objects.specs.declared.value.Slot.TheVariants.{Local, Argument}
use Rattle.aml_objects.specs.declared.value.Value.{Value}
use Rattle.aml_objects.specs.declared.value.Value.TheVariants as value
use Rattle.aml_world.specs.declared.values.store_target.StoreTarget.{StoreTarget}
use Rattle.aml_world.specs.declared.values.store_target.StoreTarget.TheVariants as targets
use Rattle.aml_world.specs.declared.values.operation_kind.EventChange.{EventChange}
use Rattle.aml_world.specs.declared.values.operation_kind.EventChange.TheVariants as changes
use Rattle.aml_world.specs.state.State.{State}
use Rattle.aml_world.specs.state.Run.{Run}
use Rattle.aml_world.specs.values.StoreTargets.{entry_declared}
use Rattle.aml_world.specs.state.Events.{name_referred, named_by_reference, named_by_value, named_by_argument, named_by_slot, name_at, event_named, named_or_not, signals_of, signals_after, signals_under, put_signals, event_changed, signal_taken, taken_or_not, waited}
use Rattle.aml_meaning.specs.declared.flow.Flow.{Flow}
use Rattle.aml_meaning.specs.Tasks.{Task}
use Rattle.aml_meaning.specs.TargetTerms.{target_at}
use Rattle.aml_meaning.specs.WideTerms.{event_rule, wait_rule}
use Rattle.aml_laws.proofs.CleanNames.{replaced_clean}
use Rattle.aml_laws.proofs.CleanOutcomes.{Clean, seen_clean}
use Rattle.aml_laws.proofs.CleanWorlds.{once_more_clean, or_gone_clean}
use Rattle.aml_laws.proofs.FaultsOfChanges.{RunExplains, WorldExplains, direct_explains, give_explains, lift_explains, on_names_explains, settle_explains, then_explains}
use Rattle.aml_laws.proofs.FaultsOfOperations.{integer_in_explains, integer_kept_explains}
use Rattle.aml_laws.proofs.FaultsOfStoreTargets.{own_slot_explains, declaration_explains, declared_number_explains, tested_explains}
use Rattle.aml_laws.proofs.FaultsOfCalls.{value_at_explains}

signals_of_clean : (o : NamedObject) → Clean (signals_of o)
signals_of_clean (object.Event n) = tt
signals_of_clean _ = tt

named_or_not_clean : (event : Option ℕ) → Clean (named_or_not event)
named_or_not_clean None = tt
named_or_not_clean (Some n) = tt

signals_after_clean : (k : EventChange) (count : ℕ) → Clean (signals_after k count)
signals_after_clean changes.Signal count = once_more_clean count
signals_after_clean changes.Reset count = tt

module _ {S : Type 0} {accesses : Accesses S} where
  name_referred_explains : (n : ℕ) → WorldExplains accesses (name_referred n)
  unfolding name_referred
  name_referred_explains n = then_explains _ _ (tested_explains (reference.Name n)) (λ there. give_explains _)

  named_by_reference_explains : (r : Reference) → WorldExplains accesses (named_by_reference r)
  named_by_reference_explains (reference.Name n) = name_referred_explains n
  named_by_reference_explains (reference.Slot slot n) = give_explains _
  named_by_reference_explains (reference.Element o i) = give_explains _
  named_by_reference_explains (reference.Byte o i) = give_explains _

  named_by_value_explains : (v : Value) → WorldExplains accesses (named_by_value v)
  named_by_value_explains (value.Reference r) = named_by_reference_explains r
  named_by_value_explains value.Uninitialized = give_explains _
  named_by_value_explains (value.Integer n) = give_explains _
  named_by_value_explains (value.String o) = give_explains _
  named_by_value_explains (value.Buffer o) = give_explains _
  named_by_value_explains (value.Package o) = give_explains _

  named_by_slot_explains : (slot : Slot) → WorldExplains accesses (named_by_slot slot)
  unfolding named_by_argument
  named_by_slot_explains (Local i) = give_explains _
  named_by_slot_explains (Argument i) = then_explains _ _ (own_slot_explains (Argument i)) (λ v. named_by_value_explains v)

  pub event_named_explains : (at : StoreTarget) → WorldExplains accesses (event_named at)
  unfolding name_at
  event_named_explains targets.Nowhere = give_explains _
  event_named_explains (targets.Slot slot) = named_by_slot_explains slot
  event_named_explains (targets.Name q) = then_explains _ _ (declared_number_explains q) (λ n. give_explains _)
  event_named_explains (targets.Refers r) = named_by_reference_explains r

  entry_declared_explains : (n : ℕ) → WorldExplains accesses (entry_declared n)
  unfolding entry_declared
  entry_declared_explains n = direct_explains _ (λ w. seen_clean _ _ (or_gone_clean (numbered n w.names.map))) (λ w. refl)

  signals_under_explains : (n : ℕ) → WorldExplains accesses (signals_under n)
  unfolding signals_under
  signals_under_explains n = then_explains _ _ (entry_declared_explains n) (λ e. settle_explains _ (signals_of_clean e.object))

  put_signals_explains : (n count : ℕ) → WorldExplains accesses (put_signals n count)
  unfolding put_signals
  put_signals_explains n count = then_explains _ _ (declaration_explains n) (λ e. on_names_explains _ (replaced_clean _ _))

  pub event_changed_explains : (k : EventChange) (event : Option ℕ) → WorldExplains accesses (event_changed k event)
  unfolding event_changed
  event_changed_explains k event = then_explains _ _ (settle_explains _ (named_or_not_clean event)) (λ n. then_explains _ _ (signals_under_explains n) (λ count. then_explains _ _ (settle_explains _ (signals_after_clean k count)) (λ after. put_signals_explains n after)))

  either_explains : {A : Type 0} (b : Bool) (m n : Change (State S) A) → WorldExplains accesses m → WorldExplains accesses n → WorldExplains accesses (if b then m else n)
  either_explains true m n h i = h
  either_explains false m n h i = i

  taken_or_not_explains : (n count : ℕ) → WorldExplains accesses (taken_or_not n count)
  unfolding signal_taken
  taken_or_not_explains n count = either_explains (count == 0) _ _ (integer_kept_explains _) (then_explains _ _ (put_signals_explains n (count - 1)) (λ done. give_explains _))

  pub waited_explains : (event : Option ℕ) (timeout : Value) → WorldExplains accesses (waited event timeout)
  unfolding waited
  waited_explains event timeout = then_explains _ _ (settle_explains _ (named_or_not_clean event)) (λ n. then_explains _ _ (signals_under_explains n) (λ count. then_explains _ _ (integer_in_explains timeout) (λ time. taken_or_not_explains n count)))

-- aimed: what finding a target does
module _ {S : Type 0} (accesses : Accesses S) (ev : Task → Run S Flow) (parts : (t : Task) → RunExplains accesses (ev t))
    (aimed : (scope : List Seg) (depth : ℕ) (t : Tree) (i : ℕ) → RunExplains accesses (target_at ev scope depth t i)) where
  pub event_rule_explains : (k : EventChange) (scope : List Seg) (depth : ℕ) (t : Tree) → RunExplains accesses (event_rule accesses ev k scope depth t)
  unfolding event_rule
  event_rule_explains k scope depth t = then_explains _ _ (aimed scope depth t 0) (λ q. then_explains _ _ (lift_explains _ (event_named_explains q)) (λ e. then_explains _ _ (lift_explains _ (event_changed_explains k e)) (λ done. give_explains _)))

  pub wait_rule_explains : (scope : List Seg) (depth : ℕ) (t : Tree) → RunExplains accesses (wait_rule accesses ev scope depth t)
  unfolding wait_rule
  wait_rule_explains scope depth t = then_explains _ _ (aimed scope depth t 0) (λ q. then_explains _ _ (lift_explains _ (event_named_explains q)) (λ e. then_explains _ _ (value_at_explains accesses ev parts scope depth t 1) (λ v. then_explains _ _ (lift_explains _ (waited_explains e v)) (λ r. give_explains _))))
