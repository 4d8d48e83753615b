-- Events keep each relation of worlds.
use Rattle.std.specs.Prelude.{◌≡◌, ℕ, ◌-◌, ◌==◌, List, Bool, true, false, refl, Option, Ok, Err, if◌then◌else◌}
use Rattle.std.proofs.Common.{ap, sym, subst, ◌∙◌}
use Rattle.ar_space.specs.Accesses.{Accesses}
use Rattle.ar_space.specs.Outcome.{Outcome, seen}
use Rattle.ar_space.specs.Change.{Change, settle, go_on, ◌>>=◌}
use Rattle.aml_path.specs.declared.segment.Seg.{Seg}
use Rattle.aml_grammar.specs.Tree.{Tree}
use Rattle.aml_objects.specs.declared.entry.Entry.{Entry}
use Rattle.aml_objects.specs.declared.entry.NamedObject.{NamedObject}
use Rattle.aml_objects.specs.declared.entry.NamedObject.TheVariants as object
use Rattle.aml_objects.specs.declared.value.Reference.{Reference}
use Rattle.aml_objects.specs.declared.value.Reference.TheVariants as reference
use Rattle.aml_objects.specs.declared.value.Slot.{Slot}
use Rattle.aml_objects.specs.declared.value.Slot.TheVariants.{Local, Argument}
use Rattle.aml_objects.specs.declared.value.Value.{Value}
use Rattle.aml_objects.specs.declared.value.Value.TheVariants as value
use Rattle.aml_world.specs.declared.values.store_target.StoreTarget.{StoreTarget}
use Rattle.aml_world.specs.declared.values.store_target.StoreTarget.TheVariants as targets
use Rattle.aml_world.specs.declared.values.operation_kind.EventChange.{EventChange}
use Rattle.aml_world.specs.state.State.{State}
use Rattle.aml_namespace.specs.Namespace.{numbered}
use Rattle.aml_namespace.proofs.Numbering.{numbered_stands}
use Rattle.aml_world.specs.state.Readings.{integer_in}
use Rattle.aml_world.specs.state.Run.{Run}
use Rattle.aml_world.specs.values.StoreTargets.{or_gone, declaration, entry_declared}
use Rattle.aml_world.specs.state.Events.{signals_of, name_referred, named_by_reference, named_by_value, named_by_argument, named_by_slot, name_at, event_named, signals_under, put_signals, event_changed, signal_taken, taken_or_not, waited}
use Rattle.aml_meaning.specs.declared.flow.Flow.{Flow}
use Rattle.aml_meaning.specs.Tasks.{Task}
use Rattle.aml_meaning.specs.TargetTerms.{target_at}
use Rattle.aml_meaning.specs.WideTerms.{event_rule, wait_rule}
use Rattle.aml_laws.specs.Histories as puts
use Rattle.aml_laws.proofs.LocatedRegions.{declaration_found}
use Rattle.aml_laws.proofs.WorldRelations.{PartsLead, Levels, WorldRelationOf, Preserves, PreservesWhere, RunPreserves, MayPut, give_preserves, settle_preserves, then_preserves, replaced_preserves, preserves_anywhere, where_then_preserves, finding_preserves_where, finding_preserves, lift_preserves, run_give_preserves, run_then_preserves}
use Rattle.aml_laws.proofs.ChangesPreserve.{integer_kept_preserves}
use Rattle.aml_laws.proofs.StoreTargetsPreserve.{put_there, own_slot_preserves, declared_number_preserves, tested_preserves}
use Rattle.aml_laws.proofs.OperandsAndCallsPreserve.{value_at_leads}

-- ---- the event under a number may be replaced by one with another count

abbrev TakesSignals : {S : Type 0} → ℕ → State S → Type 0
TakesSignals n w = (count : ℕ) (e : List Seg × Entry) → or_gone (numbered n w.names.map) ≡ Ok e → MayPut e.0 (object.Event count) w

is_event : (o : NamedObject) (count : ℕ) → signals_of o ≡ Ok count → o ≡ object.Event count
is_event (object.Event n) count is = let same : n ≡ count = cc is in ap object.Event same
is_event _ count is = absurd (cc is)

module _ {S : Type 0} (n : ℕ) where
  same_by_cases : (r : Outcome Entry) (w : State S) → (go_on r w (λ e. settle (signals_of e.object))).1 ≡ w
  unfolding go_on settle
  same_by_cases (Ok e) w = refl
  same_by_cases (Err x) w = refl

  signals_same : (w : State S) → (signals_under n w).1 ≡ w
  unfolding signals_under entry_declared ◌>>=◌
  signals_same w = same_by_cases (seen (λ e. e.1) (or_gone (numbered n w.names.map))) w

  there_by_cases : (w : State S) (r : Outcome (List Seg × Entry)) (count : ℕ) → or_gone (numbered n w.names.map) ≡ r → (go_on (seen (λ (e : List Seg × Entry). e.1) r) w (λ e. settle (signals_of e.object))).0 ≡ Ok count → TakesSignals n w
  unfolding go_on settle
  there_by_cases w (Err x) count found is = absurd (cc is)
  there_by_cases w (Ok e) count found is = λ more d there.
      let same : e ≡ d = cc (sym found ∙ there) in
      let at = numbered_stands w.names.map n e (declaration_found (numbered n w.names.map) e found) in
      subst (λ (x : List Seg × Entry). MayPut x.0 (object.Event more) w) same (put_there w e.0 (object.Event more) (object.Event count) e.1 at (is_event e.1.object count is) (puts.of_event more count))

  signals_there : (w : State S) (count : ℕ) → (signals_under n w).0 ≡ Ok count → TakesSignals n w
  unfolding signals_under entry_declared ◌>>=◌
  signals_there w count is = there_by_cases w (or_gone (numbered n w.names.map)) count refl is

module _ {S : Type 0} {listed : Bool} {accesses : Accesses S} {relation : WorldRelationOf listed accesses} where
  name_referred_preserves : (n : ℕ) → Preserves relation (name_referred n)
  unfolding name_referred
  name_referred_preserves n = then_preserves _ _ (tested_preserves (reference.Name n)) (λ there. give_preserves _)

  named_by_reference_preserves : (r : Reference) → Preserves relation (named_by_reference r)
  named_by_reference_preserves (reference.Name n) = name_referred_preserves n
  named_by_reference_preserves (reference.Slot slot n) = give_preserves _
  named_by_reference_preserves (reference.Element o i) = give_preserves _
  named_by_reference_preserves (reference.Byte o i) = give_preserves _

  named_by_value_preserves : (v : Value) → Preserves relation (named_by_value v)
  named_by_value_preserves (value.Reference r) = named_by_reference_preserves r
  named_by_value_preserves value.Uninitialized = give_preserves _
  named_by_value_preserves (value.Integer n) = give_preserves _
  named_by_value_preserves (value.String o) = give_preserves _
  named_by_value_preserves (value.Buffer o) = give_preserves _
  named_by_value_preserves (value.Package o) = give_preserves _

  named_by_slot_preserves : (slot : Slot) → Preserves relation (named_by_slot slot)
  unfolding named_by_argument
  named_by_slot_preserves (Local i) = give_preserves _
  named_by_slot_preserves (Argument i) = then_preserves _ _ (own_slot_preserves (Argument i)) (λ v. named_by_value_preserves v)

  pub event_named_preserves : (at : StoreTarget) → Preserves relation (event_named at)
  unfolding name_at
  event_named_preserves targets.Nowhere = give_preserves _
  event_named_preserves (targets.Slot slot) = named_by_slot_preserves slot
  event_named_preserves (targets.Name q) = then_preserves _ _ (declared_number_preserves q) (λ n. give_preserves _)
  event_named_preserves (targets.Refers r) = named_by_reference_preserves r

  put_signals_preserves : (n count : ℕ) → PreservesWhere (TakesSignals n) relation (put_signals n count)
  unfolding put_signals declaration
  put_signals_preserves n count = finding_preserves_where (λ (e : List Seg × Entry). MayPut e.0 (object.Event count)) _ _ (λ w. refl) (λ w takes e is. takes count e is) (λ e. replaced_preserves e.0 (object.Event count))

  -- what is put behind the signals of an event
  behind_signals_preserves : {A : Type 0} (n : ℕ) (k : ℕ → Change (State S) A) → ((count : ℕ) → PreservesWhere (TakesSignals n) relation (k count)) → Preserves relation (signals_under n >>= k)
  behind_signals_preserves n k each = finding_preserves (λ count. TakesSignals n) _ _ (signals_same n) (signals_there n) each

  pub event_changed_preserves : (k : EventChange) (event : Option ℕ) → Preserves relation (event_changed k event)
  unfolding event_changed settle
  event_changed_preserves k event = then_preserves _ _ (settle_preserves _) (λ n. behind_signals_preserves n _ (λ count. finding_preserves_where (λ after. TakesSignals n) _ _ (λ w. refl) (λ w takes after is. takes) (λ after. put_signals_preserves n after)))

  either_preserves : {A : Type 0} {IsSo : State S → Type 0} (b : Bool) (m n : Change (State S) A) → PreservesWhere IsSo relation m → PreservesWhere IsSo relation n → PreservesWhere IsSo relation (if b then m else n)
  either_preserves true m n h i = h
  either_preserves false m n h i = i

  taken_or_not_preserves : (n count : ℕ) → PreservesWhere (TakesSignals n) relation (taken_or_not n count)
  unfolding signal_taken
  taken_or_not_preserves n count = either_preserves (count == 0) _ _ (preserves_anywhere _ (integer_kept_preserves _)) (where_then_preserves _ _ (put_signals_preserves n (count - 1)) (λ done. give_preserves _))

  pub waited_preserves : (event : Option ℕ) (timeout : Value) → Preserves relation (waited event timeout)
  unfolding waited integer_in
  waited_preserves event timeout = then_preserves _ _ (settle_preserves _) (λ n. behind_signals_preserves n _ (λ count. finding_preserves_where (λ time. TakesSignals n) _ _ (λ w. refl) (λ w takes time is. takes) (λ time. taken_or_not_preserves n count)))

-- aimed: what finding a target does
module _ {S : Type 0} {accesses : Accesses S} {levels : Levels accesses} (ev : Task → Run S Flow) (parts : PartsLead levels ev)
    (aimed : (scope : List Seg) (depth : ℕ) (t : Tree) (i : ℕ) → RunPreserves (levels.at depth) (target_at ev scope depth t i)) where
  pub event_rule_preserves : (k : EventChange) (scope : List Seg) (depth : ℕ) (t : Tree) → RunPreserves (levels.at depth) (event_rule accesses ev k scope depth t)
  unfolding event_rule
  event_rule_preserves k scope depth t = run_then_preserves _ _ (aimed scope depth t 0) (λ q. run_then_preserves _ _ (lift_preserves _ (event_named_preserves q)) (λ e. run_then_preserves _ _ (lift_preserves _ (event_changed_preserves k e)) (λ done. run_give_preserves _)))

  pub wait_rule_preserves : (scope : List Seg) (depth : ℕ) (t : Tree) → RunPreserves (levels.at depth) (wait_rule accesses ev scope depth t)
  unfolding wait_rule
  wait_rule_preserves scope depth t = run_then_preserves _ _ (aimed scope depth t 0) (λ q. run_then_preserves _ _ (lift_preserves _ (event_named_preserves q)) (λ e. run_then_preserves _ _ (value_at_leads ev parts scope depth t 1) (λ v. run_then_preserves _ _ (lift_preserves _ (waited_preserves e v)) (λ r. run_give_preserves _))))
