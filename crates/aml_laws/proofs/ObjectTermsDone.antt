-- What terms do to mutexes and events, what RefOf gives, and what ends or pauses.
use Rattle.std.specs.Prelude.{◌≡◌, ℕ, suc, List, Option, Some, None, Ok, Err, refl}
use Rattle.std.proofs.Common.{◌∙◌}
use Rattle.ar_space.specs.Accesses.{Accesses}
use Rattle.ar_space.specs.Change.{give, stop, settle, go_on, ◌>>=◌}
use Rattle.ar_space.specs.declared.refusal.Refusal.{Refusal}
use Rattle.ar_space.specs.declared.refusal.Refusal.TheVariants as refusal
use Rattle.ar_space.specs.declared.refusal.EvaluationFault.TheVariants.{Fatal}
use Rattle.ar_space.specs.declared.refusal.ValueFault.TheVariants.{WrongType}
use Rattle.aml_path.specs.declared.segment.Seg.{Seg}
use Rattle.aml_path.specs.Paths.{Name}
use Rattle.aml_grammar.specs.declared.opcode.Opcode.{Opcode}
use Rattle.aml_grammar.specs.declared.opcode.Opcode.TheVariants as opcodes
use Rattle.aml_grammar.specs.Tree.{Tree, Part, name}
use Rattle.aml_objects.specs.declared.value.Reference.{Reference}
use Rattle.aml_objects.specs.declared.value.Value.{Value}
use Rattle.aml_objects.specs.declared.value.Value.TheVariants as value
use Rattle.aml_namespace.specs.Search.{found}
use Rattle.aml_world.specs.declared.state.profile.Profile.TheVariants as profiles
use Rattle.aml_world.specs.declared.values.store_target.StoreTarget.{StoreTarget}
use Rattle.aml_world.specs.declared.values.operation_kind.EventChange.{EventChange}
use Rattle.aml_world.specs.declared.values.operation_kind.EventChange.TheVariants as changes
use Rattle.aml_world.specs.state.State.{State}
use Rattle.aml_world.specs.state.Run.{lift}
use Rattle.aml_world.specs.state.Readings.{path_found}
use Rattle.aml_world.specs.values.StoreTargets.{target_named, reference_of}
use Rattle.aml_world.specs.state.Mutexes.{acquired_at, given_back_at}
use Rattle.aml_world.specs.state.Events.{event_named, event_changed, waited}
use Rattle.aml_meaning.specs.declared.flow.Flow.TheVariants as flow
use Rattle.aml_meaning.specs.declared.term_kind.TermKind.TheVariants as kinds
use Rattle.aml_meaning.specs.declared.term_kind.WideKind.TheVariants as wide
use Rattle.aml_meaning.specs.Terms.{kind_of}
use Rattle.aml_meaning.specs.Tasks.{task, operand_value, value_at}
use Rattle.aml_meaning.specs.TargetTerms.{name_target}
use Rattle.aml_meaning.specs.OperatorTerms.{acquire_rule, reference_rule}
use Rattle.aml_meaning.specs.StatementTerms.{release_rule, notify_rule, pause_rule, fatal_rule}
use Rattle.aml_meaning.specs.WideTerms.{in_wide, event_rule, wait_rule}
use Rattle.aml_meaning.specs.Evaluation.{rule}
use Rattle.aml_meaning.specs.Meaning.{meaning}
use Rattle.aml_laws.specs.OperatorTerms.{of_one, NamesTarget, GivesValue, Gives, IsRefused}
use Rattle.aml_laws.specs.ObjectTerms.{acquire, on_target, on_target_with, fatal, Passes, NamesDeclaration, NamesNoDeclaration}
use Rattle.aml_laws.proofs.TreesCost.{term_begins}
use Rattle.aml_laws.proofs.OperatorsComputed.{target_is}
use Rattle.aml_laws.proofs.EventsNamed.{named, unnamed, none_changed, none_waited}
use Rattle.aml_laws.proofs.WideAsked.{asked_in_wide}

-- ---- mutexes, and RefOf

module _ {S : Type 0} (accesses : Accesses S) (scope : List Seg) (depth : ℕ) (p : Part) (t : StoreTarget) (w : State S) (steps : ℕ) (names : NamesTarget scope w p t) (end : State S) where
  acquire_so : (time : ℕ) → acquired_at t w ≡ (Ok tt, end) → rule accesses (meaning accesses) (task scope depth (acquire p time)) (w, steps) ≡ (Ok (flow.Value (value.Integer 0)), (end, steps))
  unfolding rule acquire_rule lift give go_on ◌>>=◌
  acquire_so time is = rw (target_is accesses scope depth (acquire p time) 0 w steps p t names refl, is) refl

  acquire_stops : (time : ℕ) (e : Refusal) → acquired_at t w ≡ (Err e, end) → rule accesses (meaning accesses) (task scope depth (acquire p time)) (w, steps) ≡ (Err e, (end, steps))
  unfolding rule acquire_rule lift go_on ◌>>=◌
  acquire_stops time e is = rw (target_is accesses scope depth (acquire p time) 0 w steps p t names refl, is) refl

  release_so : given_back_at t w ≡ (Ok tt, end) → rule accesses (meaning accesses) (task scope depth (on_target opcodes.Release p)) (w, steps) ≡ (Ok flow.Next, (end, steps))
  unfolding rule release_rule lift give go_on ◌>>=◌
  release_so is = rw (target_is accesses scope depth (on_target opcodes.Release p) 0 w steps p t names refl, is) refl

  release_stops : (e : Refusal) → given_back_at t w ≡ (Err e, end) → rule accesses (meaning accesses) (task scope depth (on_target opcodes.Release p)) (w, steps) ≡ (Err e, (end, steps))
  unfolding rule release_rule lift go_on ◌>>=◌
  release_stops e is = rw (target_is accesses scope depth (on_target opcodes.Release p) 0 w steps p t names refl, is) refl

  pub acquires : (time : ℕ) → (acquired_at t w ≡ (Ok tt, end) → Gives accesses scope depth (acquire p time) (w, suc steps) 0 (end, steps)) × ((e : Refusal) → acquired_at t w ≡ (Err e, end) → IsRefused accesses scope depth (acquire p time) (w, suc steps) e (end, steps))
  acquires time = (
    λ is. (term_begins accesses (task scope depth (acquire p time))).paid w steps ∙ acquire_so time is,
    λ e is. (term_begins accesses (task scope depth (acquire p time))).paid w steps ∙ acquire_stops time e is,
  )

  pub releases : (given_back_at t w ≡ (Ok tt, end) → Passes accesses scope depth (on_target opcodes.Release p) (w, suc steps) (end, steps))
      × ((e : Refusal) → given_back_at t w ≡ (Err e, end) → IsRefused accesses scope depth (on_target opcodes.Release p) (w, suc steps) e (end, steps))
  releases = (
    λ is. (term_begins accesses (task scope depth (on_target opcodes.Release p))).paid w steps ∙ release_so is,
    λ e is. (term_begins accesses (task scope depth (on_target opcodes.Release p))).paid w steps ∙ release_stops e is,
  )

  reference_so : (r : Reference) → reference_of t w ≡ (Ok r, end) → rule accesses (meaning accesses) (task scope depth (on_target opcodes.RefOf p)) (w, steps) ≡ (Ok (flow.Value (value.Reference r)), (end, steps))
  unfolding rule reference_rule lift give go_on ◌>>=◌
  reference_so r is = rw (target_is accesses scope depth (on_target opcodes.RefOf p) 0 w steps p t names refl, is) refl

  pub refers : (r : Reference) → reference_of t w ≡ (Ok r, end) → GivesValue accesses scope depth (on_target opcodes.RefOf p) (w, suc steps) (value.Reference r) (end, steps)
  refers r is = (term_begins accesses (task scope depth (on_target opcodes.RefOf p))).paid w steps ∙ reference_so r is

-- ---- events

module _ {S : Type 0} (accesses : Accesses S) (scope : List Seg) (depth : ℕ) (p : Part) (w : State S) (steps : ℕ) (core : w.profile ≡ profiles.Wide) where
  event_ruled : (k : EventChange) (op : Opcode) → kind_of op ≡ kinds.Wide (wide.Event k) → rule accesses (meaning accesses) (task scope depth (on_target op p)) (w, steps) ≡ in_wide op (event_rule accesses (meaning accesses) k scope depth (on_target op p)) (w, steps)
  unfolding rule
  event_ruled k op is = rw is refl

  pub event_begins : (k : EventChange) (op : Opcode) → kind_of op ≡ kinds.Wide (wide.Event k) → meaning accesses (task scope depth (on_target op p)) (w, suc steps) ≡ event_rule accesses (meaning accesses) k scope depth (on_target op p) (w, steps)
  event_begins k op is = (term_begins accesses (task scope depth (on_target op p))).paid w steps ∙ (event_ruled k op is ∙ asked_in_wide op w steps core (event_rule accesses (meaning accesses) k scope depth (on_target op p)))

  wait_ruled : (x : Tree) → rule accesses (meaning accesses) (task scope depth (on_target_with opcodes.Wait p x)) (w, steps) ≡ in_wide opcodes.Wait (wait_rule accesses (meaning accesses) scope depth (on_target_with opcodes.Wait p x)) (w, steps)
  unfolding rule
  wait_ruled x = refl

  pub wait_begins : (x : Tree) → meaning accesses (task scope depth (on_target_with opcodes.Wait p x)) (w, suc steps) ≡ wait_rule accesses (meaning accesses) scope depth (on_target_with opcodes.Wait p x) (w, steps)
  wait_begins x = (term_begins accesses (task scope depth (on_target_with opcodes.Wait p x))).paid w steps ∙ (wait_ruled x ∙ asked_in_wide opcodes.Wait w steps core (wait_rule accesses (meaning accesses) scope depth (on_target_with opcodes.Wait p x)))

  module _ (t : StoreTarget) (names : NamesTarget scope w p t) (event : Option ℕ) (is_named : event_named t w ≡ (Ok event, w)) where
    event_so : (k : EventChange) (op : Opcode) (end : State S) → event_changed k event w ≡ (Ok tt, end) → event_rule accesses (meaning accesses) k scope depth (on_target op p) (w, steps) ≡ (Ok flow.Next, (end, steps))
    unfolding event_rule lift give go_on ◌>>=◌
    event_so k op end is = rw (target_is accesses scope depth (on_target op p) 0 w steps p t names refl, is_named, is) refl

    event_stops : (k : EventChange) (op : Opcode) (e : Refusal) (end : State S) → event_changed k event w ≡ (Err e, end) → event_rule accesses (meaning accesses) k scope depth (on_target op p) (w, steps) ≡ (Err e, (end, steps))
    unfolding event_rule lift go_on ◌>>=◌
    event_stops k op e end is = rw (target_is accesses scope depth (on_target op p) 0 w steps p t names refl, is_named, is) refl

    module _ (x : Tree) (v : Value) (after : State S × ℕ) (end : State S) (gives : GivesValue accesses scope depth x (w, steps) v after) where
      wait_so : (r : Value) → waited event v after.0 ≡ (Ok r, end) → wait_rule accesses (meaning accesses) scope depth (on_target_with opcodes.Wait p x) (w, steps) ≡ (Ok (flow.Value r), (end, after.1))
      unfolding wait_rule value_at operand_value settle lift give go_on ◌>>=◌
      wait_so r is = rw (target_is accesses scope depth (on_target_with opcodes.Wait p x) 0 w steps p t names refl, is_named, gives, is) refl

      wait_stops : (e : Refusal) → waited event v after.0 ≡ (Err e, end) → wait_rule accesses (meaning accesses) scope depth (on_target_with opcodes.Wait p x) (w, steps) ≡ (Err e, (end, after.1))
      unfolding wait_rule value_at operand_value settle lift go_on ◌>>=◌
      wait_stops e is = rw (target_is accesses scope depth (on_target_with opcodes.Wait p x) 0 w steps p t names refl, is_named, gives, is) refl

  module _ (at : ℕ) (names : NamesDeclaration scope w p at) where
    event_done : (k : EventChange) (op : Opcode) (end : State S) → kind_of op ≡ kinds.Wide (wide.Event k) → (event_changed k (Some at) w ≡ (Ok tt, end) → Passes accesses scope depth (on_target op p) (w, suc steps) (end, steps))
        × ((e : Refusal) → event_changed k (Some at) w ≡ (Err e, end) → IsRefused accesses scope depth (on_target op p) (w, suc steps) e (end, steps))
    event_done k op end is =
        let n = named scope w p at names in (
          λ changes_so. event_begins k op is ∙ event_so n.target n.names (Some at) n.is k op end changes_so,
          λ e stops. event_begins k op is ∙ event_stops n.target n.names (Some at) n.is k op e end stops,
        )

    pub signals : (end : State S) → (event_changed changes.Signal (Some at) w ≡ (Ok tt, end) → Passes accesses scope depth (on_target opcodes.Signal p) (w, suc steps) (end, steps))
        × ((e : Refusal) → event_changed changes.Signal (Some at) w ≡ (Err e, end) → IsRefused accesses scope depth (on_target opcodes.Signal p) (w, suc steps) e (end, steps))
    signals end = event_done changes.Signal opcodes.Signal end refl

    pub resets : (end : State S) → (event_changed changes.Reset (Some at) w ≡ (Ok tt, end) → Passes accesses scope depth (on_target opcodes.Reset p) (w, suc steps) (end, steps))
        × ((e : Refusal) → event_changed changes.Reset (Some at) w ≡ (Err e, end) → IsRefused accesses scope depth (on_target opcodes.Reset p) (w, suc steps) e (end, steps))
    resets end = event_done changes.Reset opcodes.Reset end refl

    pub waits : (x : Tree) (v : Value) (after : State S × ℕ) (end : State S) → GivesValue accesses scope depth x (w, steps) v after
        → ((r : Value) → waited (Some at) v after.0 ≡ (Ok r, end) → GivesValue accesses scope depth (on_target_with opcodes.Wait p x) (w, suc steps) r (end, after.1))
        × ((e : Refusal) → waited (Some at) v after.0 ≡ (Err e, end) → IsRefused accesses scope depth (on_target_with opcodes.Wait p x) (w, suc steps) e (end, after.1))
    waits x v after end gives =
        let n = named scope w p at names in (
          λ r is. wait_begins x ∙ wait_so n.target n.names (Some at) n.is x v after end gives r is,
          λ e is. wait_begins x ∙ wait_stops n.target n.names (Some at) n.is x v after end gives e is,
        )

  pub no_events : NamesNoDeclaration scope w p → IsRefused accesses scope depth (on_target opcodes.Signal p) (w, suc steps) (refusal.Value WrongType) (w, steps) × IsRefused accesses scope depth (on_target opcodes.Reset p) (w, suc steps) (refusal.Value WrongType) (w, steps)
      × ((x : Tree) (v : Value) (after : State S × ℕ) → GivesValue accesses scope depth x (w, steps) v after → IsRefused accesses scope depth (on_target_with opcodes.Wait p x) (w, suc steps) (refusal.Value WrongType) after)
  no_events names =
      let n = unnamed scope w p names in (
        event_begins changes.Signal opcodes.Signal refl ∙ event_stops n.target n.names None n.is changes.Signal opcodes.Signal (refusal.Value WrongType) w (none_changed w changes.Signal),
        event_begins changes.Reset opcodes.Reset refl ∙ event_stops n.target n.names None n.is changes.Reset opcodes.Reset (refusal.Value WrongType) w (none_changed w changes.Reset),
        λ x v after gives. wait_begins x ∙ wait_stops n.target n.names None n.is x v after after.0 gives (refusal.Value WrongType) (none_waited after.0 v),
      )

-- ---- what ends, pauses or tells nobody

module _ {S : Type 0} (accesses : Accesses S) (scope : List Seg) (depth : ℕ) (x : Tree) (w : State S) (steps : ℕ) (v : Value) (after : State S × ℕ) (gives : GivesValue accesses scope depth x (w, steps) v after) where
  fatal_so : (kind code : ℕ) → rule accesses (meaning accesses) (task scope depth (fatal kind code x)) (w, steps) ≡ (Err (refusal.Evaluation Fatal), after)
  unfolding rule fatal_rule value_at operand_value stop settle go_on ◌>>=◌
  fatal_so kind code = rw gives refl

  pub ends : (kind code : ℕ) → IsRefused accesses scope depth (fatal kind code x) (w, suc steps) (refusal.Evaluation Fatal) after
  ends kind code = (term_begins accesses (task scope depth (fatal kind code x))).paid w steps ∙ fatal_so kind code

  sleep_so : rule accesses (meaning accesses) (task scope depth (of_one opcodes.Sleep x)) (w, steps) ≡ (Ok flow.Next, after)
  unfolding rule pause_rule value_at operand_value give settle go_on ◌>>=◌
  sleep_so = rw gives refl

  stall_so : rule accesses (meaning accesses) (task scope depth (of_one opcodes.Stall x)) (w, steps) ≡ (Ok flow.Next, after)
  unfolding rule pause_rule value_at operand_value give settle go_on ◌>>=◌
  stall_so = rw gives refl

  pub pauses : Passes accesses scope depth (of_one opcodes.Sleep x) (w, suc steps) after × Passes accesses scope depth (of_one opcodes.Stall x) (w, suc steps) after
  pauses = ((term_begins accesses (task scope depth (of_one opcodes.Sleep x))).paid w steps ∙ sleep_so, (term_begins accesses (task scope depth (of_one opcodes.Stall x))).paid w steps ∙ stall_so)

  notify_so : (p : Part) (t : StoreTarget) → NamesTarget scope w p t → rule accesses (meaning accesses) (task scope depth (on_target_with opcodes.Notify p x)) (w, steps) ≡ (Ok flow.Next, after)
  unfolding rule notify_rule value_at operand_value give settle go_on ◌>>=◌
  notify_so p t names = rw (target_is accesses scope depth (on_target_with opcodes.Notify p x) 0 w steps p t names refl, gives) refl

  pub notifies : (p : Part) (t : StoreTarget) → NamesTarget scope w p t → Passes accesses scope depth (on_target_with opcodes.Notify p x) (w, suc steps) after
  notifies p t names = (term_begins accesses (task scope depth (on_target_with opcodes.Notify p x))).paid w steps ∙ notify_so p t names

module _ {S : Type 0} (accesses : Accesses S) (scope : List Seg) (depth : ℕ) (x : Tree) (w : State S) (steps : ℕ) (n : Name) (e : Refusal) (finds : found w.names.map scope n ≡ Err e) where
  notify_stops : rule accesses (meaning accesses) (task scope depth (on_target_with opcodes.Notify (name n) x)) (w, steps) ≡ (Err e, (w, steps))
  unfolding rule notify_rule name_target target_named path_found settle lift go_on ◌>>=◌
  notify_stops = rw finds refl

  pub notifies_none : IsRefused accesses scope depth (on_target_with opcodes.Notify (name n) x) (w, suc steps) e (w, steps)
  notifies_none = (term_begins accesses (task scope depth (on_target_with opcodes.Notify (name n) x))).paid w steps ∙ notify_stops
