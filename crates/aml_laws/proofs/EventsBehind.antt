-- Signal, Reset and Wait of what a RefOf, a DerefOf or an Index names.
use Rattle.std.specs.Prelude.{◌≡◌, ℕ, suc, List, Option, Some, None, Ok, Err, refl}
use Rattle.std.proofs.Common.{◌∙◌}
use Rattle.ar_space.specs.Accesses.{Accesses}
use Rattle.ar_space.specs.Change.{give, settle, go_on, ◌>>=◌}
use Rattle.ar_space.specs.declared.refusal.Refusal.{Refusal}
use Rattle.ar_space.specs.declared.refusal.Refusal.TheVariants as refusal
use Rattle.ar_space.specs.declared.refusal.ValueFault.TheVariants.{WrongType}
use Rattle.aml_path.specs.declared.segment.Seg.{Seg}
use Rattle.aml_grammar.specs.declared.opcode.Opcode.{Opcode}
use Rattle.aml_grammar.specs.declared.opcode.Opcode.TheVariants as opcodes
use Rattle.aml_grammar.specs.Tree.{Tree, inner}
use Rattle.aml_objects.specs.declared.value.Value.{Value}
use Rattle.aml_world.specs.declared.state.profile.Profile.TheVariants as profiles
use Rattle.aml_world.specs.declared.values.store_target.StoreTarget.{StoreTarget}
use Rattle.aml_world.specs.declared.values.operation_kind.EventChange.{EventChange}
use Rattle.aml_world.specs.declared.values.operation_kind.EventChange.TheVariants as changes
use Rattle.aml_world.specs.state.State.{State}
use Rattle.aml_world.specs.state.Run.{lift}
use Rattle.aml_world.specs.state.Events.{event_named, event_changed, waited}
use Rattle.aml_meaning.specs.declared.flow.Flow.TheVariants as flow
use Rattle.aml_meaning.specs.declared.term_kind.TermKind.TheVariants as kinds
use Rattle.aml_meaning.specs.declared.term_kind.WideKind.TheVariants as wide
use Rattle.aml_meaning.specs.Terms.{kind_of}
use Rattle.aml_meaning.specs.Tasks.{operand_value, value_at}
use Rattle.aml_meaning.specs.TargetTerms.{target_of}
use Rattle.aml_meaning.specs.WideTerms.{event_rule, wait_rule}
use Rattle.aml_meaning.specs.Meaning.{meaning}
use Rattle.aml_laws.specs.OperatorTerms.{GivesValue, IsRefused}
use Rattle.aml_laws.specs.ObjectTerms.{on_target, on_target_with, Passes, Declared, Undeclared}
use Rattle.aml_laws.specs.ReferringTargets.{NamesBehind}
use Rattle.aml_laws.proofs.EventsNamed.{declared_is, undeclared_is, none_changed, none_waited}
use Rattle.aml_laws.proofs.ObjectTermsDone.{event_begins, wait_begins}
use Rattle.aml_laws.proofs.ReferringTargets.{behind_is}

-- ---- the terms

module _ {S : Type 0} (accesses : Accesses S) (scope : List Seg) (depth : ℕ) (u : Tree) (w : State S) (steps : ℕ) (is_wide : w.profile ≡ profiles.Wide) where
  module _ (t : StoreTarget) (v : State S) (rest : ℕ) (is : target_of (meaning accesses) scope depth u (w, steps) ≡ (Ok t, (v, rest))) (event : Option ℕ) (is_named : event_named t v ≡ (Ok event, v)) where
    event_so : (k : EventChange) (op : Opcode) (end : State S) → event_changed k event v ≡ (Ok tt, end) → event_rule accesses (meaning accesses) k scope depth (on_target op (inner u)) (w, steps) ≡ (Ok flow.Next, (end, rest))
    unfolding event_rule lift give go_on ◌>>=◌
    event_so k op end changed = rw (is, is_named, changed) refl

    event_stops : (k : EventChange) (op : Opcode) (e : Refusal) (end : State S) → event_changed k event v ≡ (Err e, end) → event_rule accesses (meaning accesses) k scope depth (on_target op (inner u)) (w, steps) ≡ (Err e, (end, rest))
    unfolding event_rule lift go_on ◌>>=◌
    event_stops k op e end changed = rw (is, is_named, changed) refl

    module _ (x : Tree) (a : Value) (after : State S × ℕ) (end : State S) (gives : GivesValue accesses scope depth x (v, rest) a after) where
      wait_so : (r : Value) → waited event a after.0 ≡ (Ok r, end) → wait_rule accesses (meaning accesses) scope depth (on_target_with opcodes.Wait (inner u) x) (w, steps) ≡ (Ok (flow.Value r), (end, after.1))
      unfolding wait_rule value_at operand_value settle lift give go_on ◌>>=◌
      wait_so r done = rw (is, is_named, gives, done) refl

      wait_stops : (e : Refusal) → waited event a after.0 ≡ (Err e, end) → wait_rule accesses (meaning accesses) scope depth (on_target_with opcodes.Wait (inner u) x) (w, steps) ≡ (Err e, (end, after.1))
      unfolding wait_rule value_at operand_value settle lift go_on ◌>>=◌
      wait_stops e done = rw (is, is_named, gives, done) refl

  module _ (t : StoreTarget) (between : State S × ℕ) (names : NamesBehind accesses scope depth u (w, steps) t between) where
    event_done : (k : EventChange) (op : Opcode) (at : ℕ) (end : State S) → kind_of op ≡ kinds.Wide (wide.Event k) → Declared between.0 t at
        → (event_changed k (Some at) between.0 ≡ (Ok tt, end) → Passes accesses scope depth (on_target op (inner u)) (w, suc steps) (end, between.1))
        × ((e : Refusal) → event_changed k (Some at) between.0 ≡ (Err e, end) → IsRefused accesses scope depth (on_target op (inner u)) (w, suc steps) e (end, between.1))
    event_done k op at end is declared =
        let target = behind_is accesses scope depth u (w, steps) t between names in
        let named = declared_is between.0 t at declared in (
          λ changed. event_begins accesses scope depth (inner u) w steps is_wide k op is ∙ event_so t between.0 between.1 target (Some at) named k op end changed,
          λ e stops. event_begins accesses scope depth (inner u) w steps is_wide k op is ∙ event_stops t between.0 between.1 target (Some at) named k op e end stops,
        )

    pub signals_behind : (at : ℕ) (end : State S) → Declared between.0 t at → (event_changed changes.Signal (Some at) between.0 ≡ (Ok tt, end) → Passes accesses scope depth (on_target opcodes.Signal (inner u)) (w, suc steps) (end, between.1))
        × ((e : Refusal) → event_changed changes.Signal (Some at) between.0 ≡ (Err e, end) → IsRefused accesses scope depth (on_target opcodes.Signal (inner u)) (w, suc steps) e (end, between.1))
    signals_behind at end declared = event_done changes.Signal opcodes.Signal at end refl declared

    pub resets_behind : (at : ℕ) (end : State S) → Declared between.0 t at → (event_changed changes.Reset (Some at) between.0 ≡ (Ok tt, end) → Passes accesses scope depth (on_target opcodes.Reset (inner u)) (w, suc steps) (end, between.1))
        × ((e : Refusal) → event_changed changes.Reset (Some at) between.0 ≡ (Err e, end) → IsRefused accesses scope depth (on_target opcodes.Reset (inner u)) (w, suc steps) e (end, between.1))
    resets_behind at end declared = event_done changes.Reset opcodes.Reset at end refl declared

    pub waits_behind : (at : ℕ) → Declared between.0 t at → (x : Tree) (v : Value) (after : State S × ℕ) (end : State S) → GivesValue accesses scope depth x between v after
        → ((r : Value) → waited (Some at) v after.0 ≡ (Ok r, end) → GivesValue accesses scope depth (on_target_with opcodes.Wait (inner u) x) (w, suc steps) r (end, after.1))
        × ((e : Refusal) → waited (Some at) v after.0 ≡ (Err e, end) → IsRefused accesses scope depth (on_target_with opcodes.Wait (inner u) x) (w, suc steps) e (end, after.1))
    waits_behind at declared x v after end gives =
        let target = behind_is accesses scope depth u (w, steps) t between names in
        let named = declared_is between.0 t at declared in (
          λ r done. wait_begins accesses scope depth (inner u) w steps is_wide x ∙ wait_so t between.0 between.1 target (Some at) named x v after end gives r done,
          λ e done. wait_begins accesses scope depth (inner u) w steps is_wide x ∙ wait_stops t between.0 between.1 target (Some at) named x v after end gives e done,
        )

    pub no_events_behind : Undeclared between.0 t → IsRefused accesses scope depth (on_target opcodes.Signal (inner u)) (w, suc steps) (refusal.Value WrongType) between
        × IsRefused accesses scope depth (on_target opcodes.Reset (inner u)) (w, suc steps) (refusal.Value WrongType) between
        × ((x : Tree) (v : Value) (after : State S × ℕ) → GivesValue accesses scope depth x between v after → IsRefused accesses scope depth (on_target_with opcodes.Wait (inner u) x) (w, suc steps) (refusal.Value WrongType) after)
    no_events_behind none =
        let target = behind_is accesses scope depth u (w, steps) t between names in
        let unnamed = undeclared_is between.0 t none in (
          event_begins accesses scope depth (inner u) w steps is_wide changes.Signal opcodes.Signal refl ∙ event_stops t between.0 between.1 target None unnamed changes.Signal opcodes.Signal (refusal.Value WrongType) between.0 (none_changed between.0 changes.Signal),
          event_begins accesses scope depth (inner u) w steps is_wide changes.Reset opcodes.Reset refl ∙ event_stops t between.0 between.1 target None unnamed changes.Reset opcodes.Reset (refusal.Value WrongType) between.0 (none_changed between.0 changes.Reset),
          λ x v after gives. wait_begins accesses scope depth (inner u) w steps is_wide x ∙ wait_stops t between.0 between.1 target None unnamed x v after after.0 gives (refusal.Value WrongType) (none_waited after.0 v),
        )

  module _ (e : Refusal) (end : State S × ℕ) (stops : target_of (meaning accesses) scope depth u (w, steps) ≡ (Err e, end)) where
    unfound_so : (k : EventChange) (op : Opcode) → event_rule accesses (meaning accesses) k scope depth (on_target op (inner u)) (w, steps) ≡ (Err e, end)
    unfolding event_rule go_on ◌>>=◌
    unfound_so k op = rw stops refl

    unwaited_so : (x : Tree) → wait_rule accesses (meaning accesses) scope depth (on_target_with opcodes.Wait (inner u) x) (w, steps) ≡ (Err e, end)
    unfolding wait_rule go_on ◌>>=◌
    unwaited_so x = rw stops refl

    pub unfound_events : IsRefused accesses scope depth (on_target opcodes.Signal (inner u)) (w, suc steps) e end × IsRefused accesses scope depth (on_target opcodes.Reset (inner u)) (w, suc steps) e end
        × ((x : Tree) → IsRefused accesses scope depth (on_target_with opcodes.Wait (inner u) x) (w, suc steps) e end)
    unfound_events = (
      event_begins accesses scope depth (inner u) w steps is_wide changes.Signal opcodes.Signal refl ∙ unfound_so changes.Signal opcodes.Signal,
      event_begins accesses scope depth (inner u) w steps is_wide changes.Reset opcodes.Reset refl ∙ unfound_so changes.Reset opcodes.Reset,
      λ x. wait_begins accesses scope depth (inner u) w steps is_wide x ∙ unwaited_so x,
    )
