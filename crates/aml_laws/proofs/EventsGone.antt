-- Signal, Reset and Wait of an event whose declaration is gone.
use Rattle.std.specs.Prelude.{◌≡◌, ℕ, suc, List, Some, Ok, Err, refl}
use Rattle.std.proofs.Common.{◌∙◌}
use Rattle.ar_space.specs.Accesses.{Accesses}
use Rattle.ar_space.specs.Change.{settle, give, go_on, ◌>>=◌}
use Rattle.ar_space.specs.declared.refusal.Refusal.TheVariants as refusal
use Rattle.ar_space.specs.declared.refusal.EvaluationFault.TheVariants.{DeadReference}
use Rattle.aml_path.specs.declared.segment.Seg.{Seg}
use Rattle.aml_grammar.specs.declared.opcode.Opcode.TheVariants as opcodes
use Rattle.aml_grammar.specs.Tree.{Tree, Part}
use Rattle.aml_objects.specs.declared.value.Value.{Value}
use Rattle.aml_namespace.proofs.Numbering.{numbered_none}
use Rattle.aml_world.specs.declared.state.profile.Profile.TheVariants as profiles
use Rattle.aml_world.specs.declared.values.store_target.StoreTarget.{StoreTarget}
use Rattle.aml_world.specs.declared.values.operation_kind.EventChange.{EventChange}
use Rattle.aml_world.specs.declared.values.operation_kind.EventChange.TheVariants as changes
use Rattle.aml_world.specs.state.State.{State}
use Rattle.aml_world.specs.state.Run.{lift}
use Rattle.aml_world.specs.values.StoreTargets.{entry_declared}
use Rattle.aml_world.specs.state.Events.{signals_under, event_changed, waited}
use Rattle.aml_meaning.specs.Tasks.{operand_value, value_at}
use Rattle.aml_meaning.specs.WideTerms.{wait_rule}
use Rattle.aml_meaning.specs.Meaning.{meaning}
use Rattle.aml_laws.specs.Events.{NoDeclarationHas}
use Rattle.aml_laws.specs.ObjectTerms.{on_target_with, Declared}
use Rattle.aml_laws.specs.OperatorTerms.{GivesValue, IsRefused}
use Rattle.aml_laws.specs.TargetsNamed.{NamesAt}
use Rattle.aml_laws.proofs.EventsNamed.{declared_is}
use Rattle.aml_laws.proofs.ObjectTermsDone.{wait_begins}
use Rattle.aml_laws.proofs.TargetsActedOn.{named_at}

module _ {S : Type 0} (w : State S) (n : ℕ) (gone : NoDeclarationHas w n) where
  dead_under : signals_under n w ≡ (Err (refusal.Evaluation DeadReference), w)
  unfolding signals_under entry_declared go_on ◌>>=◌
  dead_under = rw (numbered_none w.names.map n gone) refl

  dead_changed : (k : EventChange) → event_changed k (Some n) w ≡ (Err (refusal.Evaluation DeadReference), w)
  unfolding event_changed settle go_on ◌>>=◌
  dead_changed k = rw dead_under refl

  pub dead_waited : (timeout : Value) → waited (Some n) timeout w ≡ (Err (refusal.Evaluation DeadReference), w)
  unfolding waited settle go_on ◌>>=◌
  dead_waited timeout = rw dead_under refl

  pub gone_refused : (event_changed changes.Signal (Some n) w ≡ (Err (refusal.Evaluation DeadReference), w)) × (event_changed changes.Reset (Some n) w ≡ (Err (refusal.Evaluation DeadReference), w))
      × ((timeout : Value) → waited (Some n) timeout w ≡ (Err (refusal.Evaluation DeadReference), w))
  gone_refused = (dead_changed changes.Signal, dead_changed changes.Reset, dead_waited)

module _ {S : Type 0} (accesses : Accesses S) (scope : List Seg) (depth : ℕ) (p : Part) (t : StoreTarget) (w : State S) (steps : ℕ) (between : State S × ℕ) (is_wide : w.profile ≡ profiles.Wide) (names : NamesAt accesses scope depth (w, steps) p t between) (n : ℕ) (declared : Declared between.0 t n)
    (x : Tree) (timeout : Value) (after : State S × ℕ) (gives : GivesValue accesses scope depth x between timeout after) (gone : NoDeclarationHas after.0 n) where
  waited_so : wait_rule accesses (meaning accesses) scope depth (on_target_with opcodes.Wait p x) (w, steps) ≡ (Err (refusal.Evaluation DeadReference), after)
  unfolding wait_rule value_at operand_value settle lift give go_on ◌>>=◌
  waited_so = rw (named_at accesses scope depth (on_target_with opcodes.Wait p x) 0 w steps p t between refl names, declared_is between.0 t n declared, gives, dead_waited after.0 n gone timeout) refl

  pub gone_meanwhile : IsRefused accesses scope depth (on_target_with opcodes.Wait p x) (w, suc steps) (refusal.Evaluation DeadReference) after
  gone_meanwhile = wait_begins accesses scope depth p w steps is_wide x ∙ waited_so
