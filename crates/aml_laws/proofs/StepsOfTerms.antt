-- The steps that a rule takes are taken by its parts, its targets and its names of elements.
use Rattle.std.specs.Prelude.{◌≡◌, ℕ, List, refl}
use Rattle.ar_space.specs.Accesses.{Accesses}
use Rattle.aml_world.specs.state.State.{State}
use Rattle.aml_world.specs.state.Run.{Run}
use Rattle.aml_meaning.specs.declared.flow.Flow.{Flow}
use Rattle.aml_path.specs.declared.segment.Seg.{Seg}
use Rattle.aml_grammar.specs.Tree.{Trees}
use Rattle.aml_objects.specs.declared.value.Value.{Value}
use Rattle.aml_meaning.specs.Tasks.{Task, in_turn}
use Rattle.aml_meaning.specs.Calls.{invoked}
use Rattle.aml_meaning.specs.Evaluation.{rule}
use Rattle.aml_laws.specs.StepsTaken.{TakenBy, none, part, target, element, after, TakenInTerm, TakenByParts}
use Rattle.aml_laws.proofs.Preorders.{Preorder}
use Rattle.aml_laws.proofs.StepsOfParts.{Keeps, in_turn_keeps, invoked_keeps}
use Rattle.aml_laws.proofs.StepsOfRules.{rule_keeps}

module _ {S : Type 0} (accesses : Accesses S) (ev : Task → Run S Flow) where
  abbrev taken : (Task → Type 0) → Preorder ℕ
  taken These = record { Leads = TakenBy ev These; reflexive = none; transitive = after }

  parts_take : (These : Task → Type 0) (u : Task) → Keeps (taken These) (ev u)
  parts_take These u = record { respects = λ r. part u r.0 r.1 }

  pub rule_takes : (t : Task) (s : State S × ℕ) → TakenInTerm ev t s.1 (rule accesses ev t s).1.1
  rule_takes t s =
      let These = λ (u : Task). u ≡ t in
      (rule_keeps (taken These) accesses ev (parts_take These) t (λ i. record { respects = λ r. target t i r.0 r.1 refl }) (λ e item is. record { respects = λ r. element t e r.0 r.1 refl item is })).respects s

  pub list_takes : (scope : List Seg) (depth : ℕ) (ts : Trees) (s : State S × ℕ) → TakenByParts ev s.1 (in_turn ev scope depth ts s).1.1
  list_takes scope depth ts s = (in_turn_keeps (taken (λ u. ⊥)) accesses ev (parts_take (λ u. ⊥)) scope depth ts).respects s

  pub call_takes : (depth : ℕ) (p : List Seg) (body : List ℕ) (arguments : List Value) (s : State S × ℕ) → TakenByParts ev s.1 (invoked ev depth p body arguments s).1.1
  call_takes depth p body arguments s = (invoked_keeps (taken (λ u. ⊥)) accesses ev (parts_take (λ u. ⊥)) depth p body arguments).respects s

pub ruleset a_rule_takes_no_step_of_its_own = (rule_takes, list_takes, call_takes)
