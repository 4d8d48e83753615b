-- What is refused for want of steps leaves none: `x_explains` says it of each rule, beside what it says of faults. A new rule needs its
-- line in `FaultsOfRules` or `FaultsOfWideTerms`, and none here.
use Rattle.std.specs.Prelude.{◌≡◌, ℕ, List, Err}
use Rattle.std.proofs.Common.{subst}
use Rattle.ar_space.specs.declared.refusal.Refusal.TheVariants as refusal
use Rattle.ar_space.specs.declared.refusal.EvaluationFault.TheVariants.{OutOfSteps}
use Rattle.ar_space.specs.Accesses.{Accesses}
use Rattle.ar_space.specs.Outcome.{Outcome}
use Rattle.aml_path.specs.declared.segment.Seg.{Seg}
use Rattle.aml_grammar.specs.Tree.{Trees}
use Rattle.aml_objects.specs.declared.value.Value.{Value}
use Rattle.aml_world.specs.state.Given.{Given}
use Rattle.aml_world.specs.state.State.{State}
use Rattle.aml_meaning.specs.Tasks.{Task, in_turn}
use Rattle.aml_meaning.specs.Calls.{invoked}
use Rattle.aml_meaning.specs.Meaning.{meaning}
use Rattle.aml_meaning.specs.Calling.{at_root, called, answer_exported}
use Rattle.aml_laws.proofs.FaultsOfChanges.{Spent}
use Rattle.aml_laws.proofs.FaultsOfCalls.{in_turn_explains, invoked_explains}
use Rattle.aml_laws.proofs.FaultsOfTerms.{meaning_explains}
use Rattle.aml_laws.proofs.FaultsOfEvaluations.{at_root_explains, called_explains, answer_exported_explains}

none_left : {A : Type 0} (x : Outcome A) (rest : ℕ) → Spent x rest → x ≡ Err (refusal.Evaluation OutOfSteps) → rest ≡ 0
none_left x rest h e = subst (λ y. Spent y rest) e h

module _ {S : Type 0} (accesses : Accesses S) where
  pub term_spent : (t : Task) (s : State S × ℕ) → (meaning accesses t s).0 ≡ Err (refusal.Evaluation OutOfSteps) → (meaning accesses t s).1.1 ≡ 0
  term_spent t s e = none_left _ _ ((meaning_explains accesses t).spent s) e

  pub list_spent : (scope : List Seg) (depth : ℕ) (ts : Trees) (s : State S × ℕ) → (in_turn (meaning accesses) scope depth ts s).0 ≡ Err (refusal.Evaluation OutOfSteps) → (in_turn (meaning accesses) scope depth ts s).1.1 ≡ 0
  list_spent scope depth ts s e = none_left _ _ ((in_turn_explains accesses (meaning accesses) (meaning_explains accesses) scope depth ts).spent s) e

  pub call_spent : (depth : ℕ) (p : List Seg) (body : List ℕ) (arguments : List Value) (s : State S × ℕ) → (invoked (meaning accesses) depth p body arguments s).0 ≡ Err (refusal.Evaluation OutOfSteps)
      → (invoked (meaning accesses) depth p body arguments s).1.1 ≡ 0
  call_spent depth p body arguments s e = none_left _ _ ((invoked_explains accesses (meaning accesses) (meaning_explains accesses) depth p body arguments).spent s) e

  pub table_spent : (ts : Trees) (s : State S × ℕ) → (at_root accesses ts s).0 ≡ Err (refusal.Evaluation OutOfSteps) → (at_root accesses ts s).1.1 ≡ 0
  table_spent ts s e = none_left _ _ ((at_root_explains accesses ts).spent s) e

  pub value_spent : (p : List Seg) (arguments : List Value) (s : State S × ℕ) → (called accesses p arguments s).0 ≡ Err (refusal.Evaluation OutOfSteps) → (called accesses p arguments s).1.1 ≡ 0
  value_spent p arguments s e = none_left _ _ ((called_explains accesses p arguments).spent s) e

  pub answer_spent : (p : List Seg) (count : ℕ) (arguments : List Given) (s : State S × ℕ) → (answer_exported accesses p count arguments s).0 ≡ Err (refusal.Evaluation OutOfSteps) → (answer_exported accesses p count arguments s).1.1 ≡ 0
  answer_spent p count arguments s e = none_left _ _ ((answer_exported_explains accesses p count arguments).spent s) e

pub ruleset no_step_is_left_where_steps_run_out = (term_spent, list_spent, call_spent, table_spent, value_spent, answer_spent)
