-- What costs one step when it begins, and what a DerefOf that names a target does then.
use Rattle.std.specs.Prelude.{◌≡◌, ◌≤◌, ℕ, zero, suc, List, Err}
use Rattle.ar_space.specs.declared.refusal.Refusal.TheVariants as refusal
use Rattle.ar_space.specs.declared.refusal.EvaluationFault.TheVariants.{OutOfSteps}
use Rattle.ar_space.specs.Change.{give, settle, ◌>>=◌}
use Rattle.aml_path.specs.declared.segment.Seg.{Seg}
use Rattle.aml_grammar.specs.Tree.{Tree}
use Rattle.aml_grammar.specs.Apart.{operand_of, name_of}
use Rattle.aml_objects.specs.declared.object.Element.{Element}
use Rattle.aml_objects.specs.declared.object.Element.TheVariants as element
use Rattle.aml_world.specs.declared.values.store_target.StoreTarget.{StoreTarget}
use Rattle.aml_world.specs.declared.values.store_target.StoreTarget.TheVariants as targets
use Rattle.aml_world.specs.state.State.{State}
use Rattle.aml_world.specs.state.Run.{Run, lift}
use Rattle.aml_world.specs.values.StoreTargets.{tested, reference_in}
use Rattle.aml_meaning.specs.declared.flow.Flow.{Flow}
use Rattle.aml_meaning.specs.Tasks.{Task, value_at}

-- Where no step is left it is refused, and nothing changes; else it takes one, and goes on as this does with the others. It leaves no more
-- than those.
pub record CostsOneStep {S A : Type 0} (m rest : Run S A) : Type 0 where
  pub refused : (w : State S) → m (w, zero) ≡ (Err (refusal.Evaluation OutOfSteps), (w, zero))
  pub paid : (w : State S) (steps : ℕ) → m (w, suc steps) ≡ rest (w, steps)
  pub less : (w : State S) (steps : ℕ) → (m (w, suc steps)).1.1 ≤ steps

-- it takes no step
abbrev pub CostsNothing : {S A : Type 0} → Run S A → Type 0
CostsNothing {S} m = (w : State S) (steps : ℕ) → (m (w, steps)).1.1 ≡ steps

-- the operand of a DerefOf is evaluated, and what it refers to has to stand
abbrev pub operand_referred : {S : Type 0} → (Task → Run S Flow) → List Seg → ℕ → Tree → Run S StoreTarget
operand_referred ev scope depth t = do
  v ← value_at ev scope depth t 0
  r ← settle (reference_in v)
  there ← lift (tested r)
  give (targets.Refers r)

-- a name in a package stays a name
abbrev pub element_named : {S : Type 0} → List Seg → Tree → Run S Element
element_named scope t = do
  n ← settle (name_of (operand_of t 0))
  give (element.Name n scope)
