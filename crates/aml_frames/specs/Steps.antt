-- What a step of evaluation promises, and the rules that steps keep: what each means, and where it ends.
use Rattle.std.specs.Prelude.{ℕ, ◌≤◌, ◌<◌, IfOk}
use Rattle.ar_space.specs.Accesses.{Accesses}
use Rattle.ar_space.specs.Outcome.{Outcome}
use Rattle.aml_world.specs.declared.values.store_target.StoreTarget.{StoreTarget}
use Rattle.aml_world.specs.state.State.{State}
use Rattle.aml_world.specs.state.Run.{Run}
use Rattle.aml_meaning.specs.declared.flow.Flow.{Flow}
use Rattle.aml_meaning.specs.declared.term_kind.OperatorKind.{OperatorKind}
use Rattle.aml_meaning.specs.declared.term_kind.StatementKind.{StatementKind}
use Rattle.aml_meaning.specs.declared.term_kind.WideKind.{WideKind}
use Rattle.aml_meaning.specs.Meaning.{meaning}
use Rattle.aml_frames.specs.declared.frames.Frame.{Frame}
use Rattle.aml_frames.specs.declared.frames.Next.{Next}
use Rattle.aml_frames.specs.declared.uses.Target.{Target}
use Rattle.aml_frames.specs.declared.uses.TargetUse.{TargetUse}
use Rattle.aml_frames.specs.Places.{Site}
use Rattle.aml_frames.specs.Uses.{target_run, target_ends, used, use_ends}
use Rattle.aml_frames.specs.Follow.{resumed, ends, next_run, next_ends, operator_run, behind_operator_at, statement_run, behind_statement_at, wide_run, behind_wide_at, Leads, EndsAt}
use Rattle.aml_frames.specs.Weights.{next_weight}

-- a step of a rule: the steps that are left don't grow; what it leaves to do weighs less than the limit; the rule is what the step did and
-- then what it leaves to do, unless memory ran out, and ends where that ends
pub record Steps {S : Type 0} (ac : Accesses S) (limit : ℕ) (r : Outcome Next) (c : Site) (after : State S × ℕ) (rule : Run S Flow × Site) (before : State S × ℕ) : Type 0 where
  pub spent : after.1 ≤ before.1
  pub falls : IfOk r (λ n. next_weight n < limit)
  pub means : Leads ac (meaning ac) r c after rule.0 before
  pub ends : EndsAt r c rule.1

module _ {S : Type 0} (ac : Accesses S) where
  -- what a frame does with the flow that it waits for
  abbrev pub frame_at : Frame → Site → Flow → Run S Flow × Site
  frame_at x c f = (resumed ac (meaning ac) x c f, ends x c)

  -- what a step left to do
  abbrev pub next_at : Next → Site → Run S Flow × Site
  next_at n c = (next_run ac (meaning ac) n c, next_ends n c)

  -- an operator, a statement and a term of the wide profile whose operands stand next
  abbrev pub operator_and_end : OperatorKind → Site → ℕ → Run S Flow × Site
  operator_and_end k c levels = (operator_run ac (meaning ac) k c levels, behind_operator_at k c levels)

  abbrev pub statement_at : StatementKind → Site → ℕ → Run S Flow × Site
  statement_at k c levels = (statement_run ac (meaning ac) k c levels, behind_statement_at k c levels)

  abbrev pub wide_at : WideKind → Site → ℕ → Run S Flow × Site
  wide_at k c levels = (wide_run ac (meaning ac) k c levels, behind_wide_at k c levels)

  -- a target that stands next, and a target that was found
  abbrev pub next_target : Target → TargetUse → Site → Run S Flow × Site
  next_target t u c = (target_run ac (meaning ac) t u c, target_ends t u c)

  abbrev pub use_at : TargetUse → Site → StoreTarget → Run S Flow × Site
  use_at u c t = (used ac (meaning ac) u c t, use_ends u c)
