use Rattle.std.proofs.Common.{◌+◌, ◌≤◌}
use Rattle.ar_space.specs.Change.{Same}
use Rattle.aml_meaning.specs.Meaning.{meaning}
use Rattle.aml_frames.specs.Weights.{charged}
use Rattle.aml_frames.specs.Stack.{machine, stack_weight, control_weight}
use Rattle.aml_evaluation.proofs.stack.take_steps.Given as goal

abbrev pub invariant-steps : goal.invariant-steps
invariant-steps g l =
    record {
      lighter : charged l.run.1 + (stack_weight l.stack.entries.items + control_weight l.control) ≤ charged l.fn.run.1 + (stack_weight l.fn.stack.entries.items + control_weight l.fn.first);
      same : Same (machine g.S.Space.accesses (meaning g.S.Space.accesses) l.fn.first l.fn.stack.act l.fn.stack.entries.items) l.fn.run (machine g.S.Space.accesses (meaning g.S.Space.accesses) l.control l.stack.act l.stack.entries.items) l.run;
    }

abbrev pub decreases-steps : goal.decreases-steps
decreases-steps g l = charged l.run.1 + (stack_weight l.stack.entries.items + control_weight l.control)
