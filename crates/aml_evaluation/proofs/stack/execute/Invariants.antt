use Rattle.std.proofs.Common.{◌+◌}
use Rattle.ar_space.specs.Change.{Same}
use Rattle.aml_meaning.specs.Meaning.{meaning}
use Rattle.aml_frames.specs.Weights.{charged}
use Rattle.aml_frames.specs.Stack.{machine, stack_weight, control_weight}
use Rattle.aml_evaluation.proofs.stack.execute.Given as goal

abbrev pub invariant-refusals : goal.invariant-refusals
invariant-refusals g l = Same (machine g.S.Space.accesses (meaning g.S.Space.accesses) l.fn.first l.fn.stack.act l.fn.stack.entries.items) l.fn.run (machine g.S.Space.accesses (meaning g.S.Space.accesses) l.control l.stack.act l.stack.entries.items) l.run

abbrev pub decreases-refusals : goal.decreases-refusals
decreases-refusals g l = charged l.run.1 + (stack_weight l.stack.entries.items + control_weight l.control)
