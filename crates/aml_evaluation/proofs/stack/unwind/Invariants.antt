use Rattle.std.proofs.Common.{◌≡◌, ◌≤◌, length}
use Rattle.ar_space.specs.Change.{stop}
use Rattle.aml_meaning.specs.Meaning.{meaning}
use Rattle.aml_frames.specs.Stack.{then_all, stack_weight}
use Rattle.aml_evaluation.proofs.stack.unwind.Given as goal

abbrev pub invariant-entries : goal.invariant-entries
invariant-entries g l =
    record {
      steps : l.run.1 ≡ l.fn.run.1;
      lighter : stack_weight l.stack.entries.items ≤ stack_weight l.fn.stack.entries.items;
      same : then_all g.S.Space.accesses (meaning g.S.Space.accesses) (stop l.fn.refusal) l.fn.stack.act l.fn.stack.entries.items l.fn.run ≡ then_all g.S.Space.accesses (meaning g.S.Space.accesses) (stop l.fn.refusal) l.stack.act l.stack.entries.items l.run;
    }

abbrev pub decreases-entries : goal.decreases-entries
decreases-entries g l = length l.stack.entries.items
