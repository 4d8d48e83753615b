use Rattle.std.proofs.Common.{◌≡◌, ◌≤◌}
use Rattle.ar_space.specs.Change.{Same}
use Rattle.aml_meaning.specs.Meaning.{meaning}
use Rattle.aml_frames.specs.Follow.{arguments_left, behind_arguments}
use Rattle.aml_accesses.proofs.calls.begin_call.Given as goal

abbrev pub invariant-arguments : goal.invariant-arguments
invariant-arguments g l =
    record {
      spent : l.run.1 ≤ l.fn.run.1;
      same : Same (arguments_left g.S.Space.accesses (meaning g.S.Space.accesses) l.fn.call l.fn.call.done.items l.fn.act) l.fn.run (arguments_left g.S.Space.accesses (meaning g.S.Space.accesses) l.call l.call.done.items l.act) l.run;
      ends : behind_arguments l.call l.act ≡ behind_arguments l.fn.call l.fn.act;
    }

abbrev pub decreases-arguments : goal.decreases-arguments
decreases-arguments g l = l.call.left
