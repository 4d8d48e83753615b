-- what stands already, and then the run that is left, is the whole run
use Rattle.std.proofs.Common.{◌≡◌, ◌+◌, ◌-◌, ◌++◌}
use Rattle.ar_space.specs.Pages.{cell}
use Rattle.ar_space.specs.Runs.{run_from}
use Rattle.ar_space.proofs.page.Page.append_to.Given as goal

abbrev pub invariant-loop-n : goal.invariant-loop-n
invariant-loop-n l = l.bytes.items ++ run_from (cell l.self) (l.at + l.n) (l.count - l.n) ≡ l.fn.bytes.items ++ run_from (cell l.self) l.at l.count
