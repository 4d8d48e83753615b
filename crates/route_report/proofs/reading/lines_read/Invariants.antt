-- the lines that are left, after what those before them said, claim what all lines claim
use Rattle.std.proofs.Common.{◌≡◌, ◌≤◌, ◌+◌, length}
use Rattle.route_report.specs.Lines.{lines}
use Rattle.route_report.specs.Reading.{lines_read, first_said}
use Rattle.route_report.proofs.reading.lines_read.Given as goal

abbrev pub invariant-loop-rest : goal.invariant-loop-rest
invariant-loop-rest l = record {
  same : lines_read 2 (lines l.fn.text) (first_said l.fn.version) ≡ lines_read l.n (lines l.rest) l.draft;
  few : l.n + length l.rest ≤ length l.fn.text + 2;
}

abbrev pub decreases-loop-rest : goal.decreases-loop-rest
decreases-loop-rest l = length l.rest
