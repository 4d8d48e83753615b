-- the lines that are left, after what those before them said, say what all lines say
use Rattle.std.proofs.Common.{◌≡◌, ◌≤◌, ◌+◌, length}
use Rattle.std.specs.Str.Lines.{lines}
use Rattle.machine_text.specs.MachineText.{lines_read}
use Rattle.machine_text.proofs.machine_lines.lines_read.Given as goal

abbrev pub invariant-loop-rest : goal.invariant-loop-rest
invariant-loop-rest l = record {
  same : lines_read 1 (lines l.fn.text) l.fn.draft ≡ lines_read l.n (lines l.rest) l.draft;
  few : l.n + length l.rest ≤ length l.fn.text + 1;
}

abbrev pub decreases-loop-rest : goal.decreases-loop-rest
decreases-loop-rest l = length l.rest
