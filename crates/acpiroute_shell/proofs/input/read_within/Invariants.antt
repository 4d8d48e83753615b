use Rattle.std.proofs.Common.{◌≡◌, false, ◌≤◌, ◌<◌, length}
use Rattle.std.specs.Io.KnownBytes.{Consumes}
use Rattle.acpiroute_shell.specs.Reads.{Reads}
use Rattle.acpiroute_shell.proofs.input.read_within.Given as goal

abbrev pub invariant-loop : goal.invariant-loop
invariant-loop g l = Consumes (g.R.Source.left l.initial.reader) (g.R.Source.left l.reader) l.input.items
    × (l.counter ≤ length l.input.items) × (length l.input.items ≤ l.limit) × (0 < length l.chunk) × (g.R.Source.has_failed l.reader ≡ false)
    × Reads g.R.Source.one_read l.counter l.initial.reader l.reader
