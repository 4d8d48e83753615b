-- what is left are structures where all bytes are
use Rattle.std.proofs.Common.{◌≡◌, length}
use Rattle.ar_tables.specs.Structures.{are_structures}
use Rattle.ar_tables.proofs.madt.are_structures.Given as goal

abbrev pub invariant-loop-behind : goal.invariant-loop-behind
invariant-loop-behind l = are_structures l.rest ≡ are_structures l.bytes

abbrev pub decreases-loop-behind : goal.decreases-loop-behind
decreases-loop-behind l = length l.rest
