-- the entries of what is left are those of all bytes
use Rattle.std.proofs.Common.{◌≡◌, length}
use Rattle.ar_tables.specs.Structures.{entries_in}
use Rattle.ar_tables.proofs.madt.next_entry.Given as goal

abbrev pub invariant-loop-entry : goal.invariant-loop-entry
invariant-loop-entry l = entries_in l.rest ≡ entries_in l.bytes

abbrev pub decreases-loop-entry : goal.decreases-loop-entry
decreases-loop-entry l = length l.rest
