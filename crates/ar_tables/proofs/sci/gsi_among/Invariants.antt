-- the first override of what is left is that of all entries
use Rattle.std.proofs.Common.{◌≡◌}
use Rattle.ar_tables.specs.Structures.{entries_in, structures_of}
use Rattle.ar_tables.specs.SciSources.{gsi_among}
use Rattle.ar_tables.proofs.sci.gsi_among.Given as goal

abbrev pub invariant-loop-entry : goal.invariant-loop-entry
invariant-loop-entry l = gsi_among (entries_in (structures_of l.madt)) l.source ≡ gsi_among l.entry-iterator l.source
