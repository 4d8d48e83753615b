use Rattle.std.proofs.Common.{take}
use Rattle.acpi_machine.specs.Loading.{table_loaded}
use Rattle.acpi_explain.specs.Refused.{AreAnswered}
use Rattle.acpi_explain.proofs.tables.refused_among.Given as goal

abbrev pub invariant-loop-number : goal.invariant-loop-number
invariant-loop-number g l = AreAnswered (table_loaded g.S.Space.accesses l.steps) (take l.number l.tables) l.fn.world l.world
