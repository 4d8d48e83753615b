use Rattle.std.proofs.Common.{drop}
use Rattle.ar_space.specs.Change.{Same}
use Rattle.acpi_machine.specs.Loading.{each_loaded}
use Rattle.acpi_machine.proofs.loading.load_each.Given as goal

abbrev pub invariant-loop-table : goal.invariant-loop-table
invariant-loop-table g l = Same (each_loaded g.S.Space.accesses l.steps l.tables) l.fn.world (each_loaded g.S.Space.accesses l.steps (drop l.table-index l.tables)) l.world
