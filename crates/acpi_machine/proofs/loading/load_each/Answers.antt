use Rattle.std.proofs.Common.{arith}
use Rattle.ar_space.proofs.Changes.{does_same, does_err, same_ok}
use Rattle.acpi_machine.proofs.Loaded.{same_each}
use Rattle.acpi_machine.proofs.loading.load_each.Goals as goal

pub loop-table-preserved : goal.loop-table-preserved
loop-table-preserved g c = same_ok _ _ (same_each g.S.Space.accesses c.args.steps c.args.tables.now c.loop-table.table-index c.table-item.result c.loop-table.invariant (omega arith) c.table-item.is) c.in_ok-load_table.ensures

pub returns-in_err-load_table : goal.returns-in_err-load_table
returns-in_err-load_table g c =
    does_same (same_each g.S.Space.accesses c.args.steps c.args.tables.now c.loop-table.table-index c.table-item.result c.loop-table.invariant (omega arith) c.table-item.is)
    (does_err _ _ c.in_err-load_table.ensures c.from_residual.ensures)
