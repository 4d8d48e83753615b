use Rattle.std.proofs.Common.{arith}
use Rattle.acpi_machine.specs.Loading.{table_loaded}
use Rattle.acpi_explain.proofs.Answered.{all, first, turned}
use Rattle.acpi_explain.proofs.Halted.{answered_if, refused_if}
use Rattle.acpi_explain.proofs.tables.refused_among.Goals as goal

pub loop-number-preserved : goal.loop-number-preserved
loop-number-preserved g c =
    let f = table_loaded g.S.Space.accesses c.args.steps in
    let x = c.index-tables-number.result in
    let h = answered_if (f x) c.loop-number.world c.load_table-outcome.new.world c.load_table-outcome.result c.in_ok-refused.refused c.load_table-outcome.ensures c.in_ok-refused.ensures c.if-refused.false in
    turned f c.args.tables.now c.loop-number.number x c.args.world.now c.loop-number.world c.load_table-outcome.new.world h.0 (omega arith) c.index-tables-number.is c.loop-number.invariant h.1

pub returns-then-refused-clause-far : goal.returns-then-refused-clause-far
returns-then-refused-clause-far g c =
    let f = table_loaded g.S.Space.accesses c.args.steps in
    let x = c.index-tables-number.result in
    let h = refused_if (f x) c.loop-number.world c.load_table-outcome.new.world c.load_table-outcome.result c.in_ok-refused.refused c.load_table-outcome.ensures c.in_ok-refused.ensures c.if-refused.true in
    (h.0, x, first f c.args.tables.now c.loop-number.number x c.args.world.now c.loop-number.world c.load_table-outcome.new.world h.0 (omega arith) c.index-tables-number.is c.loop-number.invariant h.1)

pub returns-clause-far : goal.returns-clause-far
returns-clause-far g c = all (table_loaded g.S.Space.accesses c.args.steps) c.args.tables.now c.loop-number.number c.args.world.now c.loop-number.world (omega arith) c.loop-number.invariant
