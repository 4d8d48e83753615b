use Rattle.acpi_machine.specs.Loading.{table_loaded}
use Rattle.acpi_explain.proofs.Answered.{all_further_if, at_once, further_if}
use Rattle.acpi_explain.proofs.Halted.{answered_if, refused_if}
use Rattle.acpi_explain.proofs.tables.refused_number.Goals as goal

pub returns-then-refused : goal.returns-then-refused
returns-then-refused g c =
    let f = table_loaded g.S.Space.accesses c.args.steps in
    let x = c.args.tables.now.dsdt in
    let h = refused_if (f x) c.args.world.now c.load_table-outcome.new.world c.load_table-outcome.result c.in_ok-refused.refused c.load_table-outcome.ensures c.in_ok-refused.ensures c.if-refused.true in
    at_once f x c.args.tables.now.ssdts c.args.world.now c.load_table-outcome.new.world h.0 h.1

pub returns-in-Some : goal.returns-in-Some
returns-in-Some g c =
    let f = table_loaded g.S.Space.accesses c.args.steps in
    let x = c.args.tables.now.dsdt in
    let h = answered_if (f x) c.args.world.now c.load_table-outcome.new.world c.load_table-outcome.result c.in_ok-refused.refused c.load_table-outcome.ensures c.in_ok-refused.ensures c.if-refused.false in
    further_if f x c.as_slice.result.now c.args.tables.now.ssdts c.args.world.now c.load_table-outcome.new.world c.refused_among.new.world h.0 c.in_ok-found.found c.in-Some.number c.as_slice.ensures c.in-Some.is h.1 c.in_ok-found.ensures.far

pub returns-in-None : goal.returns-in-None
returns-in-None g c =
    let f = table_loaded g.S.Space.accesses c.args.steps in
    let x = c.args.tables.now.dsdt in
    let h = answered_if (f x) c.args.world.now c.load_table-outcome.new.world c.load_table-outcome.result c.in_ok-refused.refused c.load_table-outcome.ensures c.in_ok-refused.ensures c.if-refused.false in
    all_further_if f x c.as_slice.result.now c.args.tables.now.ssdts c.args.world.now c.load_table-outcome.new.world c.refused_among.new.world h.0 c.in_ok-found.found c.as_slice.ensures c.in-None.is h.1 c.in_ok-found.ensures.far
