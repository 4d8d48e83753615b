use Rattle.std.proofs.Common.{arith}
use Rattle.acpi_explain.proofs.Loaded.{tables_found, too_many}
use Rattle.acpi_explain.proofs.tables.refused_table.Goals as goal

pub returns-then-len-gt-MAX_TEXTS : goal.returns-then-len-gt-MAX_TEXTS
returns-then-len-gt-MAX_TEXTS g c = too_many g.S.Space.accesses c.args.steps c.args.settings c.args.tables.now c.args.osi.items c.args.space (omega arith)

pub returns-in-Ok : goal.returns-in-Ok
returns-in-Ok g c =
    tables_found g.S.Space.accesses c.args.steps c.refused_number-number.result c.args.settings c.args.tables.now c.args.osi.items c.args.space c.in-Ok.world c.refused_number-number.new.world (omega arith) c.in-Ok.ensures.world c.refused_number-number.ensures
