use Rattle.std.proofs.Common.{◌≤◌, ◌+◌, Ok, sym, subst, arith}
use Rattle.ar_space.specs.Change.{Does}
use Rattle.aml_fields.specs.Bits.{bits_from, packed}
use Rattle.aml_fields.specs.Regions.{read_unit, read_field}
use Rattle.aml_fields.proofs.OneUnit.{one_read, one_refused}
use Rattle.aml_fields.proofs.UnitWrites.{narrow}
use Rattle.aml_fields.proofs.one_unit.read_number.Goals as goal

pub returns-in-Ok-clause-read : goal.returns-in-Ok-clause-read
returns-in-Ok-clause-read g c =
    let width = narrow c.args.field.access in
    let inside : c.in-Some.unit.first + c.in-Some.unit.count ≤ 64 = omega (arith, width, c.in-Some.ensures.inside) in
    subst (λ n. Does (Ok (packed (bits_from n 0 c.args.field.bits))) c.read_unit.new.space (read_field g.S.Space.accesses c.args.region c.args.field) c.args.space.now) (sym c.bits_within.ensures)
    (one_read (read_unit g.S.Space.accesses c.args.region c.args.field.access) c.args.field c.in-Some.unit c.in-Some.ensures.units c.in-Ok.value c.args.space.now c.read_unit.new.space inside c.in-Some.ensures.count c.in-Ok.ensures.change)

pub returns-in-Err-clause-refused : goal.returns-in-Err-clause-refused
returns-in-Err-clause-refused g c = one_refused (read_unit g.S.Space.accesses c.args.region c.args.field.access) c.args.field c.in-Some.unit c.in-Some.ensures.units c.args.space.now c.read_unit.new.space c.in-Err.ensures.change
