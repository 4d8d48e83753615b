-- Each unit is one write.
use Rattle.std.proofs.Common.{◌≡◌, arith, rules, subst}
use Rattle.aml_fields.specs.Units.{units_of}
use Rattle.aml_fields.specs.Regions.{write_unit}
use Rattle.aml_fields.proofs.UnitLoops.{Writing, in_unit, in_field, writing_starts, writing_goes_on, writing_stops, writing_ends}
use Rattle.aml_fields.proofs.accesses.write_field.Goals as goal

pub loop-unit-init : goal.loop-unit-init
loop-unit-init g c =
    let all : units_of c.args.field.bit_offset c.args.field.bits c.args.field.access ≡ c.into_iter-unit-iterator.result = search rules in
    subst (λ l. Writing (write_unit g.S.Space.accesses c.args.region c.args.field c.args.source.now) c.args.field c.args.space.now l c.args.space.now) all (writing_starts _ _ _)

pub write_unit-requires-clause-inside : goal.write_unit-requires-clause-inside
write_unit-requires-clause-inside g c = in_unit _ _ c.loop-unit.invariant.done _ c.in-Some.unit c.next.new.self c.loop-unit.unit-iterator c.in-Some.ensures.steps c.loop-unit.invariant.cover

pub write_unit-requires-clause-position : goal.write_unit-requires-clause-position
write_unit-requires-clause-position g c = let h = in_field _ _ c.loop-unit.invariant.done _ c.in-Some.unit c.next.new.self c.loop-unit.unit-iterator c.in-Some.ensures.steps c.loop-unit.invariant.cover in omega (arith, h)

pub loop-unit-preserved : goal.loop-unit-preserved
loop-unit-preserved g c = writing_goes_on _ _ _ _ _ c.in-Some.unit c.next.new.self c.loop-unit.unit-iterator c.in-Some.ensures.steps c.loop-unit.invariant c.in_ok-write_unit.ensures.change

pub returns-in_err-write_unit-clause-change : goal.returns-in_err-write_unit-clause-change
returns-in_err-write_unit-clause-change g c = writing_stops _ _ _ _ _ c.in-Some.unit c.next.new.self c.loop-unit.unit-iterator _ c.in-Some.ensures.steps c.loop-unit.invariant c.in_err-write_unit.ensures.change c.from_residual.ensures

pub returns-clause-change : goal.returns-clause-change
returns-clause-change g c = writing_ends _ _ _ _ c.loop-unit.unit-iterator (search rules) c.loop-unit.invariant
