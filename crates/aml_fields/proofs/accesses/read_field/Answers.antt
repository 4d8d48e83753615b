-- Each unit is one read.
use Rattle.std.proofs.Common.{◌≡◌, ◌+◌, ◌/◌, length, drop, replicate, arith, rules, sym, subst, ap, ◌∙◌}
use Rattle.aml_fields.specs.Units.{units_of}
use Rattle.aml_fields.specs.Bits.{bits_of, bits_from, extended, bytes_within, put}
use Rattle.aml_fields.proofs.Numbers.{take_whole}
use Rattle.aml_fields.specs.Regions.{read_unit}
use Rattle.aml_fields.proofs.UnitLoops.{Reading, in_unit, in_field, reading_starts, reading_goes_on, reading_stops, reading_ends}
use Rattle.aml_fields.proofs.accesses.read_field.Goals as goal

pub loop-unit-init : goal.loop-unit-init
loop-unit-init g c =
    let all : units_of c.args.field.bit_offset c.args.field.bits c.args.field.access ≡ c.into_iter-unit-iterator.result = search rules in
    subst (λ l. Reading (read_unit g.S.Space.accesses c.args.region c.args.field.access) c.args.field c.args.space.now c.in_ok-bits.bits.items l c.args.space.now) all
    (reading_starts _ _ _ _ (c.in_ok-bits.ensures.items_if_clones_equal (λ y h. search rules) ∙ ap (λ n. replicate n 0) c.bytes_for.ensures))

pub copy_from_unit-requires-clause-unit : goal.copy_from_unit-requires-clause-unit
copy_from_unit-requires-clause-unit g c = in_unit _ _ _ _ c.in-Some.unit c.next.new.self c.loop-unit.unit-iterator c.in-Some.ensures.steps c.loop-unit.invariant.cover

pub copy_from_unit-requires-clause-inside : goal.copy_from_unit-requires-clause-inside
copy_from_unit-requires-clause-inside g c =
    let h = in_field _ _ _ _ c.in-Some.unit c.next.new.self c.loop-unit.unit-iterator c.in-Some.ensures.steps c.loop-unit.invariant.cover in
    let size : length c.deref_mut.result.now ≡ (c.args.field.bits + 7) / 8 = ap length c.deref_mut.ensures.value ∙ c.loop-unit.invariant.size in
    omega (arith, h, size)

pub copy_from_unit-requires-clause-to : goal.copy_from_unit-requires-clause-to
copy_from_unit-requires-clause-to g c =
    let h = in_field _ _ _ _ c.in-Some.unit c.next.new.self c.loop-unit.unit-iterator c.in-Some.ensures.steps c.loop-unit.invariant.cover in
    omega (arith, h)

pub loop-unit-preserved : goal.loop-unit-preserved
loop-unit-preserved g c =
    let value = c.deref_mut.ensures.value in
    let new = extended c.in-Some.unit.count (drop c.in-Some.unit.first (bits_from c.in_ok-value.value 0 64)) in
    let all = take_whole c.copy_from_unit.new.target c.loop-unit.bits.items c.loop-unit.bits.len (c.copy_from_unit.ensures.len ∙ c.deref_mut.ensures.len) (ap length (sym value) ∙ c.deref_mut.ensures.len) in
    reading_goes_on _ _ _ _ _ _ _ c.in_ok-value.value c.in-Some.unit c.next.new.self c.loop-unit.unit-iterator c.in-Some.ensures.steps c.loop-unit.invariant c.in_ok-value.ensures.change
    (ap length all ∙ c.copy_from_unit.ensures.len ∙ ap length value)
    (ap bits_of all ∙ c.copy_from_unit.ensures.bits ∙ ap (λ l. put c.in-Some.unit.position new (bits_of l)) value)
    (all ∙ c.copy_from_unit.ensures.bytes ∙ ap (λ l. bytes_within (length l) (put c.in-Some.unit.position new (bits_of l))) value)

pub returns-in_err-value : goal.returns-in_err-value
returns-in_err-value g c = reading_stops _ _ _ _ _ _ _ _ c.in-Some.unit c.next.new.self c.loop-unit.unit-iterator c.in-Some.ensures.steps c.loop-unit.invariant c.in_err-value.ensures.change c.from_residual-in_err-value.ensures

pub returns : goal.returns
returns g c = reading_ends _ _ _ _ _ c.loop-unit.unit-iterator (search rules) c.loop-unit.invariant
