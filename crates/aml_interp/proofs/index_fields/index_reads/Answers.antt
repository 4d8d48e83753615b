use Rattle.std.proofs.Common.{◌≡◌, refl, length, drop, replicate, ap, sym, ◌∙◌, arith, rules, subst}
use Rattle.aml_fields.specs.Bits.{bits_of, bits_from, extended, bytes_within, put}
use Rattle.aml_fields.proofs.Numbers.{take_whole}
use Rattle.aml_fields.specs.Units.{units_of}
use Rattle.aml_fields.proofs.UnitLoops.{Reading, reading_starts, reading_goes_on, reading_stops, reading_ends}
use Rattle.aml_world.specs.fields.Fields.{index_unit}
use Rattle.aml_meaning.specs.Meaning.{meaning}
use Rattle.aml_frames.specs.Uses.{asking}
use Rattle.aml_interp.proofs.index_fields.index_reads.Goals as goal

pub loop-unit-init : goal.loop-unit-init
loop-unit-init g c =
    let all : units_of c.args.field.bit_offset c.args.field.bits c.args.field.access ≡ c.into_iter-unit-iterator.result = search rules in
    subst (λ l. Reading (index_unit g.S.Space.accesses (asking g.S.Space.accesses (meaning g.S.Space.accesses) c.args.calls) c.args.index c.args.behind c.args.field.access) c.args.field c.args.run.now c.in_ok-bits.bits.items l c.args.run.now) all
    (reading_starts _ _ _ _ (c.in_ok-bits.ensures.items_if_clones_equal (λ y h. search rules) ∙ ap (λ n. replicate n 0) c.bytes_for.ensures))

pub loop-unit-preserved : goal.loop-unit-preserved
loop-unit-preserved g c =
    let value = c.deref_mut.ensures.value in
    let new = extended c.in-Some.unit.count (drop c.in-Some.unit.first (bits_from c.in_ok-value.value 0 64)) in
    let whole = take_whole c.copy_from_unit.new.target c.loop-unit.bits.items c.loop-unit.bits.len (c.copy_from_unit.ensures.len ∙ c.deref_mut.ensures.len) (ap length (sym value) ∙ c.deref_mut.ensures.len) in
    reading_goes_on (index_unit g.S.Space.accesses (asking g.S.Space.accesses (meaning g.S.Space.accesses) c.args.calls) c.args.index c.args.behind c.args.field.access) c.args.field _ _ _ _ _ c.in_ok-value.value c.in-Some.unit c.next.new.self c.loop-unit.unit-iterator c.in-Some.ensures.steps c.loop-unit.invariant c.in_ok-value.ensures
    (ap length whole ∙ c.copy_from_unit.ensures.len ∙ ap length value)
    (ap bits_of whole ∙ c.copy_from_unit.ensures.bits ∙ ap (λ l. put c.in-Some.unit.position new (bits_of l)) value)
    (whole ∙ c.copy_from_unit.ensures.bytes ∙ ap (λ l. bytes_within (length l) (put c.in-Some.unit.position new (bits_of l))) value)

pub returns-in_err-value : goal.returns-in_err-value
returns-in_err-value g c = reading_stops (index_unit g.S.Space.accesses (asking g.S.Space.accesses (meaning g.S.Space.accesses) c.args.calls) c.args.index c.args.behind c.args.field.access) c.args.field _ _ _ _ _ _ c.in-Some.unit c.next.new.self c.loop-unit.unit-iterator c.in-Some.ensures.steps c.loop-unit.invariant c.in_err-value.ensures c.from_residual-in_err-value.ensures

pub returns : goal.returns
returns g c = reading_ends (index_unit g.S.Space.accesses (asking g.S.Space.accesses (meaning g.S.Space.accesses) c.args.calls) c.args.index c.args.behind c.args.field.access) c.args.field _ _ _ c.loop-unit.unit-iterator (search rules) c.loop-unit.invariant
