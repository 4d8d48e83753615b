use Rattle.std.proofs.Common.{◌∙◌, ap, sym}
use Rattle.aml_fields.specs.Bits.{bits_from, field_bits}
use Rattle.aml_fields.specs.Regions.{write_unit}
use Rattle.aml_fields.proofs.OneUnit.{one_written, one_not_written}
use Rattle.aml_fields.proofs.one_unit.write_number.Goals as goal

pub returns-in-Ok-clause-written : goal.returns-in-Ok-clause-written
returns-in-Ok-clause-written g c = λ source bits.
    let u = c.in-Some.unit in
    one_written (write_unit g.S.Space.accesses c.args.region c.args.field source) c.args.field u c.in-Some.ensures.units c.args.space.now c.write_in_unit.new.space
    (c.in-Ok.ensures.change source (ap (λ p. field_bits source p u.count) c.in-Some.ensures.position ∙ ap (λ n. field_bits source 0 n) c.in-Some.ensures.count ∙ bits ∙ ap (bits_from c.args.number 0) (sym c.in-Some.ensures.count)))

pub returns-in-Err-clause-refused : goal.returns-in-Err-clause-refused
returns-in-Err-clause-refused g c = λ source bits.
    let u = c.in-Some.unit in
    one_not_written (write_unit g.S.Space.accesses c.args.region c.args.field source) c.args.field u c.in-Some.ensures.units c.args.space.now c.write_in_unit.new.space
    (c.in-Err.ensures.change source (ap (λ p. field_bits source p u.count) c.in-Some.ensures.position ∙ ap (λ n. field_bits source 0 n) c.in-Some.ensures.count ∙ bits ∙ ap (bits_from c.args.number 0) (sym c.in-Some.ensures.count)))
