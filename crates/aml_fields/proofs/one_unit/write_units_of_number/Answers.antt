use Rattle.std.proofs.Common.{◌≡◌, ◌≤◌, ◌∙◌, Ok, Err, sym, subst, arith}
use Rattle.ar_space.specs.Change.{Change, Does}
use Rattle.aml_fields.specs.Bits.{bits_from, field_bits}
use Rattle.aml_fields.specs.Regions.{write_field}
use Rattle.aml_fields.proofs.NumberWrites.{front_bits, write_same}
use Rattle.aml_fields.proofs.one_unit.write_units_of_number.Goals as goal

pub returns-in-Ok-clause-written : goal.returns-in-Ok-clause-written
returns-in-Ok-clause-written g c = λ source bits.
    let f = c.args.field in
    let bytes = c.bytes_of.result in
    let few : f.bits ≤ 64 = omega arith in
    subst (λ (w : Change g.row.S.Denot (Unit {0})). Does (Ok tt) c.write_field.new.space w c.args.space.now)
    (write_same g.S.Space.accesses c.args.region f bytes source (front_bits c.args.number f.bits bytes few c.bytes_of.ensures.bits ∙ sym bits))
    c.in-Ok.ensures.change

pub returns-in-Err-clause-refused : goal.returns-in-Err-clause-refused
returns-in-Err-clause-refused g c = λ source bits.
    let f = c.args.field in
    let bytes = c.bytes_of.result in
    let few : f.bits ≤ 64 = omega arith in
    subst (λ (w : Change g.row.S.Denot (Unit {0})). Does (Err c.in-Err.refusal) c.write_field.new.space w c.args.space.now)
    (write_same g.S.Space.accesses c.args.region f bytes source (front_bits c.args.number f.bits bytes few c.bytes_of.ensures.bits ∙ sym bits))
    c.in-Err.ensures.change
