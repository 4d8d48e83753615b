use Rattle.std.proofs.Common.{ap, ◌∙◌, drop, length, replicate, rules}
use Rattle.aml_fields.specs.Bits.{bits_of, field_bits, put, bytes_within}
use Rattle.aml_fields.proofs.Numbers.{over_zeros}
use Rattle.aml_fields.proofs.Putting.{length_extended}
use Rattle.aml_fields.proofs.bits.get_bits.Goals as goal

pub returns : goal.returns
returns c =
    over_zeros c.copy_bits.new.target c.in_ok-field.field.items c.in_ok-field.field.len c.args.count (field_bits c.args.bytes.now c.args.offset c.args.count)
    (c.in_ok-field.ensures.items_if_clones_equal (λ y h. search rules) ∙ ap (λ n. replicate n 0) c.bytes_for.ensures) (length_extended c.args.count (drop c.args.offset (bits_of c.args.bytes.now))) (c.copy_bits.ensures.len ∙ ap length c.deref_mut.ensures.value)
    (c.in_ok-field.ensures.len ∙ c.bytes_for.ensures)
    (c.copy_bits.ensures.bytes ∙ ap (λ l. bytes_within (length l) (put 0 (field_bits c.args.bytes.now c.args.offset c.args.count) (bits_of l))) c.deref_mut.ensures.value)
