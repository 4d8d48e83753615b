use Rattle.std.proofs.Common.{◌≡◌, ◌≤◌, ◌+◌, ◌*◌, length, ap, sym, ◌∙◌, subst}
use Rattle.aml_fields.specs.Bits.{bits_of, field_bits, put, bytes_within}
use Rattle.aml_fields.proofs.Numbers.{take_whole}
use Rattle.aml_fields.proofs.BufferWrites.{old_bytes, not_refused, not_refused_again, lies, written}
use Rattle.aml_fields.proofs.buffer_fields.write_buffer_field.Goals as goal

pub returns-in_err-bytes-2-clause-change : goal.returns-in_err-bytes-2-clause-change
returns-in_err-bytes-2-clause-change c = not_refused c.args.field.buffer _ _ c.in_ok-bytes.ensures.answer c.in_err-bytes-2.ensures.change c.in_err-bytes-2.ensures.memory

pub copy_bits-requires-clause-inside : goal.copy_bits-requires-clause-inside
copy_bits-requires-clause-inside c =
    subst (λ l. c.args.field.bit_offset + c.args.field.bits ≤ 8 * length l) (sym (c.deref_mut.ensures.value ∙ c.into_vec-bytes.ensures ∙ old_bytes c.args.field.buffer _ _ _ c.in_ok-bytes.ensures.answer c.in_ok-bytes-2.ensures.change))
    (lies c.args.field.bit_offset c.args.field.bits _ c.in_ok-still_within.ensures.within)

pub returns-in_err-exchange_buffer-clause-change : goal.returns-in_err-exchange_buffer-clause-change
returns-in_err-exchange_buffer-clause-change c =
    not_refused_again c.args.field.buffer _ _ _ _ c.in_ok-bytes.ensures.answer c.in_ok-bytes-2.ensures.change c.in_err-exchange_buffer.ensures.change c.in_err-exchange_buffer.ensures.memory

pub returns-clause-change : goal.returns-clause-change
returns-clause-change c =
    written c.args.field c.args.source.now _ _ _ _ _ c.in_ok-bytes.ensures.answer c.in_ok-still_within.ensures.answer c.in_ok-bytes-2.ensures.change
    (c.from_vec.ensures
    ∙ take_whole c.copy_bits.new.target c.into_vec-bytes.result.items c.into_vec-bytes.result.len (c.copy_bits.ensures.len ∙ c.deref_mut.ensures.len) (ap length (sym c.deref_mut.ensures.value) ∙ c.deref_mut.ensures.len)
    ∙ c.copy_bits.ensures.bytes ∙ ap (λ l. bytes_within (length l) (put c.args.field.bit_offset (field_bits c.args.source.now 0 c.args.field.bits) (bits_of l))) (c.deref_mut.ensures.value ∙ c.into_vec-bytes.ensures))
    c.in_ok-exchange_buffer.ensures.change
