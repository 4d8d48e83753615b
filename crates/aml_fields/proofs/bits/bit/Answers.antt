use Rattle.std.proofs.Common.{◌==◌, ◌/◌, ◌%◌, sym, ap, ◌∙◌}
use Rattle.std.proofs.lemmas.List.{get_or_past}
use Rattle.std.proofs.lemmas.Nat.Bits.{shr_and_one, bit_at-zero}
use Rattle.aml_fields.specs.Bits.{bit}
use Rattle.aml_fields.proofs.BitLists.{bit_of}
use Rattle.aml_fields.proofs.bits.bit.Goals as goal

pub returns-then-place-bytes : goal.returns-then-place-bytes
returns-then-place-bytes c =
    sym (bit_of c.args.bytes.now c.args.index
    ∙ ap (λ b. bit b (c.args.index % 8)) (get_or_past c.args.bytes.now (c.args.index / 8) 0 c.if-place-bytes.true)
    ∙ ap (λ x. x == 1) (bit_at-zero (c.args.index % 8)))

pub returns : goal.returns
returns c = ap (λ x. x == 1) (shr_and_one _ (c.args.index % 8)) ∙ sym (bit_of c.args.bytes.now c.args.index)
