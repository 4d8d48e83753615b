use Rattle.std.proofs.Common.{◌≡◌, ◌/◌, ◌%◌, Bool, true, false, not, get_or, set, sym, ap, ◌∙◌, refl, arith}
use Rattle.std.specs.Int.Bits.{bit_xor}
use Rattle.std.proofs.Math.Bool.{beq}
use Rattle.std.proofs.Math.Nat.{mod-lt}
use Rattle.std.proofs.lemmas.Nat.{one_shl}
use Rattle.aml_fields.specs.Bits.{bits_of}
use Rattle.aml_fields.proofs.BitLists.{bit_turned}
use Rattle.aml_fields.proofs.bits.set_bit.Goals as goal

other : (r v : Bool) → not (beq r v) ≡ true → not r ≡ v
other true true e = absurd (cc e)
other true false e = refl
other false true e = refl
other false false e = absurd (cc e)

pub returns-then-bit-value-clause-bits : goal.returns-then-bit-value-clause-bits
returns-then-bit-value-clause-bits c =
    let i = c.args.index in
    let bytes = c.args.bytes.now in
    ap (λ m. bits_of (set bytes (i / 8) (bit_xor (get_or bytes (i / 8) 0) m))) (one_shl (i % 8) 8 (mod-lt i (omega arith)))
    ∙ bit_turned bytes i c.args.value c.requires (ap not (sym c.bit.ensures) ∙ other c.bit.result c.args.value c.if-bit-value.true)
