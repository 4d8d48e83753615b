-- Each digit goes on from the number before it.
use Rattle.std.proofs.Common.{◌≡◌, ◌+◌, ◌*◌, drop, sym, ◌∙◌, refl, ap, arith}
use Rattle.aml_convert.specs.Digits.{base_of, leading_number}
use Rattle.aml_convert.specs.Integers.{truncated}
use Rattle.aml_convert.proofs.DigitLoops.{number_on, at_start, at_digit, at_other, at_end, is_integer}
use Rattle.aml_convert.proofs.digits.leading_number.Goals as goal

pub loop-byte-init : goal.loop-byte-init
unfolding leading_number
loop-byte-init c = (refl, at_start c.args.width)

pub returns-in-None : goal.returns-in-None
returns-in-None c =
    sym c.loop-byte.invariant.1
    ∙ sym (at_other c.args.width c.args.base c.loop-byte.number c.loop-byte.byte-index _ c.args.bytes.now c.loop-byte-test.true refl (sym c.in-None.is ∙ c.value.ensures.value))
    ∙ c.loop-byte.invariant.0

pub loop-byte-preserved : goal.loop-byte-preserved
loop-byte-preserved c =
    let value : c.truncate-number.result ≡ truncated c.args.width (c.loop-byte.number * base_of c.args.base + c.in-Some.digit) = c.truncate-number.ensures.value ∙ ap (λ x. truncated c.args.width (x + c.in-Some.digit)) (ap (λ x. x * c.number.result) c.from.ensures ∙ ap (λ x. c.loop-byte.number * x) c.number.ensures) in (
      ap (λ n. number_on c.args.width c.args.base n (drop (c.loop-byte.byte-index + 1) c.args.bytes.now)) value
          ∙ sym (at_digit c.args.width c.args.base c.loop-byte.number c.in-Some.digit c.loop-byte.byte-index _ c.args.bytes.now c.loop-byte-test.true refl (sym c.in-Some.is ∙ c.value.ensures.value))
          ∙ c.loop-byte.invariant.0,
      is_integer c.args.width _ _ value,
    )

pub returns : goal.returns
returns c =
    sym c.loop-byte.invariant.1
    ∙ sym (at_end c.args.width c.args.base c.loop-byte.number c.loop-byte.byte-index c.args.bytes.now (omega arith))
    ∙ c.loop-byte.invariant.0
