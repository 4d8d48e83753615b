-- One digit more: what the digits before it spell, and the digit.
use Rattle.std.proofs.Common.{◌≡◌, ℕ, ◌+◌, ◌*◌, ◌/◌, ◌%◌, ◌<◌, ◌≤◌, arith, sym, ◌∙◌, ap}
use Rattle.std.proofs.Math.Nat.{div-lt_self}
use Rattle.aml_convert.specs.Decimals.{respelled}
use Rattle.aml_convert.proofs.Respelling.{respelled_step, respelled_front}
use Rattle.aml_convert.proofs.decimals.+respelled.Goals as goal

digit_more : (from to n r : ℕ) → 2 ≤ from → 0 < n → r ≡ respelled from to (n / from) → r * to + n % from ≡ respelled from to n
digit_more from to n r b p is = ap (λ x. x * to + n % from) is ∙ sym (respelled_step from to n b p)

pub respelled-requires : goal.respelled-requires
respelled-requires t c =
    let fewer = div-lt_self {n = c.args.number} {k = c.args.from} (omega arith) (omega (arith, c.requires.from_base)) in
    let front = respelled_front c.args.from c.args.to c.args.number c.requires.from_base (omega arith) c.requires.to_base in
    (omega (arith, fewer, c.decreases), (c.requires.from_base, (c.requires.to_base, omega (arith, front, c.requires.fits))))

pub returns : goal.returns
returns t c = digit_more c.args.from c.args.to c.args.number c.respelled.result c.requires.from_base (omega arith) c.respelled.ensures

pub overflow_mul-result : goal.overflow_mul-result
overflow_mul-result t c =
    let e = digit_more c.args.from c.args.to c.args.number c.respelled.result c.requires.from_base (omega arith) c.respelled.ensures in
    record { fits = omega (arith, e, c.requires.fits) }

pub overflow_add-result : goal.overflow_add-result
overflow_add-result t c =
    let e = digit_more c.args.from c.args.to c.args.number c.respelled.result c.requires.from_base (omega arith) c.respelled.ensures in
    record { fits = omega (arith, e, c.requires.fits) }
