use Rattle.std.proofs.Common.{◌<◌, ◌≡◌, length, arith, rules}
use Rattle.route_report.proofs.ShortNumbers.{one_digit, two_digits, three_digits}
use Rattle.route_report.proofs.numerals.of_up_to_three_digits.Goals as goal

pub returns-then-word-eq1 : goal.returns-then-word-eq1
returns-then-word-eq1 c = one_digit c.args.word.now c.in_ok-first.first c.in_ok-first.ensures.0 c.in_ok-first.ensures.1 (omega (arith, c.if-word-eq1.true))

pub returns-then-word-eq2 : goal.returns-then-word-eq2
returns-then-word-eq2 c =
    let some : 0 < c.in_ok-first.first = omega (arith, c.if-first-eq0.false) in
    two_digits c.args.word.now c.in_ok-first.first c.in_ok-first.ensures.0 c.in_ok-first.ensures.1 c.in_ok-second.second c.in_ok-second.ensures.0 c.in_ok-second.ensures.1 some (omega (arith, c.if-word-eq2.true))

pub returns : goal.returns
returns c =
    let some : 0 < c.in_ok-first.first = omega (arith, c.if-first-eq0.false) in
    let three : length c.args.word.now ≡ 3 = search rules in
    three_digits c.args.word.now c.in_ok-first.first c.in_ok-first.ensures.0 c.in_ok-first.ensures.1 c.in_ok-second.second c.in_ok-second.ensures.0 c.in_ok-second.ensures.1 some
    c.in_ok-third.third c.in_ok-third.ensures.0 c.in_ok-third.ensures.1 three
