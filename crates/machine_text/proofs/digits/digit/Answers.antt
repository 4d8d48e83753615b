use Rattle.std.proofs.Common.{◌≡◌, ◌∙◌, ◌<◌, ◌≤◌, Some, get_or, ap, arith}
use Rattle.machine_text.proofs.DigitTable.{values, digit_read, digit_refused}
use Rattle.machine_text.proofs.digits.digit.Goals as goal

pub returns-then-value-lt16-clause-value : goal.returns-then-value-lt16-clause-value
returns-then-value-lt16-clause-value c =
    let is : c.from.result ≡ get_or values c.args.c 0 = c.from.ensures in
    let small : get_or values c.args.c 0 < 16 = c.if-value-lt16.true in
    ap Some is ∙ digit_read c.args.c (omega arith) small

pub returns-else-value-lt16-clause-value : goal.returns-else-value-lt16-clause-value
returns-else-value-lt16-clause-value c =
    let big : 16 ≤ get_or values c.args.c 0 = c.if-value-lt16.false in
    digit_refused c.args.c (omega arith) big
