use Rattle.std.proofs.Common.{rules, sym, ◌∙◌}
use Rattle.acpiroute_shell.specs.Values.{number_from}
use Rattle.acpiroute_shell.proofs.Digits.{one_digit, no_digit, all_digits}
use Rattle.acpiroute_shell.proofs.values.number_of_digits.Goals as goal

pub returns-in_err-n : goal.returns-in_err-n
returns-in_err-n c = no_digit c.from_residual.result (number_from 0 c.args.digits.now) c.args.digits.now c.loop-digit.digit-index _ c.loop-digit.n c.loop-digit-test.true (sym c.with_digit.ensures ∙ search rules) c.loop-digit.invariant (search rules)

pub loop-digit-preserved : goal.loop-digit-preserved
loop-digit-preserved c = one_digit (number_from 0 c.args.digits.now) c.args.digits.now c.loop-digit.digit-index _ c.loop-digit.n c.in_ok-n.n c.loop-digit-test.true (sym c.with_digit.ensures ∙ search rules) c.loop-digit.invariant

pub returns : goal.returns
returns c = all_digits (number_from 0 c.args.digits.now) c.args.digits.now c.loop-digit.digit-index c.loop-digit.n c.loop-digit-test.false c.loop-digit.invariant
