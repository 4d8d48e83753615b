use Rattle.std.proofs.Common.{arith, ◌∙◌}
use Rattle.machine_text.proofs.Numbers.{room, below_next, digit_on, digit_bad, digits_done}
use Rattle.machine_text.proofs.digits.digits.Goals as goal

pub overflow_mul-n : goal.overflow_mul-n
overflow_mul-n c = omega (arith, room c.loop-c.c-index c.loop-c.n (omega arith) c.loop-c.invariant.1)

pub returns-in_err-n : goal.returns-in_err-n
returns-in_err-n c = c.from_residual.ensures ∙ digit_bad c.loop-c.n c.args.word.now c.loop-c.c-index 0 _ (omega arith) c.in_err-n.ensures.value c.loop-c.invariant.0

pub overflow_add-n : goal.overflow_add-n
overflow_add-n c = omega (arith, c.in_ok-n.ensures.small, room c.loop-c.c-index c.loop-c.n (omega arith) c.loop-c.invariant.1)

pub loop-c-preserved : goal.loop-c-preserved
loop-c-preserved c = (digit_on c.loop-c.n c.args.word.now c.loop-c.c-index 0 c.in_ok-n.field-0 _ (omega arith) c.in_ok-n.ensures.value c.loop-c.invariant.0, below_next _ _ _ c.in_ok-n.ensures.small c.loop-c.invariant.1)

pub returns : goal.returns
returns c = digits_done c.loop-c.n c.args.word.now c.loop-c.c-index _ (omega arith) c.loop-c.invariant.0
