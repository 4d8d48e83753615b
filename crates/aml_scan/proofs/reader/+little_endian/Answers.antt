use Rattle.std.proofs.Common.{ℕ, ◌<◌, ◌^◌, ◌-◌, length, drop, arith, length-take, length-drop}
use Rattle.aml_scan.proofs.Numbers.{below_seven}
use Rattle.aml_scan.proofs.reader.+little_endian.Goals as goal

small : (t : ℕ) (c : goal.After-little_endian t) → c.little_endian.result < 2 ^ 56
small t c = below_seven _ _ (omega (arith, length-take (length c.args.bytes.now - 1) (drop 1 c.args.bytes.now), length-drop 1 c.args.bytes.now)) c.little_endian.ensures.bound

pub overflow_mul-result : goal.overflow_mul-result
overflow_mul-result t c = omega (arith, small t c)

pub overflow_add-result : goal.overflow_add-result
overflow_add-result t c = omega (arith, small t c, c.from.ensures, c.type_inv.bytes 0)
