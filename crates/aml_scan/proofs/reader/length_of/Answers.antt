use Rattle.std.proofs.Common.{arith}
use Rattle.aml_scan.proofs.Numbers.{below_three}
use Rattle.aml_scan.proofs.reader.length_of.Goals as goal

pub overflow_mul-result : goal.overflow_mul-result
overflow_mul-result c = omega (arith, below_three _ _ (omega arith) c.requires)

pub overflow_add-result : goal.overflow_add-result
overflow_add-result c = omega (arith, below_three _ _ (omega arith) c.requires)
