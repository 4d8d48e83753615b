use Rattle.std.proofs.Common.{length}
use Rattle.aml_terms.proofs.operands.+kind_count.Given as goal

abbrev pub decreases-kind_count : goal.decreases-kind_count
decreases-kind_count l = length l.kinds.now
