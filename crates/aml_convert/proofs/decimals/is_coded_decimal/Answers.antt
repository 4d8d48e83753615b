use Rattle.std.proofs.Common.{◌∙◌, arith}
use Rattle.aml_convert.proofs.Respelling.{coded_goes_on, coded_ends}
use Rattle.aml_convert.proofs.decimals.is_coded_decimal.Goals as goal

pub returns-then-rest-gt9 : goal.returns-then-rest-gt9
returns-then-rest-gt9 c = coded_ends c.loop-rest.rest (omega arith) (omega arith) ∙ c.loop-rest.invariant

pub loop-rest-preserved : goal.loop-rest-preserved
loop-rest-preserved c = coded_goes_on c.loop-rest.rest (omega arith) (omega arith) ∙ c.loop-rest.invariant
