-- the digits that are left decide, and become fewer
use Rattle.std.proofs.Common.{◌≡◌}
use Rattle.aml_convert.specs.Decimals.{is_coded_decimal}
use Rattle.aml_convert.proofs.decimals.is_coded_decimal.Given as goal

abbrev pub invariant-loop-rest : goal.invariant-loop-rest
invariant-loop-rest l = is_coded_decimal l.rest ≡ is_coded_decimal l.number

abbrev pub decreases-loop-rest : goal.decreases-loop-rest
decreases-loop-rest l = l.rest
