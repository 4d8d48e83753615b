use Rattle.std.proofs.Common.{arith}
use Rattle.aml_convert.proofs.Respelling.{hexadecimal_fits}
use Rattle.aml_convert.proofs.decimals.code_decimal.Goals as goal

pub respelled-requires-clause-fits : goal.respelled-requires-clause-fits
respelled-requires-clause-fits c = hexadecimal_fits c.args.number (omega arith)
