use Rattle.aml_convert.proofs.Respelling.{decimal_fits}
use Rattle.aml_convert.proofs.decimals.decode_decimal.Goals as goal

pub respelled-requires-clause-fits : goal.respelled-requires-clause-fits
respelled-requires-clause-fits c = decimal_fits c.args.number c.ranges.number.fits
