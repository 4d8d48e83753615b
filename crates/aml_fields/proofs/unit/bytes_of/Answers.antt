use Rattle.std.proofs.Common.{ap, ◌∙◌, refl}
use Rattle.aml_fields.specs.Bits.{bits_of}
use Rattle.aml_fields.proofs.Numbers.{bits_of_number, known_by_bits, small_bytes}
use Rattle.aml_fields.proofs.unit.bytes_of.Goals as goal

pub returns-clause-bits : goal.returns-clause-bits
returns-clause-bits c = ap bits_of c.write_u64.ensures ∙ bits_of_number c.args.unit c.ranges.unit.fits (small_bytes 0 8 c.args.unit)

pub returns-clause-bytes : goal.returns-clause-bytes
returns-clause-bytes c = c.write_u64.ensures ∙ known_by_bits _ 8 _ (small_bytes 0 8 c.args.unit) refl (bits_of_number c.args.unit c.ranges.unit.fits (small_bytes 0 8 c.args.unit))
