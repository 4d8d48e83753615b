use Rattle.aml_laws.proofs.FormedElsewhere.{hexadecimal_written, decoded_written}
use Rattle.aml_laws.proofs.conversion_terms.a_conversion_to_a_name_of_a_field_writes_its_bits.Goals as goal

pub returns-clause-hexadecimal : goal.returns-clause-hexadecimal
returns-clause-hexadecimal g c = hexadecimal_written

pub returns-clause-decoded : goal.returns-clause-decoded
returns-clause-decoded g c = decoded_written
