use Rattle.aml_laws.proofs.BytesListed.{hexadecimal_of_bytes, decimal_of_bytes, hexadecimal_of_others}
use Rattle.aml_laws.proofs.conversions.lists_of_bytes_are_spelled_with_commas.Goals as goal

pub returns-clause-hexadecimal : goal.returns-clause-hexadecimal
returns-clause-hexadecimal c = hexadecimal_of_bytes

pub returns-clause-decimal : goal.returns-clause-decimal
returns-clause-decimal c = decimal_of_bytes

pub returns-clause-others : goal.returns-clause-others
returns-clause-others c = hexadecimal_of_others
