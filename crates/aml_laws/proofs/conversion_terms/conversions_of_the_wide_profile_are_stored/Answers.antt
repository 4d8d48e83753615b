use Rattle.aml_laws.proofs.ConversionTermsDone.{to_decimal_string, to_hexadecimal_string, to_same_string, from_coded, to_coded}
use Rattle.aml_laws.proofs.conversion_terms.conversions_of_the_wide_profile_are_stored.Goals as goal

pub returns-clause-decimal : goal.returns-clause-decimal
returns-clause-decimal g c = to_decimal_string

pub returns-clause-hexadecimal : goal.returns-clause-hexadecimal
returns-clause-hexadecimal g c = to_hexadecimal_string

pub returns-clause-same_string : goal.returns-clause-same_string
returns-clause-same_string g c = to_same_string

pub returns-clause-decoded : goal.returns-clause-decoded
returns-clause-decoded g c = from_coded

pub returns-clause-coded : goal.returns-clause-coded
returns-clause-coded g c = to_coded
