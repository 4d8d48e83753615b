use Rattle.aml_laws.proofs.ConversionsSpelled.{hexadecimal_numeral, numeral_of_bytes, numeral_of_integer, numeral_of_nothing}
use Rattle.aml_laws.proofs.NumeralsRead.{decimal_numeral}
use Rattle.aml_laws.proofs.conversions.explicit_integers_are_read_by_their_prefix.Goals as goal

pub returns-clause-hexadecimal : goal.returns-clause-hexadecimal
returns-clause-hexadecimal c = hexadecimal_numeral

pub returns-clause-decimal : goal.returns-clause-decimal
returns-clause-decimal c = decimal_numeral

pub returns-clause-buffer : goal.returns-clause-buffer
returns-clause-buffer c = numeral_of_bytes

pub returns-clause-integer : goal.returns-clause-integer
returns-clause-integer c = numeral_of_integer

pub returns-clause-empty : goal.returns-clause-empty
returns-clause-empty c = numeral_of_nothing
