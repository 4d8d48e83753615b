use Rattle.aml_laws.proofs.ConversionsSpelled.{text_of_bytes, text_of_string, decimal_text, decimal_text_of_0}
use Rattle.aml_laws.proofs.conversions.strings_spell_bytes_and_integers.Goals as goal

pub returns-clause-bytes : goal.returns-clause-bytes
returns-clause-bytes c = text_of_bytes

pub returns-clause-themselves : goal.returns-clause-themselves
returns-clause-themselves c = text_of_string

pub returns-clause-decimal : goal.returns-clause-decimal
returns-clause-decimal c = decimal_text

pub returns-clause-decimal_of_0 : goal.returns-clause-decimal_of_0
returns-clause-decimal_of_0 c = decimal_text_of_0
