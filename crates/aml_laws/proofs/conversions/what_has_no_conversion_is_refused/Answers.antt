use Rattle.aml_laws.proofs.ConversionsSpelled.{no_integer, no_text, no_bytes, no_numeral}
use Rattle.aml_laws.proofs.conversions.what_has_no_conversion_is_refused.Goals as goal

pub returns-clause-integer : goal.returns-clause-integer
returns-clause-integer g c = no_integer

pub returns-clause-text : goal.returns-clause-text
returns-clause-text g c = no_text

pub returns-clause-bytes : goal.returns-clause-bytes
returns-clause-bytes g c = no_bytes

pub returns-clause-numeral : goal.returns-clause-numeral
returns-clause-numeral g c = no_numeral
