use Rattle.aml_laws.proofs.ConvertedValues.{as_integers, as_texts, as_bytes, as_no_integer, as_no_text, as_no_bytes, no_order}
use Rattle.aml_laws.proofs.values.the_second_value_is_compared_as_the_first_one.Goals as goal

pub returns-clause-integer : goal.returns-clause-integer
returns-clause-integer c = as_integers

pub returns-clause-string : goal.returns-clause-string
returns-clause-string c = as_texts

pub returns-clause-buffer : goal.returns-clause-buffer
returns-clause-buffer c = as_bytes

pub returns-clause-no_integer : goal.returns-clause-no_integer
returns-clause-no_integer c = as_no_integer

pub returns-clause-no_text : goal.returns-clause-no_text
returns-clause-no_text c = as_no_text

pub returns-clause-no_bytes : goal.returns-clause-no_bytes
returns-clause-no_bytes c = as_no_bytes

pub returns-clause-no_data : goal.returns-clause-no_data
returns-clause-no_data c = no_order
