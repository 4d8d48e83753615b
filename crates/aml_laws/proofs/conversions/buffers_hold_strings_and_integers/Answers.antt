use Rattle.aml_laws.proofs.ConversionsSpelled.{bytes_of_integer, bytes_of_string, bytes_themselves}
use Rattle.aml_laws.proofs.conversions.buffers_hold_strings_and_integers.Goals as goal

pub returns-clause-integer : goal.returns-clause-integer
returns-clause-integer c = bytes_of_integer

pub returns-clause-string : goal.returns-clause-string
returns-clause-string c = bytes_of_string

pub returns-clause-themselves : goal.returns-clause-themselves
returns-clause-themselves c = bytes_themselves
