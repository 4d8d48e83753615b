use Rattle.aml_laws.proofs.IntegersOfValues.{itself, of_bytes, of_digits, of_nothing, of_package}
use Rattle.aml_laws.proofs.ConversionsSpelled.{no_integer}
use Rattle.aml_laws.proofs.operands.operands_convert_to_integers.Goals as goal

pub returns-clause-integer : goal.returns-clause-integer
returns-clause-integer g c = itself

pub returns-clause-buffer : goal.returns-clause-buffer
returns-clause-buffer g c = of_bytes

pub returns-clause-string : goal.returns-clause-string
returns-clause-string g c = of_digits

pub returns-clause-empty : goal.returns-clause-empty
returns-clause-empty g c = of_nothing

pub returns-clause-list : goal.returns-clause-list
returns-clause-list g c = of_package

pub returns-clause-no_data : goal.returns-clause-no_data
returns-clause-no_data g c = no_integer
