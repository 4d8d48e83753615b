use Rattle.aml_laws.proofs.DataFormed.{package_refused, var_package_refused}
use Rattle.aml_laws.proofs.data_terms.a_package_is_refused_as_its_elements_are.Goals as goal

pub returns-clause-counted : goal.returns-clause-counted
returns-clause-counted g c = package_refused

pub returns-clause-sized : goal.returns-clause-sized
returns-clause-sized g c = var_package_refused
