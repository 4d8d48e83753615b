use Rattle.aml_laws.proofs.DataFormed.{package_formed, var_package_formed}
use Rattle.aml_laws.proofs.data_terms.packages_hold_their_elements_in_order.Goals as goal

pub returns-clause-counted : goal.returns-clause-counted
returns-clause-counted g c = package_formed

pub returns-clause-sized : goal.returns-clause-sized
returns-clause-sized g c = var_package_formed
