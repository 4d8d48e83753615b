use Rattle.aml_laws.proofs.NamesCounted.{name_increments, name_decrements, name_increments_not, name_decrements_not}
use Rattle.aml_laws.proofs.names_in_packages.a_name_in_a_package_is_counted_and_replaced.Goals as goal

pub returns-clause-up : goal.returns-clause-up
returns-clause-up g c = name_increments

pub returns-clause-down : goal.returns-clause-down
returns-clause-down g c = name_decrements

pub returns-clause-up_refused : goal.returns-clause-up_refused
returns-clause-up_refused g c = name_increments_not

pub returns-clause-down_refused : goal.returns-clause-down_refused
returns-clause-down_refused g c = name_decrements_not
