use Rattle.aml_laws.proofs.CountsSought.{list_at_nearest, list_at_none, list_at_path}
use Rattle.aml_laws.proofs.arities.the_list_of_a_scope_is_read_at_the_nearest_count.Goals as goal

pub returns-clause-nearest : goal.returns-clause-nearest
returns-clause-nearest c = list_at_nearest

pub returns-clause-nowhere : goal.returns-clause-nowhere
returns-clause-nowhere c = list_at_none

pub returns-clause-one_path : goal.returns-clause-one_path
returns-clause-one_path c = list_at_path
