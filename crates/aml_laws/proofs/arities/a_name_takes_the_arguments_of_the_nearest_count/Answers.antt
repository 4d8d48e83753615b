use Rattle.aml_laws.proofs.CountsSought.{nearest_counts, none_counts, path_counts, path_without_count}
use Rattle.aml_laws.proofs.arities.a_name_takes_the_arguments_of_the_nearest_count.Goals as goal

pub returns-clause-nearest : goal.returns-clause-nearest
returns-clause-nearest c = nearest_counts

pub returns-clause-nowhere : goal.returns-clause-nowhere
returns-clause-nowhere c = none_counts

pub returns-clause-one_path : goal.returns-clause-one_path
returns-clause-one_path c = path_counts

pub returns-clause-no_count : goal.returns-clause-no_count
returns-clause-no_count c = path_without_count
