use Rattle.aml_laws.proofs.ValuesJoined.{resources_give, joined_gives}
use Rattle.aml_laws.proofs.joined.joined_values_begin_with_the_first.Goals as goal

pub returns-clause-resources : goal.returns-clause-resources
returns-clause-resources g c = resources_give

pub returns-clause-values : goal.returns-clause-values
returns-clause-values g c = joined_gives
