use Rattle.aml_laws.proofs.PathsTaken.{alias_of_none_refused}
use Rattle.aml_laws.proofs.declared_objects.an_alias_of_what_is_not_found_is_refused.Goals as goal

pub returns : goal.returns
returns g c = alias_of_none_refused
