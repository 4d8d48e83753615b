use Rattle.aml_laws.proofs.CoreRefuses.{core_refuses, connections_refused, none_evaluates}
use Rattle.aml_laws.proofs.profile_terms.the_core_profile_refuses_the_terms_of_the_wide_one.Goals as goal

pub returns-clause-terms : goal.returns-clause-terms
returns-clause-terms g c = core_refuses

pub returns-clause-connections : goal.returns-clause-connections
returns-clause-connections g c = connections_refused

pub returns-clause-of_none : goal.returns-clause-of_none
returns-clause-of_none g c = none_evaluates
