use Rattle.aml_laws.proofs.ObjectTermsDone.{refers}
use Rattle.aml_laws.proofs.object_terms.a_reference_is_given_of_what_is_named.Goals as goal

pub returns : goal.returns
returns g c = refers
