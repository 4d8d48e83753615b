use Rattle.aml_laws.proofs.ArgumentsRefused.{argument_refuses_call}
use Rattle.aml_laws.proofs.ends.the_first_argument_that_is_refused_refuses_the_call.Goals as goal

pub returns : goal.returns
returns g c = argument_refuses_call
