use Rattle.aml_laws.proofs.PutIntoTargets.{puts_what_it_gives}
use Rattle.aml_laws.proofs.target_terms.a_term_puts_what_it_gives_into_its_target.Goals as goal

pub returns : goal.returns
returns g c = puts_what_it_gives
