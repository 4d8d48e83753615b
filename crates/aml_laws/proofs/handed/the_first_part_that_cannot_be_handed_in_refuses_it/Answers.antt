use Rattle.aml_laws.proofs.PartsDecided.{handed_in_or_refused}
use Rattle.aml_laws.proofs.handed.the_first_part_that_cannot_be_handed_in_refuses_it.Goals as goal

pub returns-clause-either : goal.returns-clause-either
returns-clause-either g c = handed_in_or_refused
