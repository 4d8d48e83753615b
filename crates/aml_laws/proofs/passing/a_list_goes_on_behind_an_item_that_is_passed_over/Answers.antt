use Rattle.aml_laws.proofs.ListsGoOn.{ended_list, refused_in_core, refused_in_body}
use Rattle.aml_laws.proofs.passing.a_list_goes_on_behind_an_item_that_is_passed_over.Goals as goal

pub returns-clause-ended : goal.returns-clause-ended
returns-clause-ended g c = ended_list

pub returns-clause-in_core : goal.returns-clause-in_core
returns-clause-in_core g c = refused_in_core

pub returns-clause-in_body : goal.returns-clause-in_body
returns-clause-in_body g c = refused_in_body
