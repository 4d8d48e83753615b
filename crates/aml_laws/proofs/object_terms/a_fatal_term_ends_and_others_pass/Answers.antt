use Rattle.aml_laws.proofs.ObjectTermsDone.{ends, pauses, notifies, notifies_none}
use Rattle.aml_laws.proofs.object_terms.a_fatal_term_ends_and_others_pass.Goals as goal

pub returns-clause-fatal : goal.returns-clause-fatal
returns-clause-fatal g c = ends

pub returns-clause-pauses : goal.returns-clause-pauses
returns-clause-pauses g c = pauses

pub returns-clause-notified : goal.returns-clause-notified
returns-clause-notified g c = notifies

pub returns-clause-unfound : goal.returns-clause-unfound
returns-clause-unfound g c = notifies_none
