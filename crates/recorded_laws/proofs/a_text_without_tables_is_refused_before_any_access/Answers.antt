use Rattle.recorded_laws.proofs.RunsTold.{text_refused, text_no_fault}
use Rattle.recorded_laws.proofs.a_text_without_tables_is_refused_before_any_access.Goals as goal

pub returns-clause-run : goal.returns-clause-run
returns-clause-run g c = text_refused

pub returns-clause-fault : goal.returns-clause-fault
returns-clause-fault g c = text_no_fault
