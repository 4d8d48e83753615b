use Rattle.aml_laws.proofs.StatementsLeave.{return_gives_back, return_is_refused, break_breaks, continue_continues, noop_gives_nothing}
use Rattle.aml_laws.proofs.statements.return_break_and_continue_leave_their_list.Goals as goal

pub returns-clause-returned : goal.returns-clause-returned
returns-clause-returned g c = return_gives_back

pub returns-clause-refused : goal.returns-clause-refused
returns-clause-refused g c = return_is_refused

pub returns-clause-broken : goal.returns-clause-broken
returns-clause-broken g c = break_breaks

pub returns-clause-continued : goal.returns-clause-continued
returns-clause-continued g c = continue_continues

pub returns-clause-nothing : goal.returns-clause-nothing
returns-clause-nothing g c = noop_gives_nothing
