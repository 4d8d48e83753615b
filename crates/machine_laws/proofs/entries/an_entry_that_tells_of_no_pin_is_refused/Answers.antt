use Rattle.machine_laws.proofs.EntriesTold.{no_entry_refused, no_pin_refused, no_link_refused, index_refused}
use Rattle.machine_laws.proofs.entries.an_entry_that_tells_of_no_pin_is_refused.Goals as goal

pub returns-clause-no_entry : goal.returns-clause-no_entry
returns-clause-no_entry g c = no_entry_refused

pub returns-clause-no_pin : goal.returns-clause-no_pin
returns-clause-no_pin g c = no_pin_refused

pub returns-clause-no_link : goal.returns-clause-no_link
returns-clause-no_link g c = no_link_refused

pub returns-clause-index : goal.returns-clause-index
returns-clause-index g c = index_refused
