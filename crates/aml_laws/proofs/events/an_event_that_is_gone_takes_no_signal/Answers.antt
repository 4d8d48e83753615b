use Rattle.aml_laws.proofs.EventsGone.{gone_refused, gone_meanwhile}
use Rattle.aml_laws.proofs.events.an_event_that_is_gone_takes_no_signal.Goals as goal

pub returns-clause-gone : goal.returns-clause-gone
returns-clause-gone g c = gone_refused

pub returns-clause-meanwhile : goal.returns-clause-meanwhile
returns-clause-meanwhile g c = gone_meanwhile
