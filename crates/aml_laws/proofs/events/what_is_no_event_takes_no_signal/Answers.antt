use Rattle.aml_laws.proofs.EventsNamed.{no_event_refused}
use Rattle.aml_laws.proofs.events.what_is_no_event_takes_no_signal.Goals as goal

pub returns : goal.returns
returns g c = no_event_refused
