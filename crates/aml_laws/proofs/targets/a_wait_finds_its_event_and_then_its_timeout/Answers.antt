use Rattle.aml_laws.proofs.TargetsActedOn.{gone_at, waits_for_no_time, no_event_at}
use Rattle.aml_laws.proofs.targets.a_wait_finds_its_event_and_then_its_timeout.Goals as goal

pub returns-clause-gone : goal.returns-clause-gone
returns-clause-gone g c = gone_at

pub returns-clause-untimed : goal.returns-clause-untimed
returns-clause-untimed g c = waits_for_no_time

pub returns-clause-unnamed : goal.returns-clause-unnamed
returns-clause-unnamed g c = no_event_at
