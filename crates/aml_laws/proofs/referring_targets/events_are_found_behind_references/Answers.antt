use Rattle.aml_laws.proofs.EventsBehind.{signals_behind, resets_behind, waits_behind, no_events_behind, unfound_events}
use Rattle.aml_laws.proofs.referring_targets.events_are_found_behind_references.Goals as goal

pub returns-clause-signaled : goal.returns-clause-signaled
returns-clause-signaled g c = signals_behind

pub returns-clause-reset : goal.returns-clause-reset
returns-clause-reset g c = resets_behind

pub returns-clause-waited : goal.returns-clause-waited
returns-clause-waited g c = waits_behind

pub returns-clause-no_event : goal.returns-clause-no_event
returns-clause-no_event g c = no_events_behind

pub returns-clause-refused : goal.returns-clause-refused
returns-clause-refused g c = unfound_events
