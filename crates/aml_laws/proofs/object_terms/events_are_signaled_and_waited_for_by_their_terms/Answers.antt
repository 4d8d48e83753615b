use Rattle.aml_laws.proofs.ObjectTermsDone.{signals, resets, waits, no_events}
use Rattle.aml_laws.proofs.object_terms.events_are_signaled_and_waited_for_by_their_terms.Goals as goal

pub returns-clause-signaled : goal.returns-clause-signaled
returns-clause-signaled g c = λ accesses scope depth p at w steps core. signals accesses scope depth p w steps core at

pub returns-clause-reset : goal.returns-clause-reset
returns-clause-reset g c = λ accesses scope depth p at w steps core. resets accesses scope depth p w steps core at

pub returns-clause-waited : goal.returns-clause-waited
returns-clause-waited g c = λ accesses scope depth p at w steps core. waits accesses scope depth p w steps core at

pub returns-clause-unnamed : goal.returns-clause-unnamed
returns-clause-unnamed g c = no_events
