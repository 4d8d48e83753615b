use Rattle.machine_laws.proofs.CallsPassedOver.{call_noted, call_refused, call_refused_in_core, initializing_ends}
use Rattle.machine_laws.proofs.initializing.calls_of_initializing_are_passed_over.Goals as goal

pub returns-clause-noted : goal.returns-clause-noted
returns-clause-noted g c = call_noted

pub returns-clause-refused : goal.returns-clause-refused
returns-clause-refused g c = call_refused

pub returns-clause-core : goal.returns-clause-core
returns-clause-core g c = call_refused_in_core

pub returns-clause-initializing : goal.returns-clause-initializing
returns-clause-initializing g c = initializing_ends
