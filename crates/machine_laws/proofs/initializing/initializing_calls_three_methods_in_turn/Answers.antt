use Rattle.machine_laws.proofs.InitialCalls.{initializing_in_turn, spent_is_refused}
use Rattle.machine_laws.proofs.initializing.initializing_calls_three_methods_in_turn.Goals as goal

pub returns-clause-calls : goal.returns-clause-calls
returns-clause-calls g c = initializing_in_turn

pub returns-clause-spent : goal.returns-clause-spent
returns-clause-spent g c = spent_is_refused
