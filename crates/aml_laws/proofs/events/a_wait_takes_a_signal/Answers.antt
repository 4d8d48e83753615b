use Rattle.aml_laws.proofs.SignalsTaken.{signal_taken_back, signal_left}
use Rattle.aml_laws.proofs.events.a_wait_takes_a_signal.Goals as goal

pub returns-clause-taken : goal.returns-clause-taken
returns-clause-taken g c = λ w after path number count time timeout standing at e reads. signal_taken_back w after path number count standing at timeout time e reads

pub returns-clause-refused : goal.returns-clause-refused
returns-clause-refused g c = λ w after path number count timeout x standing at e reads. signal_left w after path number count standing at timeout x e reads
