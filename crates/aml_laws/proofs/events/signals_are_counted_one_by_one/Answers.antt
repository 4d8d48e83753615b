use Rattle.aml_laws.proofs.EventsCounted.{wait_takes, wait_finds_none}
use Rattle.aml_laws.proofs.SignalsTaken.{wait_refused}
use Rattle.aml_laws.proofs.events.signals_are_counted_one_by_one.Goals as goal

pub returns-clause-taken : goal.returns-clause-taken
returns-clause-taken g c = λ w path number count timeout time standing at some reads. wait_takes w path number standing count timeout time at some reads

pub returns-clause-none : goal.returns-clause-none
returns-clause-none g c = λ w path number timeout time standing at reads. wait_finds_none w path number standing timeout time at reads

pub returns-clause-left : goal.returns-clause-left
returns-clause-left g c = λ w path number count timeout e standing at reads. wait_refused w path number count standing at timeout e reads
