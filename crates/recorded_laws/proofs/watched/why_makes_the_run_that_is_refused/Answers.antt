use Rattle.recorded_laws.proofs.SameRun.{same_run, same_evaluation}
use Rattle.recorded_laws.proofs.watched.why_makes_the_run_that_is_refused.Goals as goal

pub returns-clause-route : goal.returns-clause-route
returns-clause-route c = λ q avoid flags text said e is question h. same_run q avoid flags e text said is question h

pub returns-clause-eval : goal.returns-clause-eval
returns-clause-eval c = λ q path arguments text said e is question h. same_evaluation q path arguments e text said is question h
