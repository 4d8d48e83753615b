use Rattle.recorded_laws.proofs.Laws.{wanted_next}
use Rattle.recorded_laws.proofs.the_wanted_access_is_the_next_one.Goals as goal

pub returns : goal.returns
returns g c = wanted_next c.a_problem_has_one_answer.ensures
