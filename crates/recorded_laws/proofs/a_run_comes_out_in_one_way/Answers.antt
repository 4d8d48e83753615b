use Rattle.recorded_laws.proofs.Laws.{one_way}
use Rattle.recorded_laws.proofs.a_run_comes_out_in_one_way.Goals as goal

pub returns : goal.returns
returns g c = one_way c.a_problem_has_one_answer.ensures
