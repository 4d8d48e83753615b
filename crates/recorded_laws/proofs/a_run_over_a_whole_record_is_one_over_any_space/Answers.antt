use Rattle.recorded_laws.proofs.Laws.{whole_record}
use Rattle.recorded_laws.proofs.a_run_over_a_whole_record_is_one_over_any_space.Goals as goal

pub returns : goal.returns
returns g c = whole_record
