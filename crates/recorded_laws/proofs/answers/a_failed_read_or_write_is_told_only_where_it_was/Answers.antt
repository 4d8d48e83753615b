use Rattle.recorded_laws.proofs.StreamsTold.{run_tells_truly}
use Rattle.recorded_laws.proofs.answers.a_failed_read_or_write_is_told_only_where_it_was.Goals as goal

pub returns-clause-run : goal.returns-clause-run
returns-clause-run c = run_tells_truly
