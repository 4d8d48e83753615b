use Rattle.ar_tables.proofs.Conditions.{meet}
use Rattle.ar_tables.proofs.laws.tables_that_are_found_meet_the_standard.Goals as goal

pub returns : goal.returns
returns c = meet
