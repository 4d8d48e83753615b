use Rattle.aml_laws.proofs.Counting.{increments, decrements}
use Rattle.aml_laws.proofs.operators.a_count_changes_what_its_target_holds_by_one.Goals as goal

pub returns-clause-up : goal.returns-clause-up
returns-clause-up g c = increments

pub returns-clause-down : goal.returns-clause-down
returns-clause-down g c = decrements
