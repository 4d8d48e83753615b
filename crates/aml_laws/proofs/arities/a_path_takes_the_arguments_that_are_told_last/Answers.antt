use Rattle.aml_laws.proofs.CountsTold.{declared_last, named_last, untold}
use Rattle.aml_laws.proofs.arities.a_path_takes_the_arguments_that_are_told_last.Goals as goal

pub returns-clause-declared : goal.returns-clause-declared
returns-clause-declared c = declared_last

pub returns-clause-external : goal.returns-clause-external
returns-clause-external c = named_last

pub returns-clause-unknown : goal.returns-clause-unknown
returns-clause-unknown c = untold
