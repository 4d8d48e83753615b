use Rattle.machine_laws.proofs.NamesWalked.{walked_stands, child_stands}
use Rattle.machine_laws.proofs.walks.each_name_that_stands_is_walked.Goals as goal

pub returns-clause-all : goal.returns-clause-all
returns-clause-all c = walked_stands

pub returns-clause-below : goal.returns-clause-below
returns-clause-below c = child_stands
