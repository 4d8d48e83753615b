use Rattle.aml_laws.proofs.ConstantsGiven.{zero_stands, one_stands, ones_stands, revision_stands, number_stands}
use Rattle.aml_laws.proofs.constants.constants_stand_for_their_numbers.Goals as goal

pub returns-clause-none : goal.returns-clause-none
returns-clause-none g c = zero_stands

pub returns-clause-one : goal.returns-clause-one
returns-clause-one g c = one_stands

pub returns-clause-all : goal.returns-clause-all
returns-clause-all g c = ones_stands

pub returns-clause-revision : goal.returns-clause-revision
returns-clause-revision g c = revision_stands

pub returns-clause-numbers : goal.returns-clause-numbers
returns-clause-numbers g c = number_stands
