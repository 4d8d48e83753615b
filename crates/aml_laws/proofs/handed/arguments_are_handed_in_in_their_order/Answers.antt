use Rattle.aml_laws.proofs.ArgumentsHanded.{answered_with, other_number_answered}
use Rattle.aml_laws.proofs.handed.arguments_are_handed_in_in_their_order.Goals as goal

pub returns-clause-answered : goal.returns-clause-answered
returns-clause-answered g c = answered_with

pub returns-clause-other_number : goal.returns-clause-other_number
returns-clause-other_number g c = other_number_answered
