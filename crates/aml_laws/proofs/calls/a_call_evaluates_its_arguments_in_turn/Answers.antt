use Rattle.aml_laws.proofs.ArgumentsInTurn.{called_with, argument_refused, argument_missing, other_number_refused, no_method_refused}
use Rattle.aml_laws.proofs.calls.a_call_evaluates_its_arguments_in_turn.Goals as goal

pub returns-clause-called : goal.returns-clause-called
returns-clause-called g c = called_with

pub returns-clause-refused : goal.returns-clause-refused
returns-clause-refused g c = argument_refused

pub returns-clause-no_value : goal.returns-clause-no_value
returns-clause-no_value g c = argument_missing

pub returns-clause-other_number : goal.returns-clause-other_number
returns-clause-other_number g c = other_number_refused

pub returns-clause-no_method : goal.returns-clause-no_method
returns-clause-no_method g c = no_method_refused
