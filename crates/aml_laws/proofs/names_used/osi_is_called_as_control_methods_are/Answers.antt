use Rattle.aml_laws.proofs.OsiAsked.{osi_too_deep, osi_not_allowed, osi_argument_refused, osi_argument_missing}
use Rattle.aml_laws.proofs.names_used.osi_is_called_as_control_methods_are.Goals as goal

pub returns-clause-too_deep : goal.returns-clause-too_deep
returns-clause-too_deep g c = osi_too_deep

pub returns-clause-setting : goal.returns-clause-setting
returns-clause-setting g c = osi_not_allowed

pub returns-clause-refused : goal.returns-clause-refused
returns-clause-refused g c = osi_argument_refused

pub returns-clause-no_value : goal.returns-clause-no_value
returns-clause-no_value g c = osi_argument_missing
