use Rattle.aml_laws.proofs.AddressObjects.{answers, deep, not_allowed, takes_arguments}
use Rattle.aml_laws.proofs.pci_functions.what_is_asked_for_an_address_answers_an_integer.Goals as goal

pub returns-clause-answers : goal.returns-clause-answers
returns-clause-answers g c = answers

pub returns-clause-deep : goal.returns-clause-deep
returns-clause-deep g c = deep

pub returns-clause-setting : goal.returns-clause-setting
returns-clause-setting g c = not_allowed

pub returns-clause-arguments : goal.returns-clause-arguments
returns-clause-arguments g c = takes_arguments
