use Rattle.aml_laws.proofs.AddressesAnswered.{address_answered}
use Rattle.aml_laws.proofs.PciAddresses.{objects_asked, function_missing}
use Rattle.aml_laws.proofs.pci_functions.the_objects_of_a_pci_address_are_asked_in_turn.Goals as goal

pub returns-clause-in_turn : goal.returns-clause-in_turn
returns-clause-in_turn g c = objects_asked

pub returns-clause-no_function : goal.returns-clause-no_function
returns-clause-no_function g c = function_missing

pub returns-clause-told : goal.returns-clause-told
returns-clause-told g c = address_answered
