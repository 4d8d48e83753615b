use Rattle.aml_laws.proofs.AddressObjects.{tells_none}
use Rattle.aml_laws.proofs.AddressesRefused.{segment_group_tells_none, base_bus_tells_none, function_tells_none}
use Rattle.aml_laws.proofs.pci_functions.what_holds_no_value_tells_no_address.Goals as goal

pub returns-clause-object : goal.returns-clause-object
returns-clause-object g c = tells_none

pub returns-clause-segment_group : goal.returns-clause-segment_group
returns-clause-segment_group g c = segment_group_tells_none

pub returns-clause-base_bus : goal.returns-clause-base_bus
returns-clause-base_bus g c = base_bus_tells_none

pub returns-clause-function : goal.returns-clause-function
returns-clause-function g c = function_tells_none
