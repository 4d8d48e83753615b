use Rattle.aml_laws.proofs.PciRegionsLocated.{there, refused, other}
use Rattle.aml_laws.proofs.pci_functions.a_region_of_pci_config_is_located_by_its_own_scope.Goals as goal

pub returns-clause-there : goal.returns-clause-there
returns-clause-there g c = there

pub returns-clause-refused : goal.returns-clause-refused
returns-clause-refused g c = refused

pub returns-clause-other : goal.returns-clause-other
returns-clause-other g c = other
