use Rattle.aml_laws.proofs.PciAddresses.{bridge_told}
use Rattle.aml_laws.proofs.pci_functions.what_is_no_bridge_tells_no_bus.Goals as goal

pub returns : goal.returns
returns g c = bridge_told
