use Rattle.aml_laws.proofs.BusesFound.{buses_found}
use Rattle.aml_laws.proofs.pci_functions.each_bridge_is_asked_on_the_bus_that_the_one_above_told.Goals as goal

pub returns : goal.returns
returns g c = λ accesses seg small call w steps bus end bridges addresses after tell found. buses_found accesses seg small call w steps bus end bridges addresses after tell found
