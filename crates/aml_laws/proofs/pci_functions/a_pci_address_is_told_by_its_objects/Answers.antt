use Rattle.aml_laws.proofs.BusesFound.{address_told}
use Rattle.aml_laws.proofs.pci_functions.a_pci_address_is_told_by_its_objects.Goals as goal

pub returns : goal.returns
returns g c = λ accesses seg small call w steps bus end dev func scope path addresses after belongs group first bridges found b d f tells.
    address_told accesses seg small call w steps bus end dev func scope path addresses after belongs group first bridges found b d f tells
