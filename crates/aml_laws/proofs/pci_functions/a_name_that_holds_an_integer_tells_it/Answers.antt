use Rattle.aml_meaning.specs.Meaning.{meaning}
use Rattle.aml_laws.proofs.NamedIntegers.{integer_told}
use Rattle.aml_laws.proofs.pci_functions.a_name_that_holds_an_integer_tells_it.Goals as goal

pub returns : goal.returns
returns g c = λ accesses path entry n is. integer_told accesses (meaning accesses) path entry n is
