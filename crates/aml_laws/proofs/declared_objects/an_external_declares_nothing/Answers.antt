use Rattle.aml_laws.proofs.NamesDeclared.{external_passes}
use Rattle.aml_laws.proofs.declared_objects.an_external_declares_nothing.Goals as goal

pub returns : goal.returns
returns g c = external_passes
