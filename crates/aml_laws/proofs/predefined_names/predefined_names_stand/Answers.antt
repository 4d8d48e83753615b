use Rattle.aml_laws.proofs.NamesPredefined.{all_predefined}
use Rattle.aml_laws.proofs.predefined_names.predefined_names_stand.Goals as goal

pub returns : goal.returns
returns g c = all_predefined
