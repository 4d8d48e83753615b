use Rattle.aml_laws.proofs.RegionsDeclared.{region_stands}
use Rattle.aml_laws.proofs.region_terms.a_region_is_declared_as_its_term_says.Goals as goal

pub returns : goal.returns
returns g c = region_stands
