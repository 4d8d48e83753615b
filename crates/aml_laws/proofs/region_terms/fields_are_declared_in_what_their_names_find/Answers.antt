use Rattle.aml_laws.proofs.RegionsDeclared.{fields_of_region, fields_behind_index}
use Rattle.aml_laws.proofs.region_terms.fields_are_declared_in_what_their_names_find.Goals as goal

pub returns-clause-region : goal.returns-clause-region
returns-clause-region g c = fields_of_region

pub returns-clause-index : goal.returns-clause-index
returns-clause-index g c = fields_behind_index
