use Rattle.aml_laws.proofs.ValuesLedTo.{leads_nowhere}
use Rattle.aml_laws.proofs.ValuesTold.{size_told, type_told, name_told, nothing_told}
use Rattle.aml_laws.proofs.targets.sizes_and_types_are_told_of_what_values_lead_to.Goals as goal

pub returns-clause-sizes : goal.returns-clause-sizes
returns-clause-sizes g c = size_told

pub returns-clause-types : goal.returns-clause-types
returns-clause-types g c = type_told

pub returns-clause-named_types : goal.returns-clause-named_types
returns-clause-named_types g c = name_told

pub returns-clause-no_value : goal.returns-clause-no_value
returns-clause-no_value g c = nothing_told

pub returns-clause-refused : goal.returns-clause-refused
returns-clause-refused g c = leads_nowhere
