use Rattle.aml_laws.proofs.PartsStored.{over_reference, over_nothing}
use Rattle.aml_laws.proofs.stored_parts.what_holds_no_data_takes_no_conversion.Goals as goal

pub returns-clause-over_reference : goal.returns-clause-over_reference
returns-clause-over_reference g c = over_reference

pub returns-clause-over_nothing : goal.returns-clause-over_nothing
returns-clause-over_nothing g c = over_nothing
