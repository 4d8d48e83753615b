use Rattle.aml_laws.proofs.GoneFields.{of_region, of_index, of_data, of_bank, of_region_of_bank, located_nowhere}
use Rattle.aml_laws.proofs.gone_fields.a_field_of_what_is_gone_is_dead.Goals as goal

pub returns-clause-region : goal.returns-clause-region
returns-clause-region g c = of_region

pub returns-clause-index : goal.returns-clause-index
returns-clause-index g c = of_index

pub returns-clause-data : goal.returns-clause-data
returns-clause-data g c = of_data

pub returns-clause-bank : goal.returns-clause-bank
returns-clause-bank g c = of_bank

pub returns-clause-region_of_bank : goal.returns-clause-region_of_bank
returns-clause-region_of_bank g c = of_region_of_bank

pub returns-clause-nowhere : goal.returns-clause-nowhere
returns-clause-nowhere g c = λ w n gone accesses call steps. located_nowhere w n steps gone accesses call
