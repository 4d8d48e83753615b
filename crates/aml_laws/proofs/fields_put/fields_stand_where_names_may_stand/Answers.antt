use Rattle.aml_laws.proofs.FieldsPut.{region_fields_put, index_fields_put, bank_fields_put}
use Rattle.aml_laws.proofs.fields_put.fields_stand_where_names_may_stand.Goals as goal

pub returns-clause-region : goal.returns-clause-region
returns-clause-region g c = region_fields_put

pub returns-clause-index : goal.returns-clause-index
returns-clause-index g c = index_fields_put

pub returns-clause-bank : goal.returns-clause-bank
returns-clause-bank g c = bank_fields_put
