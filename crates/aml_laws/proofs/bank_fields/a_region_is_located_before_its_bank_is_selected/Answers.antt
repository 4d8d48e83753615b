use Rattle.aml_laws.proofs.BanksSelected.{nowhere_read, nowhere_written}
use Rattle.aml_laws.proofs.bank_fields.a_region_is_located_before_its_bank_is_selected.Goals as goal

pub returns-clause-read : goal.returns-clause-read
returns-clause-read g c = λ s after accesses call n bank held e is nowhere field. nowhere_read accesses call n bank held s is after e nowhere field

pub returns-clause-written : goal.returns-clause-written
returns-clause-written g c = λ s after accesses call n bank held e is nowhere field source. nowhere_written accesses call n bank held s is after e nowhere field source
