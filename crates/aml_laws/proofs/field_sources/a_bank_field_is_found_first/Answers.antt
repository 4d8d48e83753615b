use Rattle.aml_laws.proofs.FieldSources.{bank_gone_read, bank_gone_written}
use Rattle.aml_laws.proofs.field_sources.a_bank_field_is_found_first.Goals as goal

pub returns-clause-read : goal.returns-clause-read
returns-clause-read g c = bank_gone_read

pub returns-clause-written : goal.returns-clause-written
returns-clause-written g c = bank_gone_written
