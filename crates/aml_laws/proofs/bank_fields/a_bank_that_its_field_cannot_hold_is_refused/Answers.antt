use Rattle.aml_laws.proofs.BanksSelected.{too_large_read, too_large_written, large_read, large_written}
use Rattle.aml_laws.proofs.bank_fields.a_bank_that_its_field_cannot_hold_is_refused.Goals as goal

pub returns-clause-read : goal.returns-clause-read
returns-clause-read g c = λ w steps accesses call n bank held region is plain large field some. too_large_read w steps accesses call n bank held region is plain large field some

pub returns-clause-written : goal.returns-clause-written
returns-clause-written g c = λ w steps accesses call n bank held region is plain large field some source. too_large_written w steps accesses call n bank held region is plain large field some source

pub returns-clause-read_anywhere : goal.returns-clause-read_anywhere
returns-clause-read_anywhere g c = λ s after accesses call n bank held region is there large field some. large_read accesses call n bank held s is after region there large field some

pub returns-clause-written_anywhere : goal.returns-clause-written_anywhere
returns-clause-written_anywhere g c = λ s after accesses call n bank held region is there large field some source. large_written accesses call n bank held s is after region there large field some source
