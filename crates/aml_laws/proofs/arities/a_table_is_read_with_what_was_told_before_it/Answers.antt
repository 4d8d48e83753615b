use Rattle.aml_laws.proofs.TablesRead.{table_read, table_unread, table_not_loaded}
use Rattle.aml_laws.proofs.arities.a_table_is_read_with_what_was_told_before_it.Goals as goal

pub returns-clause-read : goal.returns-clause-read
returns-clause-read g c = table_read

pub returns-clause-unread : goal.returns-clause-unread
returns-clause-unread g c = table_unread

pub returns-clause-not_loaded : goal.returns-clause-not_loaded
returns-clause-not_loaded g c = table_not_loaded
