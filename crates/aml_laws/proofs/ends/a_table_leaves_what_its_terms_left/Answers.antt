use Rattle.aml_laws.proofs.TablesEnded.{table_ends, table_without_frame}
use Rattle.aml_laws.proofs.ends.a_table_leaves_what_its_terms_left.Goals as goal

pub returns-clause-ended : goal.returns-clause-ended
returns-clause-ended g c = table_ends

pub returns-clause-full : goal.returns-clause-full
returns-clause-full g c = table_without_frame
