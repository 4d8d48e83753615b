use Rattle.aml_laws.proofs.FieldNamesUsed.{integer_read, buffer_read, unread}
use Rattle.aml_laws.proofs.field_names.a_name_of_a_field_reads_its_bits.Goals as goal

pub returns-clause-integer : goal.returns-clause-integer
returns-clause-integer g c = integer_read

pub returns-clause-buffer : goal.returns-clause-buffer
returns-clause-buffer g c = buffer_read

pub returns-clause-refused : goal.returns-clause-refused
returns-clause-refused g c = unread
