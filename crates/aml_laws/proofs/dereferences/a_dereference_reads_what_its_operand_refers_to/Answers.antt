use Rattle.aml_laws.proofs.ReferencesRead.{held_is_given, name_is_given, empty_is_given, dead_is_given, no_reference_is_read, value_is_given, refusal_is_given, short_field_is_given, long_field_is_given, unread_field_is_given}
use Rattle.aml_laws.proofs.dereferences.a_dereference_reads_what_its_operand_refers_to.Goals as goal

pub returns-clause-held : goal.returns-clause-held
returns-clause-held g c = held_is_given

pub returns-clause-no_value : goal.returns-clause-no_value
returns-clause-no_value g c = name_is_given

pub returns-clause-empty : goal.returns-clause-empty
returns-clause-empty g c = empty_is_given

pub returns-clause-dead : goal.returns-clause-dead
returns-clause-dead g c = dead_is_given

pub returns-clause-no_reference : goal.returns-clause-no_reference
returns-clause-no_reference g c = no_reference_is_read

pub returns-clause-value : goal.returns-clause-value
returns-clause-value g c = value_is_given

pub returns-clause-refused : goal.returns-clause-refused
returns-clause-refused g c = refusal_is_given

pub returns-clause-short_field : goal.returns-clause-short_field
returns-clause-short_field g c = short_field_is_given

pub returns-clause-long_field : goal.returns-clause-long_field
returns-clause-long_field g c = long_field_is_given

pub returns-clause-unread_field : goal.returns-clause-unread_field
returns-clause-unread_field g c = unread_field_is_given
