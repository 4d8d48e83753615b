use Rattle.aml_laws.proofs.FieldsLedTo.{unit_told, buffer_field_told, no_size_told, short_field_told, long_field_told, unread_field_told}
use Rattle.aml_laws.proofs.targets.sizes_and_types_are_told_of_fields.Goals as goal

pub returns-clause-units : goal.returns-clause-units
returns-clause-units g c = unit_told

pub returns-clause-buffer_fields : goal.returns-clause-buffer_fields
returns-clause-buffer_fields g c = buffer_field_told

pub returns-clause-without_size : goal.returns-clause-without_size
returns-clause-without_size g c = no_size_told

pub returns-clause-short_fields : goal.returns-clause-short_fields
returns-clause-short_fields g c = short_field_told

pub returns-clause-long_fields : goal.returns-clause-long_fields
returns-clause-long_fields g c = long_field_told

pub returns-clause-unread : goal.returns-clause-unread
returns-clause-unread g c = unread_field_told
