use Rattle.aml_laws.proofs.FieldsReached.{referred_field, referred_long_field, referred_unread}
use Rattle.aml_laws.proofs.field_names.a_field_is_read_through_a_reference.Goals as goal

pub returns-clause-integer : goal.returns-clause-integer
returns-clause-integer g c = referred_field

pub returns-clause-buffer : goal.returns-clause-buffer
returns-clause-buffer g c = referred_long_field

pub returns-clause-refused : goal.returns-clause-refused
returns-clause-refused g c = referred_unread
