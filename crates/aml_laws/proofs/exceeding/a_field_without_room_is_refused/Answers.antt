use Rattle.aml_laws.proofs.FieldNamesUsed.{no_room_read}
use Rattle.aml_laws.proofs.FieldsReached.{referred_no_room}
use Rattle.aml_laws.proofs.exceeding.a_field_without_room_is_refused.Goals as goal

pub returns-clause-named : goal.returns-clause-named
returns-clause-named g c = no_room_read

pub returns-clause-referred : goal.returns-clause-referred
returns-clause-referred g c = referred_no_room
