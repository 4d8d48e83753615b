use Rattle.aml_laws.proofs.BeyondLimits.{no_room_for_string, no_room_for_buffer, no_room_for_package}
use Rattle.aml_laws.proofs.exceeding.no_object_is_made_behind_the_last.Goals as goal

pub returns-clause-strings : goal.returns-clause-strings
returns-clause-strings c = no_room_for_string

pub returns-clause-buffers : goal.returns-clause-buffers
returns-clause-buffers c = no_room_for_buffer

pub returns-clause-packages : goal.returns-clause-packages
returns-clause-packages c = no_room_for_package
