use Rattle.aml_laws.proofs.CopiesBeyondLimits.{copy_has_no_room}
use Rattle.aml_laws.proofs.DataBeyondLimits.{data_has_no_room}
use Rattle.aml_laws.proofs.exceeding.what_has_no_room_is_refused.Goals as goal

pub returns-clause-copied : goal.returns-clause-copied
returns-clause-copied g c = copy_has_no_room

pub returns-clause-handed_in : goal.returns-clause-handed_in
returns-clause-handed_in g c = data_has_no_room
