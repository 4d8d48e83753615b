use Rattle.aml_laws.proofs.CallsEnded.{call_is_left}
use Rattle.aml_laws.proofs.ends.the_end_of_a_call_takes_its_frame_and_names_away.Goals as goal

pub returns : goal.returns
returns g c = call_is_left
