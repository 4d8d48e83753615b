use Rattle.aml_laws.proofs.FramesOpened.{frame_opened}
use Rattle.aml_laws.proofs.calls.a_call_begins_with_its_arguments.Goals as goal

pub returns : goal.returns
returns g c = frame_opened
