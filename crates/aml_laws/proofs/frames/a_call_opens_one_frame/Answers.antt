use Rattle.aml_laws.proofs.FramesLimited.{begins_within, one_frame_more}
use Rattle.aml_laws.proofs.frames.a_call_opens_one_frame.Goals as goal

pub returns-clause-within : goal.returns-clause-within
returns-clause-within g c = begins_within

pub returns-clause-more : goal.returns-clause-more
returns-clause-more g c = one_frame_more
