use Rattle.aml_laws.proofs.FramesAtOnce.{term_at_once, list_at_once, call_at_once}
use Rattle.aml_laws.proofs.frames.at_most_33_frames_stand_at_once.Goals as goal

pub returns-clause-terms : goal.returns-clause-terms
returns-clause-terms g c = term_at_once

pub returns-clause-lists : goal.returns-clause-lists
returns-clause-lists g c = list_at_once

pub returns-clause-calls : goal.returns-clause-calls
returns-clause-calls g c = call_at_once
