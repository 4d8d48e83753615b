use Rattle.aml_laws.proofs.ReferencesToSlots.{frame_index_finds, no_frame_index}
use Rattle.aml_laws.proofs.frames.a_frame_that_stands_is_found_by_its_number.Goals as goal

pub returns-clause-stands : goal.returns-clause-stands
returns-clause-stands g c = λ w k f rise at. frame_index_finds w.started w.frames k f rise at

pub returns-clause-ended : goal.returns-clause-ended
returns-clause-ended g c = λ w n other. no_frame_index n w.frames other
