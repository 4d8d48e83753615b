use Rattle.aml_spelling.proofs.SegmentsNamed.{segment_named, segment_taken, no_segment}
use Rattle.aml_spelling.proofs.names.a_name_segment_has_four_characters.Goals as goal

pub returns-clause-segment : goal.returns-clause-segment
returns-clause-segment c = segment_named

pub returns-clause-each : goal.returns-clause-each
returns-clause-each c = segment_taken

pub returns-clause-refused : goal.returns-clause-refused
returns-clause-refused c = no_segment
