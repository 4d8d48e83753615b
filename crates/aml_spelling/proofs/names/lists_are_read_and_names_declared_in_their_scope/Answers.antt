use Rattle.aml_spelling.proofs.SegmentsNamed.{read_inside, read_there, at_root, above_scope, in_scope}
use Rattle.aml_spelling.proofs.names.lists_are_read_and_names_declared_in_their_scope.Goals as goal

pub returns : goal.returns
returns c = record { inner = read_inside; other = read_there; root = at_root; above = above_scope; within = in_scope }
