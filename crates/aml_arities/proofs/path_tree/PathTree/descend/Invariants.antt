use Rattle.std.proofs.Common.{◌≡◌, ◌++◌, [], take, get_or, Some}
use Rattle.aml_arities.specs.PathTree.{number_of}
use Rattle.aml_arities.proofs.path_tree.PathTree.descend.Given as goal

abbrev pub invariant-loop-segment : goal.invariant-loop-segment
invariant-loop-segment l = number_of (get_or l.self l.start [] ++ take l.segment-index l.segments) l.self ≡ Some l.node
