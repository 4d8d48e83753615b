use Rattle.std.proofs.Common.{◌≡◌, take, Some}
use Rattle.aml_arities.specs.PathTree.{number_of, Kept}
use Rattle.aml_arities.proofs.path_tree.PathTree.make.Given as goal

abbrev pub invariant-loop-segment : goal.invariant-loop-segment
invariant-loop-segment l = record {
  kept : Kept l.fn.self l.self;
  node : number_of (take l.segment-index l.segments) l.self ≡ Some l.node;
}
