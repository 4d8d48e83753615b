use Rattle.std.proofs.Common.{◌≡◌, drop}
use Rattle.aml_namespace.specs.Tree.{child_in, down}
use Rattle.aml_namespace.proofs.tree.descend.Given as goal

abbrev pub invariant-loop-segment : goal.invariant-loop-segment
invariant-loop-segment l = down (child_in l.index) l.current.number (drop l.segment-index l.segments) ≡ down (child_in l.index) l.initial.current.number l.segments
