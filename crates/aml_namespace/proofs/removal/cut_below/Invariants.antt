use Rattle.std.proofs.Common.{◌≡◌, true, false, ◌+◌, ◌-◌, ◌*◌}
use Rattle.std.specs.FinMap.{len}
use Rattle.aml_namespace.specs.Namespace.{HasBelow}
use Rattle.aml_namespace.specs.Tree.{child_in, path_to, map_of}
use Rattle.aml_namespace.proofs.Cutting.{Underway}
use Rattle.aml_namespace.proofs.removal.cut_below.Given as goal

abbrev pub invariant-nodes : goal.invariant-nodes
invariant-nodes l = record {
  underway : Underway l.initial.nodes l.nodes (child_in l.index) l.next l.start.number l.current.number;
  kept : l.removed ≡ false → l.nodes ≡ l.initial.nodes;
  removed : l.removed ≡ true → HasBelow (path_to l.initial.nodes l.start.number) (map_of l.initial.nodes);
}

abbrev pub decreases-nodes : goal.decreases-nodes
decreases-nodes l = len l.nodes * (l.next + 1) + (l.next - l.current.number)
