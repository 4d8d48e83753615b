use Rattle.std.proofs.Common.{◌≡◌, List, length, take}
use Rattle.aml_path.specs.declared.segment.Seg.{Seg}
use Rattle.aml_arities.specs.PathTree.{Leads}
use Rattle.aml_arities.specs.Counts.{BothCounts}
use Rattle.aml_arities.proofs.counts.put_under.Given as goal

abbrev pub invariant-loop-node : goal.invariant-loop-node
invariant-loop-node l = record {
  long : length l.counts.items ≡ length l.fn.counts.items;
  both : (ps qs : List (List Seg)) → Leads ps qs l.nodes → BothCounts (record { paths = qs; counts = take l.node l.earlier }) (record { paths = ps; counts = l.fn.counts.items }) (record { paths = ps; counts = l.counts.items });
}
