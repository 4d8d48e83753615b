use Rattle.std.proofs.Common.{◌≡◌, ◌++◌, map}
use Rattle.aml_namespace.specs.Tree.{segments_below}
use Rattle.aml_namespace.proofs.index.Index.children_of.Given as goal

abbrev pub invariant-loop-place : goal.invariant-loop-place
invariant-loop-place l = l.list.items ++ map (λ e. e.0.1) l.place-iterator ≡ segments_below l.parent l.self
