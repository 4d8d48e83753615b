use Rattle.std.proofs.Common.{◌≡◌, map, take}
use Rattle.aml_arities.specs.Counts.{moved_by}
use Rattle.aml_arities.proofs.arities.moved.Given as goal

abbrev pub invariant-loop-entry : goal.invariant-loop-entry
invariant-loop-entry l = l.list.items ≡ map (moved_by l.nodes) (take l.entry-index l.entries)
