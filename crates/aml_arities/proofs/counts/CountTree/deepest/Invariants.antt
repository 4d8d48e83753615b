use Rattle.std.proofs.Common.{◌≡◌, take, Some}
use Rattle.aml_arities.specs.Arities.{greatest}
use Rattle.aml_arities.specs.PathTree.{number_of}
use Rattle.aml_arities.specs.Counts.{is_shown_below}
use Rattle.aml_arities.proofs.counts.CountTree.deepest.Given as goal

abbrev pub invariant-loop-step : goal.invariant-loop-step
invariant-loop-step l = record {
  number : number_of (take l.step-index l.steps) l.self.paths ≡ Some l.node;
  depth : l.depth ≡ l.step-index;
  deepest : l.deepest ≡ greatest (is_shown_below l.any l.self l.steps l.segments) l.step-index;
}
