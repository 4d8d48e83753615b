use Rattle.std.proofs.Common.{◌≡◌, take, Some}
use Rattle.aml_namespace.specs.Namespace.{numbered}
use Rattle.aml_namespace.specs.Search.{Found}
use Rattle.aml_namespace.proofs.NearestScopes.{shown, wanted}
use Rattle.aml_namespace.proofs.names.Names.nearest.Given as goal

abbrev pub invariant-loop-step : goal.invariant-loop-step
invariant-loop-step l = record {
  stands : (g : Found) × (numbered l.current.number l.self.map ≡ Some g) × (g.0 ≡ take l.step-index l.steps);
  depth : l.depth ≡ l.step-index;
  near : shown l.self.map l.steps l.segments l.nearest ≡ wanted l.self.map l.steps l.segments l.step-index;
}
