use Rattle.std.proofs.Common.{◌≡◌, take, Some}
use Rattle.aml_namespace.specs.Namespace.{numbered}
use Rattle.aml_namespace.specs.Search.{Found}
use Rattle.aml_world.specs.fields.Bridges.{bridges_over}
use Rattle.aml_world.proofs.fields.bridges.bridges_to.Given as goal

abbrev pub invariant-loop-step : goal.invariant-loop-step
invariant-loop-step l = record {
  stands : (f : Found) × (numbered l.current.number l.names.map ≡ Some f) × (f.0 ≡ take l.step-index l.steps);
  depth : l.depth ≡ l.step-index;
  bridges : l.bridges.items ≡ bridges_over l.names.map l.steps l.step-index;
}
