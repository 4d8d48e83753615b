use Rattle.std.proofs.Common.{◌≡◌, ◌≤◌, take, Some}
use Rattle.std.specs.Prelude.{IfSome}
use Rattle.aml_namespace.specs.Namespace.{numbered}
use Rattle.aml_namespace.specs.Search.{Found}
use Rattle.aml_world.specs.fields.PciFunctions.{nearest_from}
use Rattle.aml_world.proofs.NearestFunctions.{shown}
use Rattle.aml_world.proofs.fields.pci_functions.nearest_depth.Given as goal

abbrev pub invariant-loop-step : goal.invariant-loop-step
invariant-loop-step l = record {
  stands : (f : Found) × (numbered l.current.number l.names.map ≡ Some f) × (f.0 ≡ take l.step-index l.steps);
  depth : l.depth ≡ l.step-index;
  near : shown l.names.map l.sought l.steps l.nearest ≡ nearest_from l.names.map l.sought l.steps l.step-index;
  within : IfSome l.nearest (λ n. n ≤ l.step-index);
}
