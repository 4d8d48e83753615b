use Rattle.std.proofs.Common.{◌≡◌, drop}
use Rattle.recorded_route.specs.Pins.{bus_of}
use Rattle.recorded_route.proofs.pins.bus_of.Given as goal

abbrev pub invariant-loop-line : goal.invariant-loop-line
invariant-loop-line l = bus_of l.device (drop l.line-index l.lines) ≡ bus_of l.device l.lines
