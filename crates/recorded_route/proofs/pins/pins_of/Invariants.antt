use Rattle.std.proofs.Common.{◌≡◌, ◌++◌, drop}
use Rattle.std.specs.List.{filter_map}
use Rattle.recorded_route.specs.Pins.{pin_of}
use Rattle.recorded_route.proofs.pins.pins_of.Given as goal

abbrev pub invariant-loop-line : goal.invariant-loop-line
invariant-loop-line l = l.pins.items ++ filter_map (pin_of l.report) (drop l.line-index l.report.pins) ≡ filter_map (pin_of l.report) l.report.pins
