use Rattle.std.proofs.Common.{◌≡◌, drop}
use Rattle.recorded_route.specs.Pins.{took_setting}
use Rattle.recorded_route.proofs.pins.took_setting.Given as goal

abbrev pub invariant-loop-line : goal.invariant-loop-line
invariant-loop-line l = took_setting l.link (drop l.line-index l.lines) ≡ took_setting l.link l.lines
