use Rattle.std.proofs.Common.{◌≡◌, drop}
use Rattle.recorded_route.specs.Pins.{is_link_set}
use Rattle.recorded_route.proofs.pins.is_link_set.Given as goal

abbrev pub invariant-loop-line : goal.invariant-loop-line
invariant-loop-line l = is_link_set l.interrupt l.link l.taken (drop l.line-index l.lines) ≡ is_link_set l.interrupt l.link l.taken l.lines
