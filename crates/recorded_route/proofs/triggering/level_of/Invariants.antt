use Rattle.std.proofs.Common.{◌≡◌, drop}
use Rattle.recorded_route.specs.Triggers.{level_of}
use Rattle.recorded_route.proofs.triggering.level_of.Given as goal

abbrev pub invariant-loop-line : goal.invariant-loop-line
invariant-loop-line l = level_of l.link (drop l.line-index l.lines) ≡ level_of l.link l.lines
