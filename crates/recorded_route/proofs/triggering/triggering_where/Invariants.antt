use Rattle.std.proofs.Common.{◌≡◌, drop}
use Rattle.recorded_route.specs.Triggers.{is_source, triggering_where}
use Rattle.recorded_route.proofs.triggering.triggering_where.Given as goal

abbrev pub invariant-loop-line : goal.invariant-loop-line
invariant-loop-line l = triggering_where l.plain (is_source l.source) (drop l.line-index l.lines) ≡ triggering_where l.plain (is_source l.source) l.lines
