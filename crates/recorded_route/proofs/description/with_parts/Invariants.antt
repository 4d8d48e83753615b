use Rattle.std.proofs.Common.{◌≡◌, drop}
use Rattle.recorded_route.specs.Runs.{with_parts}
use Rattle.recorded_route.proofs.description.with_parts.Given as goal

abbrev pub invariant-loop-part : goal.invariant-loop-part
invariant-loop-part l = with_parts l.fn.image l.fn.parts ≡ with_parts l.image (drop l.part-index l.fn.parts)
