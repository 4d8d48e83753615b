use Rattle.std.proofs.Common.{take}
use Rattle.std.specs.Prelude.{Contains, All}
use Rattle.route_model.specs.Avoided.{without}
use Rattle.route_check.proofs.bound.are_inside.Given as goal

abbrev pub invariant-loop-link : goal.invariant-loop-link
invariant-loop-link l = All (λ x. Contains l.set.links.now x.path → All (Contains l.set.interrupts.now) (without l.set.avoided x.offers)) (take l.link-index l.links)
