use Rattle.std.proofs.Common.{take}
use Rattle.std.specs.Prelude.{Contains, All}
use Rattle.route_model.specs.Avoided.{without}
use Rattle.route_check.specs.Valid.{given_to}
use Rattle.route_check.proofs.offered.are_offered.Given as goal

abbrev pub invariant-loop-i : goal.invariant-loop-i
invariant-loop-i l = All (λ x. Contains (without l.avoided x.offers) (given_to l.gives x.path)) (take l.i l.links)
