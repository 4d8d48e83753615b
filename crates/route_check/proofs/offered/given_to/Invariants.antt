use Rattle.std.proofs.Common.{◌≡◌, drop}
use Rattle.route_check.specs.Valid.{given_to}
use Rattle.route_check.proofs.offered.given_to.Given as goal

abbrev pub invariant-loop-give : goal.invariant-loop-give
invariant-loop-give l = given_to (drop l.give-index l.gives) l.path ≡ given_to l.gives l.path
