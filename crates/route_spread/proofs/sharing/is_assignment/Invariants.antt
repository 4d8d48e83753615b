use Rattle.std.proofs.Common.{◌<◌, ℕ, [], get_or}
use Rattle.std.specs.Prelude.{Contains}
use Rattle.route_model.specs.Links.{offers_of}
use Rattle.route_spread.specs.Marks.{at}
use Rattle.route_spread.proofs.sharing.is_assignment.Given as goal

abbrev pub invariant-loop-i : goal.invariant-loop-i
invariant-loop-i l = (k : ℕ) → k < l.i → Contains (get_or (offers_of l.links) k []) (at l.choice k)
