use Rattle.std.proofs.Common.{◌≡◌, ◌<◌, ℕ, get_or, Some}
use Rattle.route_model.specs.Placement.{place_of}
use Rattle.route_solve.specs.Named.{name_of}
use Rattle.route_solve.proofs.assign.write_out.Given as goal

abbrev pub invariant-loop-k : goal.invariant-loop-k
invariant-loop-k l = (i : ℕ) → i < l.k → name_of l.numbers (place_of l.choice i) ≡ Some (get_or l.given i 0)
