use Rattle.std.proofs.Common.{◌≡◌, take}
use Rattle.route_model.specs.Links.{paths_of}
use Rattle.route_check.specs.Valid.{keys_of}
use Rattle.route_check.proofs.offered.are_in_turn.Given as goal

abbrev pub invariant-loop-i : goal.invariant-loop-i
invariant-loop-i l = paths_of (take l.i l.links) ≡ keys_of (take l.i l.gives)
