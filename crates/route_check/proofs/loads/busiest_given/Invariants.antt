use Rattle.std.proofs.Common.{◌≡◌, take, map}
use Rattle.route_model.specs.Routing.{greatest, load}
use Rattle.route_check.specs.Valid.{choice_of, effective_counts}
use Rattle.route_check.proofs.loads.busiest_given.Given as goal

abbrev pub invariant-loop-i : goal.invariant-loop-i
invariant-loop-i l =
    let a = choice_of l.claim.links l.claim.gives in
    l.greatest ≡ greatest (map (load (effective_counts l.claim) a) (take l.i a))
