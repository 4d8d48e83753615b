use Rattle.std.proofs.Common.{◌≡◌, ◌++◌, take, map}
use Rattle.std.specs.Prelude.{option_to_list}
use Rattle.route_model.specs.Routing.{greatest, wired_to}
use Rattle.route_check.specs.Valid.{keys_of, effective_counts}
use Rattle.route_check.proofs.loads.busiest_wired.Given as goal

abbrev pub invariant-loop-w : goal.invariant-loop-w
invariant-loop-w l = l.greatest ≡ greatest (map (wired_to (effective_counts l.claim)) (option_to_list l.claim.sci ++ take l.w-index (keys_of l.claim.wired)))
