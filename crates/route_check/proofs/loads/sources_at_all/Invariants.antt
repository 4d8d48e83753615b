use Rattle.std.proofs.Common.{◌≡◌, ◌-◌, ◌^◌, take, min}
use Rattle.std.specs.Prelude.{sum_by}
use Rattle.route_model.specs.Routing.{wired_to}
use Rattle.route_check.specs.Valid.{effective_counts}
use Rattle.route_check.proofs.loads.sources_at_all.Given as goal

abbrev pub invariant-loop-n : goal.invariant-loop-n
invariant-loop-n l = l.total ≡ min (2 ^ 128 - 1) (sum_by (wired_to (effective_counts l.claim)) (take l.n-index l.interrupts))
