use Rattle.std.proofs.Common.{◌≡◌, false, take}
use Rattle.std.specs.Prelude.{Contains, All}
use Rattle.route_model.specs.Avoided.{is_avoided}
use Rattle.route_check.proofs.bound.all_inside.Given as goal

abbrev pub invariant-loop-n : goal.invariant-loop-n
invariant-loop-n l = All (λ n. is_avoided l.avoided n ≡ false → Contains l.interrupts n) (take l.n-index l.offers)
