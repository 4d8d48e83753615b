use Rattle.std.proofs.Common.{◌<◌, ◌+◌, ℕ, get_or, map}
use Rattle.route_solve.proofs.conditions.wired_ascend.Given as goal

abbrev pub invariant-loop-i : goal.invariant-loop-i
invariant-loop-i l = (k : ℕ) → k + 1 < l.i → get_or (map (λ x. x.0) l.wired) k 0 < get_or (map (λ x. x.0) l.wired) (k + 1) 0
