use Rattle.std.proofs.Common.{◌≡◌, ◌<◌, ◌/◌, ℕ}
use Rattle.route_solve.specs.Rows.{bit_of, HasBit}
use Rattle.route_solve.proofs.set.offers_at.Given as goal

abbrev pub invariant-loop-w : goal.invariant-loop-w
invariant-loop-w l = (k : ℕ) → k / 64 < l.w → HasBit l.row k → bit_of l.rows l.i k ≡ 1 → ⊥
