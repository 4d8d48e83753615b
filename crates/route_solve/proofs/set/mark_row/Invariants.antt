use Rattle.std.proofs.Common.{◌≡◌, ◌<◌, ℕ, true}
use Rattle.route_model.specs.Placement.{is_reached}
use Rattle.route_solve.specs.Rows.{bit_of}
use Rattle.route_solve.proofs.set.mark_row.Given as goal

abbrev pub invariant-loop-l : goal.invariant-loop-l
invariant-loop-l l = record {
  all : (k : ℕ) → k < l.l → is_reached l.marks k ≡ true → bit_of l.row 0 k ≡ 1;
  only : (k : ℕ) → k < 256 → bit_of l.row 0 k ≡ 1 → is_reached l.marks k ≡ true;
}
