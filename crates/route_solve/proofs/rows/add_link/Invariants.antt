use Rattle.std.proofs.Common.{◌≡◌, ◌<◌, ℕ, get_or}
use Rattle.std.specs.Prelude.{Contains, ◌⊎◌}
use Rattle.route_solve.specs.Rows.{bit_of}
use Rattle.route_solve.proofs.rows.add_link.Given as goal

abbrev pub invariant-loop-i : goal.invariant-loop-i
invariant-loop-i l = record {
  set : (k : ℕ) → k < l.i-index → bit_of l.words (get_or l.places k 0) l.link ≡ 1;
  kept : (k j : ℕ) → bit_of l.fn.words j k ≡ 1 → bit_of l.words j k ≡ 1;
  only : (k j : ℕ) → k < 256 → bit_of l.words j k ≡ 1 → (bit_of l.fn.words j k ≡ 1) ⊎ (Contains l.places j × (k ≡ l.link));
}
