-- the bits so far are set, and the others are as they were
use Rattle.std.proofs.Common.{◌≡◌, ℕ, ◌+◌, ◌<◌, ◌≤◌}
use Rattle.std.specs.Int.{bit_at}
use Rattle.ar_space.proofs.page.Page.mark.Given as goal

abbrev pub invariant-loop-n : goal.invariant-loop-n
invariant-loop-n l = record {
  bytes : l.self.bytes ≡ l.fn.self.bytes;
  put : (k : ℕ) → k < l.n → bit_at l.self.present (l.at + k) ≡ 1;
  below : (i : ℕ) → i < l.at → bit_at l.self.present i ≡ bit_at l.fn.self.present i;
  above : (i : ℕ) → l.at + l.n ≤ i → bit_at l.self.present i ≡ bit_at l.fn.self.present i;
}
