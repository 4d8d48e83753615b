use Rattle.std.proofs.Common.{◌<◌, ℕ, get_or}
use Rattle.std.specs.Prelude.{Contains}
use Rattle.route_solve.proofs.buffers.all_interrupts.Given as goal

abbrev pub invariant-loop-w : goal.invariant-loop-w
invariant-loop-w l = record {
  offered : (n : ℕ) → Contains l.numbers n → Contains l.interrupts.items n;
  sources : (k : ℕ) → k < l.w-index → Contains l.interrupts.items (get_or l.wired k (0, 0)).0;
}
