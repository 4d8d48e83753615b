use Rattle.std.proofs.Common.{◌≡◌, ◌≤◌, ◌<◌, ◌*◌, ◌^◌, ℕ, length, take}
use Rattle.route_model.specs.Routing.{wired_to}
use Rattle.route_numbers.specs.Numbers.{number_at}
use Rattle.route_spread.specs.Marks.{at}
use Rattle.route_spread.proofs.sources.add_wired.Given as goal

abbrev pub invariant-loop-w : goal.invariant-loop-w
invariant-loop-w l = record {
  sum : (i : ℕ) → i < length l.numbers → at l.loads i ≡ wired_to (take l.w-index l.wired) (number_at l.numbers i);
  small : (i : ℕ) → at l.loads i ≤ l.w-index * 2 ^ 32;
}
