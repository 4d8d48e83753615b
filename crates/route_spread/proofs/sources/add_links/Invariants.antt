use Rattle.std.proofs.Common.{◌≡◌, ◌≤◌, ◌<◌, ◌+◌, ◌^◌, ℕ, length, take}
use Rattle.route_model.specs.Routing.{given}
use Rattle.route_spread.specs.Marks.{at}
use Rattle.route_spread.proofs.sources.add_links.Given as goal

abbrev pub invariant-loop-i : goal.invariant-loop-i
invariant-loop-i l = record {
  added : (x : ℕ) → x < length l.loads → at l.loads x ≡ at l.fn.loads x + given (take l.i-index l.choice) x;
  small : (x : ℕ) → at l.loads x ≤ 2 ^ 96 + l.i-index;
}
