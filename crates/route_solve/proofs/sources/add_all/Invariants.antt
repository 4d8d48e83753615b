use Rattle.std.proofs.Common.{◌≡◌, ◌<◌, ℕ, length, take}
use Rattle.route_model.specs.Routing.{wired_to}
use Rattle.route_numbers.specs.Numbers.{number_at}
use Rattle.route_solve.specs.Capacities.{at}
use Rattle.route_solve.proofs.sources.add_all.Given as goal

abbrev pub invariant-loop-w : goal.invariant-loop-w
invariant-loop-w l = (i : ℕ) → i < length l.numbers → at l.sources i ≡ wired_to (take l.w-index l.wired) (number_at l.numbers i)
