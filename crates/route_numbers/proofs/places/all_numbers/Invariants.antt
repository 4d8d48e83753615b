use Rattle.std.proofs.Common.{◌≡◌, map, take, get_or}
use Rattle.route_numbers.proofs.places.all_numbers.Given as goal

abbrev pub invariant-loop-i : goal.invariant-loop-i
invariant-loop-i l = l.list.items ≡ map (λ i. get_or l.numbers i 0) (take l.i-index l.places)
