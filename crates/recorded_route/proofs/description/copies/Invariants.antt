use Rattle.std.proofs.Common.{◌≡◌, map, take}
use Rattle.recorded_route.proofs.description.copies.Given as goal

abbrev pub invariant-loop-text : goal.invariant-loop-text
invariant-loop-text l = l.list.items ≡ map (λ s. s.now) (take l.text-index l.fn.texts)
