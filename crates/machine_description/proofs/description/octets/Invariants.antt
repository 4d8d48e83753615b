use Rattle.std.proofs.Common.{◌≡◌, map}
use Rattle.machine_description.proofs.description.octets.Given as goal

abbrev pub invariant-loop-text : goal.invariant-loop-text
invariant-loop-text l = l.list.items ≡ map (λ text. text.items) l.yielded
