use Rattle.std.proofs.Common.{◌≡◌, take}
use Rattle.route_check.specs.Valid.{choice_of}
use Rattle.route_check.proofs.shared.choice_of.Given as goal

abbrev pub invariant-loop-i : goal.invariant-loop-i
invariant-loop-i l = l.list.items ≡ take l.i (choice_of l.links l.gives)
