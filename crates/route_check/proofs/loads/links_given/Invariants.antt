use Rattle.std.proofs.Common.{◌≡◌, ◌≤◌, take}
use Rattle.route_model.specs.Routing.{given}
use Rattle.route_check.specs.Valid.{choice_of}
use Rattle.route_check.proofs.loads.links_given.Given as goal

abbrev pub invariant-loop-i : goal.invariant-loop-i
invariant-loop-i l = record {
  sum : l.total ≡ given (take l.i (choice_of l.links l.gives)) l.n;
  small : l.total ≤ l.i;
}
