use Rattle.std.proofs.Common.{◌≡◌, ◌≤◌, ◌*◌, ◌^◌, take}
use Rattle.route_model.specs.Routing.{wired_to}
use Rattle.route_check.proofs.loads.pins_in_any_order.Given as goal

abbrev pub invariant-loop-w : goal.invariant-loop-w
invariant-loop-w l = record {
  sum : l.total ≡ wired_to (take l.w-index l.wired) l.n;
  small : l.total ≤ l.w-index * 2 ^ 32;
}
