use Rattle.std.specs.FinMap.{nat_cmp-IsAntisymmetric}
use Rattle.route_report.proofs.ordered.bound_in_order.Goals as goal

pub in_order-requires : goal.in_order-requires
in_order-requires c = nat_cmp-IsAntisymmetric
