use Rattle.std.proofs.Common.{◌∙◌}
use Rattle.route_report.specs.Ordered.{give_order}
use Rattle.route_report.proofs.Orders.{give_exact, give_total}
use Rattle.route_report.proofs.Sorting.{permuted}
use Rattle.route_report.proofs.ordered.gives_in_order.Goals as goal

pub in_order-requires : goal.in_order-requires
in_order-requires c = give_exact

pub returns : goal.returns
returns c = c.in_order.ensures ∙ permuted give_order give_total give_exact c.args.gives.items c.sort_by_cached_key.new.self.items c.sort_by_cached_key.ensures.permutation
