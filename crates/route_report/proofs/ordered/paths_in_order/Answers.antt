use Rattle.std.proofs.Common.{◌∙◌}
use Rattle.aml_path.specs.Paths.{path_cmp}
use Rattle.route_model.proofs.Paths.{path_total}
use Rattle.route_report.proofs.Orders.{path_exact}
use Rattle.route_report.proofs.Sorting.{permuted}
use Rattle.route_report.proofs.ordered.paths_in_order.Goals as goal

pub in_order-requires : goal.in_order-requires
in_order-requires c = path_exact

pub returns : goal.returns
returns c = c.in_order.ensures ∙ permuted path_cmp path_total path_exact c.args.paths.items c.sort_by_cached_key.new.self.items c.sort_by_cached_key.ensures.permutation
