use Rattle.route_report.proofs.Sorting.{sorted_is}
use Rattle.route_report.proofs.ordered.in_order.Goals as goal

pub returns : goal.returns
returns g c = sorted_is g.T.Ord.cmp g.met.T.Ord.total c.requires c.args.xs.items c.sort_unstable.new.self.items c.sort_unstable.ensures.permutation c.sort_unstable.ensures.sorted
