use Rattle.std.proofs.Common.{rules}
use Rattle.std.specs.Ordering.{is_lt}
use Rattle.std.proofs.lemmas.Fn.{always_returns_same}
use Rattle.std.proofs.lemmas.List.Sorted.{ranks_by}
use Rattle.route_model.specs.Links.{OfferingLink}
use Rattle.route_report.specs.Ordered.{link_order}
use Rattle.route_report.proofs.Sorting.{sorted_is}
use Rattle.route_report.proofs.Orders.{link_exact, link_total}
use Rattle.route_report.proofs.ordered.links_in_order.Goals as goal

pub returns : goal.returns
returns c =
    sorted_is link_order link_total link_exact c.args.links.items c.sort_unstable_by.new.self.items c.sort_unstable_by.ensures.permutation
    (c.sort_unstable_by.ensures.sorted (λ k l. is_lt (link_order k l)) (ranks_by link_total (λ (l : OfferingLink). l)) (always_returns_same _ _ _ (λ a r f' k. search rules)))
