use Rattle.std.proofs.Common.{rules, ◌≡◌}
use Rattle.ar_space.proofs.Outcomes.{answering}
use Rattle.route_report.specs.Ordered.{in_order, wired_order}
use Rattle.route_report.specs.Reading.{claimed}
use Rattle.route_report.proofs.draft.Draft.claim.Goals as goal

pub returns : goal.returns
unfolding claimed
returns c =
    let wired : c.in_order.result.items ≡ in_order wired_order c.self.inside.wired.items = c.in_order.ensures in
    search (rules, answering)
