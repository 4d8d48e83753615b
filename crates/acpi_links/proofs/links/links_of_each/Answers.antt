use Rattle.std.proofs.Common.{arith, refl}
use Rattle.ar_space.proofs.Changes.{does_same, does_seen_err, same_ok}
use Rattle.acpi_machine.proofs.Stopping.{none_made, stops_first, stops_here, stops_in, goes_on}
use Rattle.acpi_links.proofs.Folding.{same_turn, same_added, fold_end}
use Rattle.acpi_links.specs.Links.{with_link, link_asked}
use Rattle.acpi_links.specs.Stops.{StopsInLink}
use Rattle.acpi_links.proofs.Kept.{kept_in_order, kept_few, kept_left, end_in_order}
use Rattle.acpi_links.proofs.links.links_of_each.Goals as goal

pub loop-link-preserved : goal.loop-link-preserved
loop-link-preserved g c = (
  same_added _ _ _ _ _ (same_ok _ _ (same_turn with_link (link_asked g.S.Space.accesses c.args.avoid.now) c.args.links.now c.loop-link.list.items c.loop-link.link-index _ c.loop-link.invariant.0 (omega arith) c.link-item.is) c.in_ok-found.ensures.value) c.in_ok-push_found.ensures.items,
  kept_few _ _ _ _ c.in_ok-push_found.ensures.items c.loop-link.invariant.1,
  λ s. kept_in_order _ _ _ c.args.links.now c.loop-link.link-index _ c.in_ok-push_found.ensures.items c.in_ok-found.ensures.path (omega arith) c.link-item.is (c.loop-link.invariant.2 s),
  kept_left _ _ _ _ c.in_ok-push_found.ensures.items c.in_ok-found.ensures.left c.loop-link.invariant.3,
  goes_on (link_asked g.S.Space.accesses c.args.avoid.now) (StopsInLink g.S.Space.accesses c.args.avoid.now) c.args.links.now c.loop-link.link-index _ c.loop-link.invariant.4 (omega arith) c.link-item.is c.in_ok-found.ensures.value,
)

pub returns-in_err-found-clause-value : goal.returns-in_err-found-clause-value
returns-in_err-found-clause-value g c =
    does_same (same_turn with_link (link_asked g.S.Space.accesses c.args.avoid.now) c.args.links.now c.loop-link.list.items c.loop-link.link-index _ c.loop-link.invariant.0 (omega arith) c.link-item.is)
    (does_seen_err _ _ _ _ c.in_err-found.ensures.value c.from_residual.ensures)

pub returns-clause-value : goal.returns-clause-value
returns-clause-value g c = fold_end with_link (link_asked g.S.Space.accesses c.args.avoid.now) c.args.links.now c.loop-link.list.items c.loop-link.link-index c.loop-link.invariant.0 (omega arith) refl

pub returns-clause-in_order : goal.returns-clause-in_order
returns-clause-in_order g c = λ s. end_in_order c.loop-link.list.items c.args.links.now c.loop-link.link-index (omega arith) (c.loop-link.invariant.2 s)

pub returns-in_err-found-clause-evaluated : goal.returns-in_err-found-clause-evaluated
returns-in_err-found-clause-evaluated g c =
    stops_in (link_asked g.S.Space.accesses c.args.avoid.now) (StopsInLink g.S.Space.accesses c.args.avoid.now) c.args.links.now c.loop-link.link-index _ c.loop-link.invariant.4 (omega arith) c.link-item.is c.in_err-found.ensures.evaluated

pub returns-in_err-push_found-clause-evaluated : goal.returns-in_err-push_found-clause-evaluated
returns-in_err-push_found-clause-evaluated g c =
    stops_here (link_asked g.S.Space.accesses c.args.avoid.now) (StopsInLink g.S.Space.accesses c.args.avoid.now) (λ link u. stops_first none_made) _
    (goes_on (link_asked g.S.Space.accesses c.args.avoid.now) (StopsInLink g.S.Space.accesses c.args.avoid.now) c.args.links.now c.loop-link.link-index _ c.loop-link.invariant.4 (omega arith) c.link-item.is c.in_ok-found.ensures.value)

pub returns-clause-evaluated : goal.returns-clause-evaluated
returns-clause-evaluated g c = stops_here (link_asked g.S.Space.accesses c.args.avoid.now) (StopsInLink g.S.Space.accesses c.args.avoid.now) (λ link u. stops_first none_made) _ c.loop-link.invariant.4
