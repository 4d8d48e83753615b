use Rattle.std.proofs.Common.{◌++◌, ◌∷◌, [], arith, refl}
use Rattle.ar_space.proofs.Changes.{does_same, does_seen_err, same_ok}
use Rattle.acpi_machine.specs.Stops.{AllOrNone}
use Rattle.acpi_machine.proofs.Stopping.{none_made, stops_here, stops_in, goes_on}
use Rattle.acpi_links.proofs.Folding.{same_turn, same_added, fold_end}
use Rattle.acpi_configure.specs.Settling.{link_read}
use Rattle.acpi_configure.proofs.settling.read_links.Goals as goal

pub loop-link-preserved : goal.loop-link-preserved
loop-link-preserved g c = (
  same_added _ _ _ _ _ (same_ok _ _ (same_turn (λ done line. done ++ line ∷ []) (link_read g.S.Space.accesses) c.args.links.now c.loop-link.list.items c.loop-link.link-index _ c.loop-link.invariant.0 (omega arith) c.link-item.is) c.in_ok-line.ensures.value) c.in_ok-push.ensures.items,
  goes_on (link_read g.S.Space.accesses) (λ link. AllOrNone (link_read g.S.Space.accesses link)) c.args.links.now c.loop-link.link-index _ c.loop-link.invariant.1 (omega arith) c.link-item.is c.in_ok-line.ensures.value,
)

pub returns-in_err-line-clause-value : goal.returns-in_err-line-clause-value
returns-in_err-line-clause-value g c =
    does_same (same_turn (λ done line. done ++ line ∷ []) (link_read g.S.Space.accesses) c.args.links.now c.loop-link.list.items c.loop-link.link-index _ c.loop-link.invariant.0 (omega arith) c.link-item.is)
    (does_seen_err _ _ _ _ c.in_err-line.ensures.value c.from_residual.ensures)

pub returns-clause-value : goal.returns-clause-value
returns-clause-value g c = fold_end (λ done line. done ++ line ∷ []) (link_read g.S.Space.accesses) c.args.links.now c.loop-link.list.items c.loop-link.link-index c.loop-link.invariant.0 (omega arith) refl

pub returns-in_err-line-clause-evaluated : goal.returns-in_err-line-clause-evaluated
returns-in_err-line-clause-evaluated g c =
    stops_in (link_read g.S.Space.accesses) (λ link. AllOrNone (link_read g.S.Space.accesses link)) c.args.links.now c.loop-link.link-index _ c.loop-link.invariant.1 (omega arith) c.link-item.is c.in_err-line.ensures.evaluated

pub returns-in_err-push-clause-evaluated : goal.returns-in_err-push-clause-evaluated
returns-in_err-push-clause-evaluated g c = stops_here (link_read g.S.Space.accesses) (λ link. AllOrNone (link_read g.S.Space.accesses link)) (λ link u. none_made) _ (goes_on (link_read g.S.Space.accesses) (λ link. AllOrNone (link_read g.S.Space.accesses link)) c.args.links.now c.loop-link.link-index _ c.loop-link.invariant.1 (omega arith) c.link-item.is c.in_ok-line.ensures.value)

pub returns-clause-evaluated : goal.returns-clause-evaluated
returns-clause-evaluated g c = stops_here (link_read g.S.Space.accesses) (λ link. AllOrNone (link_read g.S.Space.accesses link)) (λ link u. none_made) _ c.loop-link.invariant.1
