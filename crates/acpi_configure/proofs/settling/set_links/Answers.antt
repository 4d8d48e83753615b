use Rattle.std.specs.Prelude.{Contains, zip}
use Rattle.std.proofs.Common.{get_or, arith, refl, sym, subst}
use Rattle.ar_space.proofs.Changes.{does_same, does_seen_err, same_ok}
use Rattle.acpi_machine.specs.Stops.{AllOrNone}
use Rattle.acpi_machine.proofs.Stopping.{none_made, stops_here, stops_in, goes_on}
use Rattle.acpi_configure.specs.Settling.{link_set}
use Rattle.acpi_configure.proofs.Settled.{same_pair, same_pushed, pairs_end, offered_at}
use Rattle.acpi_configure.proofs.Stopped.{zip_within, pair_at}
use Rattle.acpi_configure.proofs.settling.set_links.Goals as goal

pub loop-i-preserved : goal.loop-i-preserved
loop-i-preserved g c = (
  same_pushed g.S.Space.accesses _ _ _ _ (same_ok _ _ (same_pair g.S.Space.accesses c.args.links.now c.args.choice.now c.loop-i.list.items c.loop-i.i c.index-links-i.result c.loop-i.invariant.0 (omega arith) (omega arith) c.index-links-i.is) c.in_ok-line.ensures.value) c.in_ok-push.ensures.items,
  goes_on (λ x. link_set g.S.Space.accesses x.0 x.1) (λ x. AllOrNone (link_set g.S.Space.accesses x.0 x.1)) (zip c.args.links.now c.args.choice.now) c.loop-i.i (c.index-links-i.result, get_or c.args.choice.now c.loop-i.i 0) c.loop-i.invariant.1 (zip_within c.args.links.now c.args.choice.now c.loop-i.i (omega arith) (omega arith)) (pair_at c.args.links.now c.args.choice.now c.loop-i.i c.index-links-i.result (omega arith) (omega arith) c.index-links-i.is) c.in_ok-line.ensures.value,
)

pub set_link-requires : goal.set_link-requires
set_link-requires g c =
    subst (λ l. Contains l.1.numbers (get_or c.args.choice.now c.loop-i.i 0)) (sym c.index-links-i.is) (offered_at c.args.links.now c.args.choice.now c.loop-i.i c.index-links-i.result 0 c.requires.offered (omega arith))

pub returns-in_err-line-clause-value : goal.returns-in_err-line-clause-value
returns-in_err-line-clause-value g c =
    does_same (same_pair g.S.Space.accesses c.args.links.now c.args.choice.now c.loop-i.list.items c.loop-i.i c.index-links-i.result c.loop-i.invariant.0 (omega arith) (omega arith) c.index-links-i.is)
    (does_seen_err _ _ _ _ c.in_err-line.ensures.value c.from_residual.ensures)

pub returns-clause-value : goal.returns-clause-value
returns-clause-value g c = pairs_end g.S.Space.accesses c.args.links.now c.args.choice.now c.loop-i.list.items c.loop-i.i c.loop-i.invariant.0 (omega arith) refl

pub returns-in_err-line-clause-evaluated : goal.returns-in_err-line-clause-evaluated
returns-in_err-line-clause-evaluated g c = stops_in (λ x. link_set g.S.Space.accesses x.0 x.1) (λ x. AllOrNone (link_set g.S.Space.accesses x.0 x.1)) (zip c.args.links.now c.args.choice.now) c.loop-i.i (c.index-links-i.result, get_or c.args.choice.now c.loop-i.i 0) c.loop-i.invariant.1 (zip_within c.args.links.now c.args.choice.now c.loop-i.i (omega arith) (omega arith)) (pair_at c.args.links.now c.args.choice.now c.loop-i.i c.index-links-i.result (omega arith) (omega arith) c.index-links-i.is) c.in_err-line.ensures.evaluated

pub returns-in_err-push-clause-evaluated : goal.returns-in_err-push-clause-evaluated
returns-in_err-push-clause-evaluated g c = stops_here (λ x. link_set g.S.Space.accesses x.0 x.1) (λ x. AllOrNone (link_set g.S.Space.accesses x.0 x.1)) (λ x u. none_made) _ (goes_on (λ x. link_set g.S.Space.accesses x.0 x.1) (λ x. AllOrNone (link_set g.S.Space.accesses x.0 x.1)) (zip c.args.links.now c.args.choice.now) c.loop-i.i (c.index-links-i.result, get_or c.args.choice.now c.loop-i.i 0) c.loop-i.invariant.1 (zip_within c.args.links.now c.args.choice.now c.loop-i.i (omega arith) (omega arith)) (pair_at c.args.links.now c.args.choice.now c.loop-i.i c.index-links-i.result (omega arith) (omega arith) c.index-links-i.is) c.in_ok-line.ensures.value)

pub returns-clause-evaluated : goal.returns-clause-evaluated
returns-clause-evaluated g c = stops_here (λ x. link_set g.S.Space.accesses x.0 x.1) (λ x. AllOrNone (link_set g.S.Space.accesses x.0 x.1)) (λ x u. none_made) _ c.loop-i.invariant.1
