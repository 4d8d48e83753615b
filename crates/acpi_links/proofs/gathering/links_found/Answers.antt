use Rattle.ar_space.proofs.Changes.{does_ok, does_seen_err, does_give, does_made, settle_ok}
use Rattle.acpi_links.specs.Gatherings.{links_found}
use Rattle.acpi_links.proofs.Settled.{settle_seen_err}
use Rattle.acpi_links.proofs.Stopped.{no_few, few_named}
use Rattle.acpi_links.proofs.gathering.links_found.Goals as goal

pub returns-in_err-few_links-clause-value : goal.returns-in_err-few_links-clause-value
unfolding links_found
returns-in_err-few_links-clause-value g c =
    does_ok _ _ (does_made _ _ c.in_ok-named.ensures.value)
    (settle_seen_err _ _ _ _ (rw (← c.deref.ensures.value) c.in_err-few_links.ensures.value) c.from_residual-in_err-few_links.ensures)

pub returns-in_err-links-clause-value : goal.returns-in_err-links-clause-value
unfolding links_found
returns-in_err-links-clause-value g c =
    does_ok _ _ (does_made _ _ c.in_ok-named.ensures.value)
    (settle_ok _ _ (rw (← c.deref.ensures.value) c.in_ok-few_links.ensures.value)
    (does_seen_err _ _ _ _ (rw (← c.deref-2.ensures.value) c.in_err-links.ensures.value) c.from_residual-in_err-links.ensures))

pub returns-in_err-one_polarity-clause-value : goal.returns-in_err-one_polarity-clause-value
unfolding links_found
returns-in_err-one_polarity-clause-value g c =
    does_ok _ _ (does_made _ _ c.in_ok-named.ensures.value)
    (settle_ok _ _ (rw (← c.deref.ensures.value) c.in_ok-few_links.ensures.value)
    (does_ok {a = c.in_ok-links.links.items} _ _ (rw (← c.deref-2.ensures.value) c.in_ok-links.ensures.value)
    (settle_seen_err _ _ _ _ (rw (← c.deref-3.ensures.value) c.in_err-one_polarity.ensures.value) c.from_residual-in_err-one_polarity.ensures)))

pub returns-clause-value : goal.returns-clause-value
unfolding links_found
returns-clause-value g c =
    does_ok _ _ (does_made _ _ c.in_ok-named.ensures.value)
    (settle_ok _ _ (rw (← c.deref.ensures.value) c.in_ok-few_links.ensures.value)
    (does_ok {a = c.in_ok-links.links.items} _ _ (rw (← c.deref-2.ensures.value) c.in_ok-links.ensures.value)
    (settle_ok _ _ (rw (← c.deref-3.ensures.value) c.in_ok-one_polarity.ensures.value) does_give)))

pub returns-in_err-named-clause-evaluated : goal.returns-in_err-named-clause-evaluated
returns-in_err-named-clause-evaluated g c = no_few g.S.Space.accesses c.args.avoid.now _ _

pub returns-in_err-few_links-clause-evaluated : goal.returns-in_err-few_links-clause-evaluated
returns-in_err-few_links-clause-evaluated g c = no_few g.S.Space.accesses c.args.avoid.now _ _

pub returns-in_err-links-clause-evaluated : goal.returns-in_err-links-clause-evaluated
returns-in_err-links-clause-evaluated g c = few_named g.S.Space.accesses c.args.avoid.now _ c.args.pins.now _ _ c.in_ok-named.ensures.value (rw (← c.deref.ensures.value) c.in_ok-few_links.ensures.value) (rw (← c.deref-2.ensures.value) c.in_err-links.ensures.evaluated)

pub returns-in_err-one_polarity-clause-evaluated : goal.returns-in_err-one_polarity-clause-evaluated
returns-in_err-one_polarity-clause-evaluated g c = few_named g.S.Space.accesses c.args.avoid.now _ c.args.pins.now _ _ c.in_ok-named.ensures.value (rw (← c.deref.ensures.value) c.in_ok-few_links.ensures.value) (rw (← c.deref-2.ensures.value) c.in_ok-links.ensures.evaluated)

pub returns-clause-evaluated : goal.returns-clause-evaluated
returns-clause-evaluated g c = few_named g.S.Space.accesses c.args.avoid.now _ c.args.pins.now _ _ c.in_ok-named.ensures.value (rw (← c.deref.ensures.value) c.in_ok-few_links.ensures.value) (rw (← c.deref-2.ensures.value) c.in_ok-links.ensures.evaluated)
