use Rattle.ar_space.proofs.Changes.{does_ok, does_seen_err, does_give, settle_ok}
use Rattle.acpi_links.specs.Gatherings.{pins_found}
use Rattle.acpi_links.proofs.Settled.{settle_seen_err}
use Rattle.acpi_links.proofs.Stopped.{listed, no_table, devices_as_listed}
use Rattle.acpi_links.proofs.gathering.pins_found.Goals as goal

pub returns-in_err-list-clause-value : goal.returns-in_err-list-clause-value
unfolding pins_found
returns-in_err-list-clause-value g c = does_seen_err _ _ _ _ (listed c.in_err-list.ensures) search

pub returns-in_err-pins-clause-value : goal.returns-in_err-pins-clause-value
unfolding pins_found
returns-in_err-pins-clause-value g c = does_ok _ _ (listed c.in_ok-list.ensures) (does_seen_err _ _ _ _ (rw (← c.deref.ensures.value) c.in_err-pins.ensures.value) c.from_residual-in_err-pins.ensures)

pub returns-in_err-few_pins-clause-value : goal.returns-in_err-few_pins-clause-value
unfolding pins_found
returns-in_err-few_pins-clause-value g c =
    does_ok _ _ (listed c.in_ok-list.ensures)
    (does_ok {a = c.in_ok-pins.pins.items} _ _ (rw (← c.deref.ensures.value) c.in_ok-pins.ensures.value)
    (settle_seen_err _ _ _ _ (rw (← c.deref-2.ensures.value) c.in_err-few_pins.ensures.value) c.from_residual-in_err-few_pins.ensures))

pub returns-clause-value : goal.returns-clause-value
unfolding pins_found
returns-clause-value g c =
    does_ok _ _ (listed c.in_ok-list.ensures)
    (does_ok {a = c.in_ok-pins.pins.items} _ _ (rw (← c.deref.ensures.value) c.in_ok-pins.ensures.value)
    (settle_ok _ _ (rw (← c.deref-2.ensures.value) c.in_ok-few_pins.ensures.value) does_give))

pub returns-in_err-list-clause-evaluated : goal.returns-in_err-list-clause-evaluated
returns-in_err-list-clause-evaluated g c = no_table g.S.Space.accesses _ _

pub returns-in_err-pins-clause-evaluated : goal.returns-in_err-pins-clause-evaluated
returns-in_err-pins-clause-evaluated g c = devices_as_listed g.S.Space.accesses _ _ _ (listed c.in_ok-list.ensures) (rw (← c.deref.ensures.value) c.in_err-pins.ensures.evaluated)

pub returns-in_err-few_pins-clause-evaluated : goal.returns-in_err-few_pins-clause-evaluated
returns-in_err-few_pins-clause-evaluated g c = devices_as_listed g.S.Space.accesses _ _ _ (listed c.in_ok-list.ensures) (rw (← c.deref.ensures.value) c.in_ok-pins.ensures.evaluated)

pub returns-clause-evaluated : goal.returns-clause-evaluated
returns-clause-evaluated g c = devices_as_listed g.S.Space.accesses _ _ _ (listed c.in_ok-list.ensures) (rw (← c.deref.ensures.value) c.in_ok-pins.ensures.evaluated)
