use Rattle.std.proofs.Common.{map, arith}
use Rattle.ar_space.proofs.Changes.{does_same, does_seen_err, same_ok}
use Rattle.std.proofs.lemmas.List.{length-map}
use Rattle.aml_world.specs.state.Given.{given_of}
use Rattle.acpi_machine.specs.Stops.{AllOrNone}
use Rattle.acpi_machine.proofs.Stopping.{none_made, stops_here, stops_in, goes_on}
use Rattle.acpi_prt.specs.RoutingTables.{pin_of}
use Rattle.acpi_prt.proofs.Stopped.{given_at}
use Rattle.acpi_prt.proofs.Turns.{same_each, same_taken, each_end}
use Rattle.acpi_prt.proofs.routing_table.pins_from.Goals as goal

pub returns-in_err-pin-clause-value : goal.returns-in_err-pin-clause-value
returns-in_err-pin-clause-value g c =
    does_same (same_each g.S.Space.accesses c.args.entries.now c.loop-entry.pins c.loop-entry.entry-index c.entry-item.result c.loop-entry.invariant.0 (omega arith) c.entry-item.is)
    (does_seen_err _ _ _ _ c.in_err-pin.ensures.value c.from_residual.ensures)

pub loop-entry-preserved : goal.loop-entry-preserved
loop-entry-preserved g c = (
  same_taken _ _ _ _ c.in_ok-pins.ensures
      (same_ok _ _ (same_each g.S.Space.accesses c.args.entries.now c.loop-entry.pins c.loop-entry.entry-index c.entry-item.result c.loop-entry.invariant.0 (omega arith) c.entry-item.is) c.in_ok-pin.ensures.value),
  goes_on (pin_of g.S.Space.accesses) (λ e. AllOrNone (pin_of g.S.Space.accesses e)) (map given_of c.args.entries.now) c.loop-entry.entry-index (given_of c.entry-item.result) c.loop-entry.invariant.1
      (let l = length-map c.args.entries.now given_of in omega arith) (given_at c.args.entries.now c.loop-entry.entry-index c.entry-item.result (omega arith) c.entry-item.is) c.in_ok-pin.ensures.value,
)

pub returns-clause-value : goal.returns-clause-value
returns-clause-value g c = rw c.into_pins.ensures (each_end _ _ _ c.loop-entry.entry-index c.loop-entry.invariant.0 (omega arith))

pub returns-in_err-pin-clause-evaluated : goal.returns-in_err-pin-clause-evaluated
returns-in_err-pin-clause-evaluated g c =
    stops_in (pin_of g.S.Space.accesses) (λ e. AllOrNone (pin_of g.S.Space.accesses e)) (map given_of c.args.entries.now) c.loop-entry.entry-index (given_of c.entry-item.result) c.loop-entry.invariant.1
    (let l = length-map c.args.entries.now given_of in omega arith) (given_at c.args.entries.now c.loop-entry.entry-index c.entry-item.result (omega arith) c.entry-item.is) c.in_err-pin.ensures.evaluated

pub returns-in_err-pins-clause-evaluated : goal.returns-in_err-pins-clause-evaluated
returns-in_err-pins-clause-evaluated g c =
    stops_here (pin_of g.S.Space.accesses) (λ e. AllOrNone (pin_of g.S.Space.accesses e)) (λ e s. none_made) _
    (goes_on (pin_of g.S.Space.accesses) (λ e. AllOrNone (pin_of g.S.Space.accesses e)) (map given_of c.args.entries.now) c.loop-entry.entry-index (given_of c.entry-item.result) c.loop-entry.invariant.1
    (let l = length-map c.args.entries.now given_of in omega arith) (given_at c.args.entries.now c.loop-entry.entry-index c.entry-item.result (omega arith) c.entry-item.is) c.in_ok-pin.ensures.value)

pub returns-clause-evaluated : goal.returns-clause-evaluated
returns-clause-evaluated g c = stops_here (pin_of g.S.Space.accesses) (λ e. AllOrNone (pin_of g.S.Space.accesses e)) (λ e s. none_made) _ c.loop-entry.invariant.1
