use Rattle.std.proofs.Common.{◌++◌, arith, refl}
use Rattle.ar_space.proofs.Changes.{does_same, does_seen_err, same_ok}
use Rattle.acpi_machine.proofs.Stopping.{stops_here, stops_in, goes_on}
use Rattle.acpi_links.proofs.Folding.{same_turn, same_added, fold_end}
use Rattle.acpi_links.specs.Devices.{pins_of_device}
use Rattle.acpi_links.specs.Stops.{StopsInDevice}
use Rattle.acpi_links.proofs.Stopped.{no_device}
use Rattle.acpi_links.proofs.devices.pins_of_each.Goals as goal

pub loop-device-preserved : goal.loop-device-preserved
loop-device-preserved g c = (
  same_added _ _ _ _ _ (same_ok _ _ (same_turn ◌++◌ (pins_of_device g.S.Space.accesses) c.args.devices.now c.loop-device.list.items c.loop-device.device-index _ c.loop-device.invariant.0 (omega arith) c.device-item.is) c.in_ok-pins.ensures.value) c.in_ok-append.ensures.items,
  goes_on (pins_of_device g.S.Space.accesses) (StopsInDevice g.S.Space.accesses) c.args.devices.now c.loop-device.device-index _ c.loop-device.invariant.1 (omega arith) c.device-item.is c.in_ok-pins.ensures.value,
)

pub returns-in_err-pins-clause-value : goal.returns-in_err-pins-clause-value
returns-in_err-pins-clause-value g c =
    does_same (same_turn ◌++◌ (pins_of_device g.S.Space.accesses) c.args.devices.now c.loop-device.list.items c.loop-device.device-index _ c.loop-device.invariant.0 (omega arith) c.device-item.is)
    (does_seen_err _ _ _ _ c.in_err-pins.ensures.value c.from_residual.ensures)

pub returns-clause-value : goal.returns-clause-value
returns-clause-value g c = fold_end ◌++◌ (pins_of_device g.S.Space.accesses) c.args.devices.now c.loop-device.list.items c.loop-device.device-index c.loop-device.invariant.0 (omega arith) refl

pub returns-in_err-pins-clause-evaluated : goal.returns-in_err-pins-clause-evaluated
returns-in_err-pins-clause-evaluated g c =
    stops_in (pins_of_device g.S.Space.accesses) (StopsInDevice g.S.Space.accesses) c.args.devices.now c.loop-device.device-index _ c.loop-device.invariant.1 (omega arith) c.device-item.is c.in_err-pins.ensures.evaluated

pub returns-in_err-append-clause-evaluated : goal.returns-in_err-append-clause-evaluated
returns-in_err-append-clause-evaluated g c =
    stops_here (pins_of_device g.S.Space.accesses) (StopsInDevice g.S.Space.accesses) (no_device g.S.Space.accesses) _
    (goes_on (pins_of_device g.S.Space.accesses) (StopsInDevice g.S.Space.accesses) c.args.devices.now c.loop-device.device-index _ c.loop-device.invariant.1 (omega arith) c.device-item.is c.in_ok-pins.ensures.value)

pub returns-clause-evaluated : goal.returns-clause-evaluated
returns-clause-evaluated g c = stops_here (pins_of_device g.S.Space.accesses) (StopsInDevice g.S.Space.accesses) (no_device g.S.Space.accesses) _ c.loop-device.invariant.1
