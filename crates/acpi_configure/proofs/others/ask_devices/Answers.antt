use Rattle.std.proofs.Common.{◌++◌, ◌∷◌, [], arith, refl}
use Rattle.ar_space.proofs.Changes.{does_same, does_seen_err, same_ok}
use Rattle.acpi_machine.proofs.Stopping.{stops_here, stops_in, goes_on}
use Rattle.acpi_links.proofs.Folding.{same_turn, same_added, fold_end}
use Rattle.acpi_configure.specs.Others.{device_asked}
use Rattle.acpi_configure.specs.Stops.{StopsInDevice}
use Rattle.acpi_configure.proofs.Asked.{not_asked}
use Rattle.acpi_configure.proofs.others.ask_devices.Goals as goal

pub loop-device-preserved : goal.loop-device-preserved
loop-device-preserved g c = (
  same_added _ _ _ _ _ (same_ok _ _ (same_turn (λ done line. done ++ line ∷ []) (device_asked g.S.Space.accesses) c.args.devices.now c.loop-device.list.items c.loop-device.device-index _ c.loop-device.invariant.0 (omega arith) c.device-item.is) c.in_ok-line.ensures.value) c.in_ok-push.ensures.items,
  goes_on (device_asked g.S.Space.accesses) (StopsInDevice g.S.Space.accesses) c.args.devices.now c.loop-device.device-index _ c.loop-device.invariant.1 (omega arith) c.device-item.is c.in_ok-line.ensures.value,
)

pub returns-in_err-line-clause-value : goal.returns-in_err-line-clause-value
returns-in_err-line-clause-value g c =
    does_same (same_turn (λ done line. done ++ line ∷ []) (device_asked g.S.Space.accesses) c.args.devices.now c.loop-device.list.items c.loop-device.device-index _ c.loop-device.invariant.0 (omega arith) c.device-item.is)
    (does_seen_err _ _ _ _ c.in_err-line.ensures.value c.from_residual.ensures)

pub returns-clause-value : goal.returns-clause-value
returns-clause-value g c = fold_end (λ done line. done ++ line ∷ []) (device_asked g.S.Space.accesses) c.args.devices.now c.loop-device.list.items c.loop-device.device-index c.loop-device.invariant.0 (omega arith) refl

pub returns-in_err-line-clause-evaluated : goal.returns-in_err-line-clause-evaluated
returns-in_err-line-clause-evaluated g c =
    stops_in (device_asked g.S.Space.accesses) (StopsInDevice g.S.Space.accesses) c.args.devices.now c.loop-device.device-index _ c.loop-device.invariant.1 (omega arith) c.device-item.is c.in_err-line.ensures.evaluated

pub returns-in_err-push-clause-evaluated : goal.returns-in_err-push-clause-evaluated
returns-in_err-push-clause-evaluated g c =
    stops_here (device_asked g.S.Space.accesses) (StopsInDevice g.S.Space.accesses) (not_asked g.S.Space.accesses) _
    (goes_on (device_asked g.S.Space.accesses) (StopsInDevice g.S.Space.accesses) c.args.devices.now c.loop-device.device-index _ c.loop-device.invariant.1 (omega arith) c.device-item.is c.in_ok-line.ensures.value)

pub returns-clause-evaluated : goal.returns-clause-evaluated
returns-clause-evaluated g c = stops_here (device_asked g.S.Space.accesses) (StopsInDevice g.S.Space.accesses) (not_asked g.S.Space.accesses) _ c.loop-device.invariant.1
