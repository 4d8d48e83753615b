use Rattle.std.proofs.Common.{◌++◌, arith, refl}
use Rattle.ar_space.proofs.Changes.{same_ok}
use Rattle.acpi_links.proofs.Folding.{same_turn, same_added, fold_end}
use Rattle.acpi_links.specs.Devices.{pins_of_device, pins_of_each}
use Rattle.acpi_explain.specs.Halting.{IsHalted, IsUnread}
use Rattle.acpi_explain.proofs.Answered.{first, turned}
use Rattle.acpi_explain.proofs.Found.{unread_in}
use Rattle.acpi_explain.proofs.Halted.{handed}
use Rattle.acpi_explain.proofs.objects.read_tables.Goals as goal

pub loop-device-preserved : goal.loop-device-preserved
loop-device-preserved g c =
    let f = pins_of_device g.S.Space.accesses in
    let list = c.args.devices.now in
    let i = c.loop-device.device-index in (
      same_added _ _ _ _ _ (same_ok _ _ (same_turn ◌++◌ f list c.loop-device.list.items i _ c.loop-device.invariant.0 (omega arith) c.device-item.is) (record { is = λ _. c.in_ok-pins.ensures.read })) c.in_ok-append.ensures.items,
      turned f list i _ c.args.machine.now c.loop-device.machine c.read_table.new.machine _ (omega arith) c.device-item.is c.loop-device.invariant.1 c.in_ok-pins.ensures.read,
    )

pub returns-in_err-pins-clause-halted : goal.returns-in_err-pins-clause-halted
returns-in_err-pins-clause-halted g c =
    let f = pins_of_device g.S.Space.accesses in
    let list = c.args.devices.now in
    let i = c.loop-device.device-index in
    handed _ _ (IsHalted (pins_of_each g.S.Space.accesses list) (IsUnread g.S.Space.accesses list c.args.machine.now) c.args.machine.now c.read_table.new.machine) c.from_residual.ensures
    (unread_in g.S.Space.accesses list _ i c.args.machine.now c.read_table.new.machine c.loop-device.machine _ c.in_err-pins.ensures.halted
    (λ e at. first f list i _ c.args.machine.now c.loop-device.machine c.read_table.new.machine e (omega arith) c.device-item.is c.loop-device.invariant.1 at))

pub returns-clause-read : goal.returns-clause-read
returns-clause-read g c = (fold_end ◌++◌ (pins_of_device g.S.Space.accesses) c.args.devices.now c.loop-device.list.items c.loop-device.device-index c.loop-device.invariant.0 (omega arith) refl).is tt
