use Rattle.acpi_configure.proofs.Asked.{no_device}
use Rattle.acpi_configure.proofs.others.ask_devices_beside.Goals as goal

pub returns-in_err-devices-clause-evaluated : goal.returns-in_err-devices-clause-evaluated
returns-in_err-devices-clause-evaluated g c = no_device g.S.Space.accesses _ _
