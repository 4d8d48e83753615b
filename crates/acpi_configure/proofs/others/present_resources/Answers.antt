use Rattle.acpi_machine.proofs.Stopping.{stops_first, stops_next}
use Rattle.acpi_configure.proofs.others.present_resources.Goals as goal

pub returns-in_err-present-clause-evaluated : goal.returns-in_err-present-clause-evaluated
returns-in_err-present-clause-evaluated g c = stops_first c.in_err-present.ensures.evaluated

pub returns-clause-evaluated : goal.returns-clause-evaluated
returns-clause-evaluated g c = stops_next c.in_ok-present.ensures.value c.resources_if.ensures.evaluated
