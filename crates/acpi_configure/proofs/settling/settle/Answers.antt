use Rattle.acpi_machine.proofs.Stopping.{stops_first, stops_next}
use Rattle.acpi_configure.proofs.settling.settle.Goals as goal

pub returns-in_err-sets-clause-evaluated : goal.returns-in_err-sets-clause-evaluated
returns-in_err-sets-clause-evaluated g c = stops_first c.in_err-sets.ensures.evaluated

pub returns-in_err-afters-clause-evaluated : goal.returns-in_err-afters-clause-evaluated
returns-in_err-afters-clause-evaluated g c = stops_next c.in_ok-sets.ensures.value c.in_err-afters.ensures.evaluated

pub returns-clause-evaluated : goal.returns-clause-evaluated
returns-clause-evaluated g c = stops_next c.in_ok-sets.ensures.value c.in_ok-afters.ensures.evaluated
