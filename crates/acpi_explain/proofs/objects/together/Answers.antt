use Rattle.acpi_explain.proofs.Halted.{halt_told}
use Rattle.acpi_explain.proofs.objects.together.Goals as goal

pub returns-in-Err-clause-halted : goal.returns-in-Err-clause-halted
returns-in-Err-clause-halted c = halt_told c.args.outcome c.in-Err.refusal c.halt_at.result c.in-Err.is c.halt_at.ensures
