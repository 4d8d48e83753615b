use Rattle.std.proofs.Common.{◌∙◌, sym}
use Rattle.acpi_explain.proofs.Halted.{told_answered, told_refused}
use Rattle.acpi_explain.proofs.halt.is_refused.Goals as goal

pub returns-in-Ok : goal.returns-in-Ok
returns-in-Ok g c = told_answered c.args.outcome _ c.in-Ok.is

pub returns : goal.returns
returns g c = told_refused c.args.outcome c.in-Err.refusal c.in-Err.is (sym c.is_memory.ensures ∙ c.if-is_memory.false)
