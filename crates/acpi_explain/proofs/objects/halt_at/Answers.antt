use Rattle.std.proofs.Common.{◌∙◌, refl, sym}
use Rattle.acpi_explain.proofs.Halted.{not_memory}
use Rattle.acpi_explain.proofs.objects.halt_at.Goals as goal

pub returns : goal.returns
returns c = (not_memory c.args.refusal.now (sym c.is_memory.ensures ∙ c.if-is_memory.false), refl)
