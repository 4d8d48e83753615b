use Rattle.acpi_explain.proofs.Paths.{below_named}
use Rattle.acpi_explain.proofs.calls.below_root.Goals as goal

pub returns-in-Ok : goal.returns-in-Ok
returns-in-Ok c = below_named c.in_ok-above.above c.args.parent c.args.name c.in-Ok.path c.in_ok-above.ensures (c.in-Ok.ensures.is tt)
