use Rattle.acpi_explain.proofs.Paths.{root_named}
use Rattle.acpi_explain.proofs.calls.at_root.Goals as goal

pub returns-in-Ok : goal.returns-in-Ok
returns-in-Ok c = root_named c.root-root.result c.args.name c.in-Ok.path c.root-root.ensures (c.in-Ok.ensures.is tt)
