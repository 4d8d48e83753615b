use Rattle.acpi_links.proofs.Stopped.{behind_tables}
use Rattle.acpi_links.proofs.gathering.gather.Goals as goal

pub returns-in_err-links-clause-evaluated : goal.returns-in_err-links-clause-evaluated
returns-in_err-links-clause-evaluated g c = behind_tables g.S.Space.accesses c.args.avoid.now _ _ _ _ _ c.in_ok-sci.ensures.sci c.in_ok-pins.ensures.value (rw (← c.deref.ensures.value) c.in_err-links.ensures.evaluated)

pub returns-clause-evaluated : goal.returns-clause-evaluated
returns-clause-evaluated g c = behind_tables g.S.Space.accesses c.args.avoid.now _ _ _ _ _ c.in_ok-sci.ensures.sci c.in_ok-pins.ensures.value (rw (← c.deref.ensures.value) c.in_ok-links.ensures.evaluated)
