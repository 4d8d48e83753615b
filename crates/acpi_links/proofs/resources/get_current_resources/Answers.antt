use Rattle.std.proofs.Common.{map, ap}
use Rattle.aml_world.specs.state.Given.{given_of}
use Rattle.acpi_links.proofs.Stopped.{current_made}
use Rattle.acpi_links.proofs.resources.get_current_resources.Goals as goal

pub returns-in_err-answer-clause-evaluated : goal.returns-in_err-answer-clause-evaluated
returns-in_err-answer-clause-evaluated g c = current_made g.S.Space.accesses c.args.link.now _ _ c.in_err-answer.ensures.evaluated c.crs.ensures (ap (map given_of) c.new.ensures.items)

pub returns-clause-evaluated : goal.returns-clause-evaluated
returns-clause-evaluated g c = current_made g.S.Space.accesses c.args.link.now _ _ c.in_ok-answer.ensures.evaluated c.crs.ensures (ap (map given_of) c.new.ensures.items)
