use Rattle.std.proofs.Common.{map, ap}
use Rattle.aml_world.specs.state.Given.{given_of}
use Rattle.acpi_links.proofs.Stopped.{present_made}
use Rattle.acpi_links.proofs.presence.is_present.Goals as goal

pub returns-in_err-answer-clause-evaluated : goal.returns-in_err-answer-clause-evaluated
returns-in_err-answer-clause-evaluated g c = present_made g.S.Space.accesses c.args.link.now _ _ c.in_err-answer.ensures.evaluated c.sta.ensures (ap (map given_of) c.new.ensures.items)

pub returns-clause-evaluated : goal.returns-clause-evaluated
returns-clause-evaluated g c = present_made g.S.Space.accesses c.args.link.now _ _ c.in_ok-answer.ensures.evaluated c.sta.ensures (ap (map given_of) c.new.ensures.items)
