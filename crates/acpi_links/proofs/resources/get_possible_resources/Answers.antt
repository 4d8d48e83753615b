use Rattle.std.proofs.Common.{map, ap}
use Rattle.aml_world.specs.state.Given.{given_of}
use Rattle.acpi_links.proofs.Stopped.{possible_made}
use Rattle.acpi_links.proofs.resources.get_possible_resources.Goals as goal

pub returns-in_err-answer-clause-evaluated : goal.returns-in_err-answer-clause-evaluated
returns-in_err-answer-clause-evaluated g c = possible_made g.S.Space.accesses c.args.link.now _ _ c.in_err-answer.ensures.evaluated c.prs.ensures (ap (map given_of) c.new.ensures.items)

pub returns-in_err-bytes-clause-evaluated : goal.returns-in_err-bytes-clause-evaluated
returns-in_err-bytes-clause-evaluated g c = possible_made g.S.Space.accesses c.args.link.now _ _ c.in_ok-answer.ensures.evaluated c.prs.ensures (ap (map given_of) c.new.ensures.items)

pub returns-clause-evaluated : goal.returns-clause-evaluated
returns-clause-evaluated g c = possible_made g.S.Space.accesses c.args.link.now _ _ c.in_ok-answer.ensures.evaluated c.prs.ensures (ap (map given_of) c.new.ensures.items)
