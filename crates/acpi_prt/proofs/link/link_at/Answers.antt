use Rattle.std.proofs.Common.{map, ap}
use Rattle.aml_world.specs.state.Given.{given_of}
use Rattle.acpi_prt.proofs.Stopped.{link_made}
use Rattle.acpi_prt.proofs.link.link_at.Goals as goal

pub returns-in_err-answer-clause-evaluated : goal.returns-in_err-answer-clause-evaluated
returns-in_err-answer-clause-evaluated g c =
    link_made g.S.Space.accesses c.args.path.now _ _ _ _ c.in_ok-device.ensures c.in_ok-hid.ensures c.in_ok-id.ensures c.in_err-answer.ensures.evaluated (ap (map given_of) c.new.ensures.items)

pub returns-in_err-link_id_or_not-clause-evaluated : goal.returns-in_err-link_id_or_not-clause-evaluated
returns-in_err-link_id_or_not-clause-evaluated g c =
    link_made g.S.Space.accesses c.args.path.now _ _ _ _ c.in_ok-device.ensures c.in_ok-hid.ensures c.in_ok-id.ensures c.in_ok-answer.ensures.evaluated (ap (map given_of) c.new.ensures.items)

pub returns-clause-evaluated : goal.returns-clause-evaluated
returns-clause-evaluated g c =
    link_made g.S.Space.accesses c.args.path.now _ _ _ _ c.in_ok-device.ensures c.in_ok-hid.ensures c.in_ok-id.ensures c.in_ok-answer.ensures.evaluated (ap (map given_of) c.new.ensures.items)
