use Rattle.acpi_links.proofs.Stopped.{does_set, does_not_set, set_made}
use Rattle.aml_world.specs.state.Given.{given_of}
use Rattle.acpi_links.proofs.resources.set_current_resources.Goals as goal

pub returns-in_err-answer-clause-value : goal.returns-in_err-answer-clause-value
returns-in_err-answer-clause-value g c = does_not_set g.S.Space.accesses c.args.link.now c.args.offer.now c.args.number _ _ c.srs.ensures c.in_ok-arguments.ensures _ c.in_err-answer.ensures.answer c.from_residual-in_err-answer.ensures

pub returns-clause-value : goal.returns-clause-value
returns-clause-value g c = rw c.is_some.ensures (does_set g.S.Space.accesses c.args.link.now c.args.offer.now c.args.number _ _ c.srs.ensures c.in_ok-arguments.ensures given_of c.in_ok-answer.answer c.in_ok-answer.ensures.answer)

pub returns-in_err-answer-clause-evaluated : goal.returns-in_err-answer-clause-evaluated
returns-in_err-answer-clause-evaluated g c = set_made g.S.Space.accesses c.args.link.now _ _ c.in_err-answer.ensures.evaluated _ _ c.srs.ensures c.in_ok-arguments.ensures

pub returns-clause-evaluated : goal.returns-clause-evaluated
returns-clause-evaluated g c = set_made g.S.Space.accesses c.args.link.now _ _ c.in_ok-answer.ensures.evaluated _ _ c.srs.ensures c.in_ok-arguments.ensures
