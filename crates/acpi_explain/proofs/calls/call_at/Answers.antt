use Rattle.std.proofs.Common.{◌∙◌}
use Rattle.std.specs.Prelude.{map}
use Rattle.aml_world.specs.state.Given.{given_of}
use Rattle.acpi_explain.proofs.Called.{called_none, called_ok, called_err}
use Rattle.acpi_explain.proofs.Paths.{stands_key}
use Rattle.acpi_explain.proofs.calls.call_at.Goals as goal

pub returns-then-not-has_name : goal.returns-then-not-has_name
returns-then-not-has_name g c = λ spent. record {
  is = λ _.
      called_none g.S.Space.accesses c.args.path.now (map given_of c.args.arguments.items) c.args.machine.now (stands_key c.has_name.result c.args.path.now c.args.machine.now c.has_name.ensures ∙ c.if-not-has_name.true);
}

pub returns-in-Ok : goal.returns-in-Ok
returns-in-Ok g c = λ spent. record {
  is = λ _.
      called_ok g.S.Space.accesses c.args.path.now (map given_of c.args.arguments.items) c.args.machine.now c.evaluate_object.new.self (given_of c.in-Ok.field-0) spent
      (stands_key c.has_name.result c.args.path.now c.args.machine.now c.has_name.ensures ∙ c.if-not-has_name.false) (c.in-Ok.ensures.answer.is tt);
}

pub returns : goal.returns
returns g c = λ spent.
    called_err g.S.Space.accesses c.args.path.now (map given_of c.args.arguments.items) c.args.machine.now c.evaluate_object.new.self c.pass_call_over.new.self c.in-Err.refusal c.pass_call_over.result spent
    (stands_key c.has_name.result c.args.path.now c.args.machine.now c.has_name.ensures ∙ c.if-not-has_name.false) c.in-Err.ensures.answer.is c.pass_call_over.ensures
