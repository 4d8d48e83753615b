use Rattle.aml_world.specs.state.Given.{given_of}
use Rattle.acpi_explain.proofs.end.eval_end.Goals as goal

pub returns-in-Ok-evaluate_object : goal.returns-in-Ok-evaluate_object
returns-in-Ok-evaluate_object g c = (c.initialize.new.self, (c.in-Ok.ensures.answer.is tt, (given_of c.in-Ok-evaluate_object.field-0, c.in-Ok-evaluate_object.ensures.answer.is tt)))

pub returns : goal.returns
returns g c = λ ne. (c.initialize.new.self, (c.in-Ok.ensures.answer.is tt, c.in-Err-evaluate_object.ensures.answer.is ne))
