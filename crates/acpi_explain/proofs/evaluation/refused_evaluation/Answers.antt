use Rattle.std.specs.Prelude.{map}
use Rattle.aml_world.specs.state.Given.{given_of}
use Rattle.acpi_explain.proofs.Halted.{evaluation_told}
use Rattle.acpi_explain.proofs.evaluation.refused_evaluation.Goals as goal

pub returns : goal.returns
returns g c = evaluation_told g.S.Space.accesses c.args.path.now (map given_of c.args.arguments.items) c.args.machine.now c.evaluate_object.new.self c.is_refused.result c.evaluate_object.result c.is_refused.ensures c.evaluate_object.ensures.answer
