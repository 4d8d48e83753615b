use Rattle.std.specs.Prelude.{map, Some}
use Rattle.aml_world.specs.state.Given.{given_of}
use Rattle.acpi_machine.specs.Calls.{evaluated_object}
use Rattle.acpi_explain.specs.declared.told.Phase.TheVariants.{Running}
use Rattle.acpiroute_lib.specs.RunEnds.{dropped}
use Rattle.acpiroute_lib.proofs.Endings.{stopped, refused, answered, evaluation_done}
use Rattle.acpiroute_lib.proofs.Phases.{phase_stopped, phase_running}
use Rattle.acpiroute_lib.proofs.machine_end.evaluate_path.Goals as goal

pub returns-in-Initializing-clause-run : goal.returns-in-Initializing-clause-run
returns-in-Initializing-clause-run g c =
    stopped g.S.Space.accesses c.args.mode c.args.machine.now c.eval_end.new.machine (λ s. dropped (evaluated_object g.S.Space.accesses c.args.path.now (map given_of c.args.arguments.items) s)) c.in-Initializing.ensures

pub returns-in-Running-clause-run : goal.returns-in-Running-clause-run
returns-in-Running-clause-run g c = refused g.S.Space.accesses c.args.mode c.args.machine.now c.eval_end.new.machine (evaluated_object g.S.Space.accesses c.args.path.now (map given_of c.args.arguments.items)) c.in-Running.ensures

pub returns-clause-run : goal.returns-clause-run
returns-clause-run g c = answered g.S.Space.accesses c.args.mode c.args.machine.now c.eval_end.new.machine (evaluated_object g.S.Space.accesses c.args.path.now (map given_of c.args.arguments.items))
    (evaluation_done g.S.Space.accesses c.args.mode c.args.path.now (map given_of c.args.arguments.items) c.args.machine.now c.eval_end.new.machine c.in-Done.field-0 c.in-Done.ensures)

pub returns-in-Initializing-clause-phase : goal.returns-in-Initializing-clause-phase
returns-in-Initializing-clause-phase g c = phase_stopped g.S.Space.accesses c.args.mode c.args.machine.now c.eval_end.new.machine (Some Running) c.in-Initializing.ensures

pub returns-in-Running-clause-phase : goal.returns-in-Running-clause-phase
returns-in-Running-clause-phase g c =
    phase_running g.S.Space.accesses c.args.mode c.args.machine.now c.eval_end.new.machine (Some Running) (evaluated_object g.S.Space.accesses c.args.path.now (map given_of c.args.arguments.items)) c.in-Running.ensures
