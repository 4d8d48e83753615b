use Rattle.std.proofs.Common.{◌∙◌, ap, refl, sym}
use Rattle.std.specs.Prelude.{map, Some}
use Rattle.aml_path.specs.Text.{path_of_text}
use Rattle.aml_world.specs.state.Given.{given_of}
use Rattle.acpi_explain.specs.declared.told.Phase.TheVariants.{Running}
use Rattle.acpiroute_lib.proofs.Endings.{named, bad_name}
use Rattle.acpiroute_lib.proofs.Phases.{phase_named, phase_unnamed}
use Rattle.acpiroute_lib.proofs.machine_end.evaluate_machine.Goals as goal

pub returns-in-Ok-data-clause-run : goal.returns-in-Ok-data-clause-run
returns-in-Ok-data-clause-run g c =
    named g.S.Space.accesses c.args.mode c.args.machine.now c.evaluate_path.new.machine c.args.path.now c.args.arguments.now c.in-Ok.path (map given_of c.in-Ok-data.arguments.items) c.evaluate_path.result
    (ap path_of_text (sym c.as_bytes.ensures.value) ∙ c.in-Ok.ensures.is tt) c.in-Ok-data.ensures c.evaluate_path.ensures.run

pub returns-clause-run : goal.returns-clause-run
returns-clause-run g c =
    bad_name g.S.Space.accesses c.args.mode c.args.machine.now c.refuse_path.new.machine c.args.path.now c.args.arguments.now c.in-Err.refusal c.refuse_path.result
    (λ ne. ap path_of_text (sym c.as_bytes.ensures.value) ∙ c.in-Err.ensures.is ne) c.refuse_path.ensures.run

pub returns-in-Ok-data-clause-phase : goal.returns-in-Ok-data-clause-phase
returns-in-Ok-data-clause-phase g c =
    phase_named g.S.Space.accesses c.args.mode c.args.machine.now c.args.path.now c.in-Ok.path (Some Running) c.evaluate_path.result (ap path_of_text (sym c.as_bytes.ensures.value) ∙ c.in-Ok.ensures.is tt) refl c.evaluate_path.ensures.phase

pub returns-clause-phase : goal.returns-clause-phase
returns-clause-phase g c =
    phase_unnamed g.S.Space.accesses c.args.mode c.args.machine.now c.refuse_path.new.machine c.args.path.now c.in-Err.refusal c.refuse_path.result (λ ne. ap path_of_text (sym c.as_bytes.ensures.value) ∙ c.in-Err.ensures.is ne) c.refuse_path.ensures.run
    c.refuse_path.ensures.phase
