use Rattle.std.proofs.Common.{◌∙◌, ap, sym}
use Rattle.aml_path.specs.Text.{path_of_text}
use Rattle.acpiroute_lib.proofs.Staged.{named_some, named_refused}
use Rattle.acpiroute_lib.proofs.refused_stage.named_stage.Goals as goal

pub returns-in-Ok : goal.returns-in-Ok
returns-in-Ok c = named_some (path_of_text c.args.path.now) c.in-Ok.path (ap path_of_text (sym c.as_bytes.ensures.value) ∙ c.in-Ok.ensures.is tt)

pub returns-in-Err : goal.returns-in-Err
returns-in-Err c =
    named_refused c.in-Err.refusal (path_of_text c.args.path.now) c.no_stage.result (λ ne. ap path_of_text (sym c.as_bytes.ensures.value) ∙ c.in-Err.ensures.is ne) c.no_stage.ensures.other c.no_stage.ensures.none
