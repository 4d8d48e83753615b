use Rattle.std.proofs.Common.{◌∙◌, ap, refl, subst}
use Rattle.std.specs.Prelude.{Some}
use Rattle.acpi_explain.specs.Explaining.{IsExplanation}
use Rattle.acpi_explain.specs.Told.{shown_access}
use Rattle.acpi_explain.proofs.links.explained.Goals as goal

pub returns : goal.returns
returns g c = record {
  explanation = c.in_ok-why.why;
  is_explanation = subst (λ last. IsExplanation c.args.refusal (Some c.args.stage) (shown_access c.args.refusal last) c.args.evaluation.steps c.in_ok-why.why) (c.last-last.ensures ∙ ap (λ w. w.last) c.space.ensures) c.in_ok-why.ensures;
  is = refl;
}
