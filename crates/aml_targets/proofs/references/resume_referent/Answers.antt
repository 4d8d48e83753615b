use Rattle.std.specs.Prelude.{Ok}
use Rattle.std.proofs.Common.{◌∙◌, ap}
use Rattle.aml_world.specs.declared.values.object_type.Referent.{Referent}
use Rattle.aml_targets.proofs.references.resume_referent.Goals as goal

pub returns-clause-memory : goal.returns-clause-memory
returns-clause-memory g c none =
    let here = rw (← c.run.view_is) at none in
    c.inquire.ensures.memory (λ field e. here c.in_ok-value.value field (c.in_ok-value.ensures.answer.is tt) (ap (λ x. x.0) (c.in_ok-referent.ensures.change.is tt) ∙ ap (λ (r : Referent). Ok r) e))
