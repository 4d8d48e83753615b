use Rattle.std.proofs.Common.{ap, subst}
use Rattle.std.specs.Prelude.{zip}
use Rattle.acpi_configure.specs.Options.{RunOptions}
use Rattle.acpi_explain.specs.LinkLines.{AreLinksToldUnless}
use Rattle.acpi_explain.proofs.links.explain_links.Goals as goal

pub returns-clause-lines : goal.returns-clause-lines
returns-clause-lines g c = record {
  gathering = c.in_ok-choice.choice.gathered;
  answer = c.in_ok-choice.choice.answer;
  chosen_in = c.choose_with.new.machine;
  choice = c.in_ok-choice.ensures.choice;
  are_told = subst (λ dry. AreLinksToldUnless g.S.Space.accesses c.args.evaluation.steps dry (zip c.in_ok-choice.choice.gathered.links c.in_ok-choice.choice.answer.choice) c.choose_with.new.machine c.choice_texts-text.new.machine c.in_ok-text.field-0.items)
      (ap (λ (o : RunOptions). o.dry) c.options.view_is) c.in_ok-text.ensures;
}
