use Rattle.std.proofs.Common.{◌≡◌, length, map, ap, sym, subst, ◌∙◌}
use Rattle.std.specs.Prelude.{Contains, Ok}
use Rattle.std.specs.List.{AllZip}
use Rattle.acpi_links.specs.Gatherings.{Gathering}
use Rattle.acpi_configure.specs.Chosen.{IsChosen}
use Rattle.acpi_configure.specs.Options.{RunOptions}
use Rattle.acpi_configure.specs.Others.{barred_if}
use Rattle.acpi_configure.specs.WithOptions.{Findings, found_by}
use Rattle.acpi_configure.proofs.Fitting.{chosen_fits}
use Rattle.acpi_configure.proofs.Settled.{chosen_each, offered_each}
use Rattle.acpi_configure.proofs.choice.choose_with.Goals as goal

pub returns-clause-choice : goal.returns-clause-choice
returns-clause-choice g c =
    let a = c.in_ok-answer.answer in
    let found = c.in_ok-found.found in
    record {
      found = found;
      is_found = subst (λ sci. found_by g.S.Space.accesses c.args.options.now sci c.args.machine.now ≡ (Ok found, c.find.new.machine)) c.sci-sci.ensures (c.in_ok-found.ensures.value.is tt);
      is_gathering = sym (ap (λ (f : Findings). f.gathering) c.found.view_is);
      chosen = subst (λ b. IsChosen b c.found.inside.gathered.problem a) (ap (λ (o : RunOptions). o.spread) c.options.view_is) (subst (λ p. IsChosen c.options.inside.spread p a) c.problem.ensures c.in_ok-answer.ensures.chosen);
    }

pub returns-clause-each : goal.returns-clause-each
returns-clause-each g c =
    let problem = c.problem.ensures ∙ ap (λ (f : Findings). f.gathering.problem) c.found.view_is in
    subst (λ (found : Gathering). length c.in_ok-answer.answer.choice ≡ length found.links) (sym (ap (λ (f : Findings). f.gathering) c.found.view_is))
    (chosen_each (barred_if c.args.options.now.spare c.args.options.now.avoid c.in_ok-found.found.asked) _ c.in_ok-found.found.gathering c.in_ok-answer.answer c.in_ok-found.ensures.posed
    (chosen_fits _ _ _ (subst (λ p. IsChosen c.options.inside.spread p c.in_ok-answer.answer) problem c.in_ok-answer.ensures.chosen)))

pub returns-clause-offered : goal.returns-clause-offered
returns-clause-offered g c =
    let problem = c.problem.ensures ∙ ap (λ (f : Findings). f.gathering.problem) c.found.view_is in
    subst (λ (found : Gathering). AllZip Contains (map (λ link. link.1.numbers) found.links) c.in_ok-answer.answer.choice) (sym (ap (λ (f : Findings). f.gathering) c.found.view_is))
    (offered_each (barred_if c.args.options.now.spare c.args.options.now.avoid c.in_ok-found.found.asked) _ c.in_ok-found.found.gathering c.in_ok-answer.answer c.in_ok-found.ensures.posed
    (chosen_fits _ _ _ (subst (λ p. IsChosen c.options.inside.spread p c.in_ok-answer.answer) problem c.in_ok-answer.ensures.chosen)))
