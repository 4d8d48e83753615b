use Rattle.std.proofs.Common.{◌≡◌, ◌≤◌, length, map, ap, sym, subst, ◌∙◌, arith}
use Rattle.std.specs.Prelude.{Contains}
use Rattle.std.specs.List.{AllZip}
use Rattle.acpi_machine.proofs.Stopping.{stops_first}
use Rattle.acpi_links.specs.Gatherings.{Gathering}
use Rattle.acpi_links.specs.Problems.{pin_counts}
use Rattle.acpi_configure.specs.Chosen.{IsChosen}
use Rattle.acpi_configure.specs.Options.{RunOptions}
use Rattle.acpi_configure.specs.Others.{barred_if}
use Rattle.acpi_configure.specs.WithOptions.{Findings}
use Rattle.acpi_configure.proofs.Claims.{Bounded, Laws}
use Rattle.acpi_configure.proofs.Fitting.{chosen_fits}
use Rattle.acpi_configure.proofs.Placed.{placed, chosen_for_each}
use Rattle.acpi_configure.proofs.Reported.{reported_with, memory, told, offers_told}
use Rattle.acpi_configure.proofs.Settled.{chosen_each, offered_each}
use Rattle.acpi_configure.proofs.Stopped.{behind_choice, does_as, stops_as}
use Rattle.acpi_configure.proofs.configuring.configure_plainly.Goals as goal

pub all_lines-requires-clause-each : goal.all_lines-requires-clause-each
all_lines-requires-clause-each g c =
    let problem = c.problem.ensures ∙ ap (λ (f : Findings). f.gathering.problem) c.found.view_is in
    chosen_for_each c.in_ok-found.found.gathering.problem c.in_ok-answer.answer (chosen_fits _ _ _ (subst (λ p. IsChosen c.options.inside.spread p c.in_ok-answer.answer) problem c.in_ok-answer.ensures.chosen))

pub all_lines-requires-clause-placed : goal.all_lines-requires-clause-placed
all_lines-requires-clause-placed g c =
    let problem = c.problem.ensures ∙ ap (λ (f : Findings). f.gathering.problem) c.found.view_is in
    placed c.in_ok-found.found.gathering.problem c.in_ok-answer.answer (chosen_fits _ _ _ (subst (λ p. IsChosen c.options.inside.spread p c.in_ok-answer.answer) problem c.in_ok-answer.ensures.chosen))

pub settle_answer-requires-clause-each : goal.settle_answer-requires-clause-each
settle_answer-requires-clause-each g c =
    let problem = c.problem.ensures ∙ ap (λ (f : Findings). f.gathering.problem) c.found.view_is in
    subst (λ (found : Gathering). length c.in_ok-answer.answer.choice ≡ length found.links) (sym (ap (λ (f : Findings). f.gathering) c.found.view_is))
    (chosen_each (barred_if c.args.options.now.spare c.args.options.now.avoid c.in_ok-found.found.asked) _ c.in_ok-found.found.gathering c.in_ok-answer.answer c.in_ok-found.ensures.posed
    (chosen_fits _ _ _ (subst (λ p. IsChosen c.options.inside.spread p c.in_ok-answer.answer) problem c.in_ok-answer.ensures.chosen)))

pub settle_answer-requires-clause-offered : goal.settle_answer-requires-clause-offered
settle_answer-requires-clause-offered g c =
    let problem = c.problem.ensures ∙ ap (λ (f : Findings). f.gathering.problem) c.found.view_is in
    subst (λ (found : Gathering). AllZip Contains (map (λ link. link.1.numbers) found.links) c.in_ok-answer.answer.choice) (sym (ap (λ (f : Findings). f.gathering) c.found.view_is))
    (offered_each (barred_if c.args.options.now.spare c.args.options.now.avoid c.in_ok-found.found.asked) _ c.in_ok-found.found.gathering c.in_ok-answer.answer c.in_ok-found.ensures.posed
    (chosen_fits _ _ _ (subst (λ p. IsChosen c.options.inside.spread p c.in_ok-answer.answer) problem c.in_ok-answer.ensures.chosen)))

pub returns-in_err-settings-clause-refusal : goal.returns-in_err-settings-clause-refusal
returns-in_err-settings-clause-refusal g c = memory _ _ _ c.in_err-settings.ensures.memory c.from_residual-in_err-settings.ensures

pub returns-clause-report : goal.returns-clause-report
returns-clause-report g c =
    let a = c.in_ok-answer.answer in
    let found = c.in_ok-found.found in
    let laws : Laws = record {
      claims = c.an_assignment_with_its_bound_is_valid.ensures;
      order = c.the_claim_of_an_assignment_is_in_order.ensures;
      stays = c.a_claim_in_order_stays.ensures;
      pins = c.as_many_sources_are_wired_as_pins.ensures.pins;
      sources = c.as_many_sources_are_wired_as_pins.ensures.sources;
      ascent = c.pins_are_counted_in_order.ensures.ascend;
      sets = c.the_numbers_of_a_set_ascend.ensures;
    } in
    let problem = c.problem.ensures ∙ ap (λ (f : Findings). f.gathering.problem) c.found.view_is in
    let spread = ap (λ (o : RunOptions). o.spread) c.options.view_is in
    let dry = ap (λ (o : RunOptions). o.dry) c.options.view_is in
    let gathering = ap (λ (f : Findings). f.gathering) c.found.view_is in
    let few : length (pin_counts found.gathering.pins) ≤ 4096 = (let few_pins = c.in_ok-found.ensures.few_pins in let few_counts = c.pins_are_counted_in_order.ensures.few found.gathering.pins in omega arith) in
    reported_with g.S.Space.accesses c.args.options.now c.args.machine.now _ laws found a _ _ _ _
    c.sci-sci.ensures c.in_ok-found.ensures.value c.in_ok-found.ensures.posed c.in_ok-found.ensures.fits few c.in_ok-found.ensures.unasked
    (offers_told c.in_ok-report.report _ c.in_ok-report.ensures.lines c.in_ok-report.ensures.offers)
    (subst (λ b. IsChosen b found.gathering.problem a) spread (subst (λ p. IsChosen c.options.inside.spread p a) problem c.in_ok-answer.ensures.chosen)) (subst (λ p. Bounded p a) problem c.in_ok-answer.ensures.bound)
    (does_as g.S.Space.accesses _ _ _ _ a.choice dry gathering c.in_ok-settings.ensures.value)
    (c.with_settings.ensures ∙ told c.in_ok-report.report _ _ c.in_ok-report.ensures.lines)

pub returns-in_err-found-clause-evaluated : goal.returns-in_err-found-clause-evaluated
returns-in_err-found-clause-evaluated g c = stops_first c.in_err-found.ensures.evaluated

pub returns-in_err-answer-clause-evaluated : goal.returns-in_err-answer-clause-evaluated
returns-in_err-answer-clause-evaluated g c = stops_first c.in_ok-found.ensures.evaluated

pub returns-in_err-report-clause-evaluated : goal.returns-in_err-report-clause-evaluated
returns-in_err-report-clause-evaluated g c = stops_first c.in_ok-found.ensures.evaluated

pub returns-in_err-settings-clause-evaluated : goal.returns-in_err-settings-clause-evaluated
returns-in_err-settings-clause-evaluated g c =
    let a = c.in_ok-answer.answer in
    let problem = c.problem.ensures ∙ ap (λ (f : Findings). f.gathering.problem) c.found.view_is in
    let spread = ap (λ (o : RunOptions). o.spread) c.options.view_is in
    let dry = ap (λ (o : RunOptions). o.dry) c.options.view_is in
    let gathering = ap (λ (f : Findings). f.gathering) c.found.view_is in
    behind_choice g.S.Space.accesses c.args.options.now c.args.machine.now _ _ _ c.in_ok-found.found a c.sci-sci.ensures c.in_ok-found.ensures.value
    (subst (λ b. IsChosen b c.in_ok-found.found.gathering.problem a) spread (subst (λ p. IsChosen c.options.inside.spread p a) problem c.in_ok-answer.ensures.chosen))
    (stops_as g.S.Space.accesses _ _ _ _ _ _ a.choice dry gathering c.in_err-settings.ensures.evaluated)

pub returns-clause-evaluated : goal.returns-clause-evaluated
returns-clause-evaluated g c =
    let a = c.in_ok-answer.answer in
    let problem = c.problem.ensures ∙ ap (λ (f : Findings). f.gathering.problem) c.found.view_is in
    let spread = ap (λ (o : RunOptions). o.spread) c.options.view_is in
    let dry = ap (λ (o : RunOptions). o.dry) c.options.view_is in
    let gathering = ap (λ (f : Findings). f.gathering) c.found.view_is in
    behind_choice g.S.Space.accesses c.args.options.now c.args.machine.now _ _ _ c.in_ok-found.found a c.sci-sci.ensures c.in_ok-found.ensures.value
    (subst (λ b. IsChosen b c.in_ok-found.found.gathering.problem a) spread (subst (λ p. IsChosen c.options.inside.spread p a) problem c.in_ok-answer.ensures.chosen))
    (stops_as g.S.Space.accesses _ _ _ _ _ _ a.choice dry gathering c.in_ok-settings.ensures.evaluated)
