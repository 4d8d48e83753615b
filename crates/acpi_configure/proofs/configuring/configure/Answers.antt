use Rattle.std.proofs.Common.{◌≤◌, length, subst, ◌∙◌, arith}
use Rattle.acpi_machine.proofs.Stopping.{stops_first}
use Rattle.acpi_links.specs.Problems.{pin_counts}
use Rattle.acpi_configure.specs.Configured.{Solves}
use Rattle.acpi_configure.proofs.Claims.{Bounded, Laws}
use Rattle.acpi_configure.proofs.Fitting.{solved_fits}
use Rattle.acpi_configure.proofs.Placed.{placed, chosen_for_each}
use Rattle.acpi_configure.proofs.Reported.{reported, memory, told, offers_told}
use Rattle.acpi_configure.proofs.Settled.{chosen_each, offered_each}
use Rattle.acpi_configure.proofs.Stopped.{behind_answer}
use Rattle.acpi_configure.proofs.configuring.configure.Goals as goal

pub report_of-requires-clause-each : goal.report_of-requires-clause-each
report_of-requires-clause-each g c =
    chosen_for_each c.in_ok-gathered.gathered.problem c.in_ok-answer.answer (solved_fits _ _ (subst (λ p. Solves p c.in_ok-answer.answer) c.problem.ensures c.in_ok-answer.ensures.solves))

pub report_of-requires-clause-placed : goal.report_of-requires-clause-placed
report_of-requires-clause-placed g c =
    placed c.in_ok-gathered.gathered.problem c.in_ok-answer.answer (solved_fits _ _ (subst (λ p. Solves p c.in_ok-answer.answer) c.problem.ensures c.in_ok-answer.ensures.solves))

pub settle_answer-requires-clause-each : goal.settle_answer-requires-clause-each
settle_answer-requires-clause-each g c =
    chosen_each c.args.avoid.now _ c.in_ok-gathered.gathered c.in_ok-answer.answer c.in_ok-gathered.ensures.posed (solved_fits _ _ (subst (λ p. Solves p c.in_ok-answer.answer) c.problem.ensures c.in_ok-answer.ensures.solves))

pub settle_answer-requires-clause-offered : goal.settle_answer-requires-clause-offered
settle_answer-requires-clause-offered g c =
    offered_each c.args.avoid.now _ c.in_ok-gathered.gathered c.in_ok-answer.answer c.in_ok-gathered.ensures.posed (solved_fits _ _ (subst (λ p. Solves p c.in_ok-answer.answer) c.problem.ensures c.in_ok-answer.ensures.solves))

pub returns-in_err-settings-clause-refusal : goal.returns-in_err-settings-clause-refusal
returns-in_err-settings-clause-refusal g c = memory _ _ _ c.in_err-settings.ensures.memory c.from_residual-in_err-settings.ensures

pub returns-clause-report : goal.returns-clause-report
returns-clause-report g c =
    let a = c.in_ok-answer.answer in
    let found = c.in_ok-gathered.gathered in
    let laws : Laws = record {
      claims = c.an_assignment_with_its_bound_is_valid.ensures;
      order = c.the_claim_of_an_assignment_is_in_order.ensures;
      stays = c.a_claim_in_order_stays.ensures;
      pins = c.as_many_sources_are_wired_as_pins.ensures.pins;
      sources = c.as_many_sources_are_wired_as_pins.ensures.sources;
      ascent = c.pins_are_counted_in_order.ensures.ascend;
      sets = c.the_numbers_of_a_set_ascend.ensures;
    } in
    let few : length (pin_counts found.pins) ≤ 4096 = (let few_pins = c.in_ok-gathered.ensures.few_pins in let few_counts = c.pins_are_counted_in_order.ensures.few found.pins in omega arith) in
    reported g.S.Space.accesses c.args.avoid.now c.args.machine.now _ laws c.args.dry found a _ _ _ _
    c.in_ok-gathered.ensures.value c.in_ok-gathered.ensures.posed c.in_ok-gathered.ensures.fits few
    (offers_told c.in_ok-report.report _ c.in_ok-report.ensures.lines c.in_ok-report.ensures.offers)
    (subst (λ p. Solves p a) c.problem.ensures c.in_ok-answer.ensures.solves) (subst (λ p. Bounded p a) c.problem.ensures c.in_ok-answer.ensures.bound)
    c.in_ok-settings.ensures.value
    (c.with_settings.ensures ∙ told c.in_ok-report.report _ _ c.in_ok-report.ensures.lines) c.sci-sci.ensures

pub returns-in_err-gathered-clause-evaluated : goal.returns-in_err-gathered-clause-evaluated
returns-in_err-gathered-clause-evaluated g c = stops_first c.in_err-gathered.ensures.evaluated

pub returns-in_err-answer-clause-evaluated : goal.returns-in_err-answer-clause-evaluated
returns-in_err-answer-clause-evaluated g c = stops_first c.in_ok-gathered.ensures.evaluated

pub returns-in_err-report-clause-evaluated : goal.returns-in_err-report-clause-evaluated
returns-in_err-report-clause-evaluated g c = stops_first c.in_ok-gathered.ensures.evaluated

pub returns-in_err-settings-clause-evaluated : goal.returns-in_err-settings-clause-evaluated
returns-in_err-settings-clause-evaluated g c =
    behind_answer g.S.Space.accesses c.args.avoid.now c.args.machine.now _ _ c.args.dry c.in_ok-gathered.gathered c.in_ok-answer.answer c.in_ok-gathered.ensures.value (subst (λ p. Solves p c.in_ok-answer.answer) c.problem.ensures c.in_ok-answer.ensures.solves) c.in_err-settings.ensures.evaluated

pub returns-clause-evaluated : goal.returns-clause-evaluated
returns-clause-evaluated g c =
    behind_answer g.S.Space.accesses c.args.avoid.now c.args.machine.now _ _ c.args.dry c.in_ok-gathered.gathered c.in_ok-answer.answer c.in_ok-gathered.ensures.value (subst (λ p. Solves p c.in_ok-answer.answer) c.problem.ensures c.in_ok-answer.ensures.solves) c.in_ok-settings.ensures.evaluated
