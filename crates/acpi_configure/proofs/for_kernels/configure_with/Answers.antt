use Rattle.std.proofs.Common.{inl, ap}
use Rattle.acpi_configure.specs.Options.{RunOptions}
use Rattle.acpi_configure.proofs.Telling.{reported_if, stops_if, not_refused}
use Rattle.acpi_configure.proofs.for_kernels.configure_with.Goals as goal

pub returns-in_err-report-clause-evaluated : goal.returns-in_err-report-clause-evaluated
returns-in_err-report-clause-evaluated g c = inl c.in_err-report.ensures.evaluated

pub returns-clause-report : goal.returns-clause-report
returns-clause-report g c =
    reported_if g.S.Space.accesses c.args.options.now c.args.machine.now _ _ c.in_ok-report.report _ c.tell_if.result (ap (λ (o : RunOptions). o.kernel) c.options.view_is) c.in_ok-report.ensures.report c.tell_if.ensures.value
    c.lines_for_a_kernel_claim_nothing.ensures.readable c.lines_for_a_kernel_claim_nothing.ensures.claim

pub returns-clause-evaluated : goal.returns-clause-evaluated
returns-clause-evaluated g c =
    stops_if g.S.Space.accesses c.args.options.now c.args.machine.now _ _ c.in_ok-report.report _ (ap (λ (o : RunOptions). o.kernel) c.options.view_is) c.in_ok-report.ensures.report c.tell_if.ensures.evaluated

pub returns-clause-refusal : goal.returns-clause-refusal
returns-clause-refusal g c = not_refused _ c.tell_if.result c.tell_if.ensures.memory
