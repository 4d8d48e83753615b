use Rattle.std.proofs.Common.{ap, sym}
use Rattle.acpi_configure.specs.Options.{RunOptions}
use Rattle.acpi_configure.proofs.Stopped.{behind_links, in_links}
use Rattle.acpi_configure.proofs.finding.find.Goals as goal

pub returns-in_err-first-clause-evaluated : goal.returns-in_err-first-clause-evaluated
returns-in_err-first-clause-evaluated g c = in_links g.S.Space.accesses c.args.options.now _ (sym (ap (λ (o : RunOptions). o.avoid) c.options.view_is)) c.in_err-first.ensures.evaluated

pub returns-in_err-asked-clause-evaluated : goal.returns-in_err-asked-clause-evaluated
returns-in_err-asked-clause-evaluated g c =
    behind_links g.S.Space.accesses c.args.options.now _ _ _ _ _ c.in_ok-first.first _ (sym (ap (λ (o : RunOptions). o.avoid) c.options.view_is)) (sym (ap (λ (o : RunOptions). o.spare) c.options.view_is)) c.links.ensures c.in_ok-first.ensures.value c.in_err-asked.ensures.evaluated

pub returns-in_err-gathered-clause-evaluated : goal.returns-in_err-gathered-clause-evaluated
returns-in_err-gathered-clause-evaluated g c =
    behind_links g.S.Space.accesses c.args.options.now _ _ _ _ _ c.in_ok-first.first _ (sym (ap (λ (o : RunOptions). o.avoid) c.options.view_is)) (sym (ap (λ (o : RunOptions). o.spare) c.options.view_is)) c.links.ensures c.in_ok-first.ensures.value c.in_ok-asked.ensures.evaluated

pub returns-clause-evaluated : goal.returns-clause-evaluated
returns-clause-evaluated g c =
    behind_links g.S.Space.accesses c.args.options.now _ _ _ _ _ c.in_ok-first.first _ (sym (ap (λ (o : RunOptions). o.avoid) c.options.view_is)) (sym (ap (λ (o : RunOptions). o.spare) c.options.view_is)) c.links.ensures c.in_ok-first.ensures.value c.in_ok-asked.ensures.evaluated
