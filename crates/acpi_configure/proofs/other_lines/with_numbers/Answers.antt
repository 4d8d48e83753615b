use Rattle.std.proofs.Common.{arith, ◌∙◌, ap, ◌++◌}
use Rattle.route_report.specs.Reports.{ReportedAfter}
use Rattle.acpi_configure.specs.Others.{numbers_at}
use Rattle.acpi_configure.proofs.Asked.{more_numbers, all_numbers}
use Rattle.acpi_configure.proofs.other_lines.with_numbers.Goals as goal

pub loop-line-preserved : goal.loop-line-preserved
loop-line-preserved c =
    more_numbers c.args.avoid.now c.loop-line.list.items _ c.args.asked.now c.loop-line.line-index c.line-item.result c.loop-line.invariant (omega arith) c.line-item.is
    (c.in_ok-extend_from_slice.ensures.items ∙ ap (λ ns. c.loop-line.list.items ++ ns) (c.numbers_at.ensures ∙ ap numbers_at (ap (λ (l : ReportedAfter). l.state) c.line.view_is)))

pub returns : goal.returns
returns c = all_numbers c.args.avoid.now c.loop-line.list.items c.args.asked.now c.loop-line.line-index c.loop-line.invariant (omega arith)
