-- A report with lines for a kernel.
use Rattle.std.specs.Prelude.{List, [], Option, Some, None}
use Rattle.route_report.specs.declared.report.Rule.TheVariants as rule
use Rattle.route_report.specs.declared.report.TriggerLine.{TriggerLine}
use Rattle.route_report.specs.declared.report.BusLine.{BusLine}
use Rattle.route_report.specs.Reports.{ReportedOptions, RoutingReport}

-- what options add, with these lines
abbrev pub kernel_options : Option ReportedOptions → List TriggerLine → List BusLine → ReportedOptions
kernel_options None triggers buses = record { spared = []; unread = []; rule = rule.First; triggers = triggers; buses = buses }
kernel_options (Some o) triggers buses = record o { triggers = triggers; buses = buses }

abbrev pub with_kernel_lines : RoutingReport → List TriggerLine → List BusLine → RoutingReport
with_kernel_lines r triggers buses = record r { options = Some (kernel_options r.options triggers buses) }
