-- What `route` answers.
use Rattle.std.specs.Prelude.{◌≡◌, ℕ, List, Bool, true, false, Ok, Err, if◌then◌else◌}
use Rattle.std.specs.List.{list_any}
use Rattle.ar_space.specs.Outcome.{Outcome}
use Rattle.acpi_machine.specs.MachineStates.{MachineState, sci_of}
use Rattle.acpi_configure.specs.Options.{RunOptions}
use Rattle.acpi_configure.specs.ForKernels.{IsReportFor}
use Rattle.acpi_configure.specs.WithOptions.{found_by}
use Rattle.ar_tables.specs.declared.mode.Mode.{Mode}
use Rattle.route_report.specs.declared.report.SetLine.{SetLine}
use Rattle.route_report.specs.declared.report.SetOutcome.{SetOutcome}
use Rattle.route_report.specs.declared.report.SetOutcome.TheVariants as outcome
use Rattle.route_report.specs.Readable.{claim_of_report}
use Rattle.route_report.specs.Reading.{claim_of_text}
use Rattle.route_report.specs.Reports.{RoutingReport}
use Rattle.route_report.specs.Printing.{text_of_report}
use Rattle.acpiroute_shell.specs.CheckCommand.{verdict_answer, IsCheckAnswer}
use Rattle.acpiroute_shell.specs.declared.request.Evaluation.{Evaluation}
use Rattle.acpiroute_shell.specs.declared.completion.Completion.{Completion}
use Rattle.acpiroute_shell.specs.declared.completion.Completion.TheVariants.{Done, SettingRefused}
use Rattle.acpiroute_lib.specs.Machines.{Registers, register_accesses, machine_of_text_in}
use Rattle.acpiroute_shell.specs.Written.{Written}

-- whether setting a link was refused
abbrev pub is_refused : SetOutcome → Bool
is_refused outcome.Done = false
is_refused outcome.NoSetting = false
is_refused (outcome.Refused r) = true

abbrev pub completion_of : List SetLine → Completion
completion_of sets = if list_any (λ line. is_refused line.outcome) sets then SettingRefused else Done

-- a report as text
abbrev pub printed : RoutingReport → Written
printed report = record { text = text_of_report report; completion = completion_of report.sets }

-- The text of the report of a machine, where these are the options; `after` is the machine that setting the links leaves, its register
-- space among it. What the text claims is what the report claims, the answer to the machine's problem, and `check` says yes to it.
pub record IsReportOf (o : RunOptions) (m : MachineState Registers) (w : Written) : Type 0 where
  pub report : RoutingReport
  pub after : MachineState Registers
  pub is_report : IsReportFor register_accesses o m after report
  pub is_text : w ≡ printed report
  pub is_read_back : claim_of_text w.text ≡ Ok (claim_of_report report)
  pub is_checked : (r : Outcome Written) → IsCheckAnswer w.text r → r ≡ Ok (verdict_answer (Ok tt))

-- the report, or the refusal of what it has to find
abbrev pub IsRouted : RunOptions → MachineState Registers → Outcome Written → Type 0
IsRouted o m (Ok w) = IsReportOf o m w
IsRouted o m (Err e) = (found_by register_accesses o (sci_of m) m).0 ≡ Err e

-- a machine that is refused has no report
abbrev pub IsRoutedOn : RunOptions → Outcome (MachineState Registers) → Outcome Written → Type 0
IsRoutedOn o (Ok m) r = IsRouted o m r
IsRoutedOn o (Err e) r = r ≡ Err e

-- what `route` answers over a machine text, in this mode, its AML evaluated like this, and with these options
abbrev pub IsRouteAnswer : Mode → Evaluation → RunOptions → List ℕ → Outcome Written → Type 0
IsRouteAnswer mode evaluation o text r = IsRoutedOn o (machine_of_text_in mode evaluation text) r
