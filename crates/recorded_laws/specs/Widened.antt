-- Runs in the wide profile, and which runs in the core one leave nothing out.
use Rattle.std.specs.Prelude.{◌≡◌, ◌⊎◌, true, Ok, Err}
use Rattle.ar_space.specs.Outcome.{Outcome}
use Rattle.ar_space.specs.declared.refusal.Refusal.{Refusal}
use Rattle.aml_world.specs.declared.state.profile.Profile.TheVariants as profile
use Rattle.aml_world.specs.state.PassedOver.{is_passable}
use Rattle.acpi_machine.specs.MachineStates.{MachineState}
use Rattle.acpi_configure.specs.Options.{RunOptions}
use Rattle.route_report.specs.Reports.{RoutingReport}
use Rattle.recorded_route.specs.declared.settings.Settings.{Settings}
use Rattle.acpiroute_shell.specs.Written.{Written}
use Rattle.acpiroute_shell.specs.declared.request.Evaluation.{Evaluation}
use Rattle.acpiroute_lib.specs.Machines.{Registers}
use Rattle.acpiroute_lib.specs.RouteCommand.{IsReportOf}
use Rattle.machine_laws.specs.Widened.{Withheld, TellsNothingLeftOut}

-- the same settings in the wide profile
abbrev pub settings_widened : Settings → Settings
settings_widened settings = record { evaluation = record settings.evaluation { profile = profile.Wide }; mode = settings.mode; steps = settings.steps; dry = settings.dry; kernel = settings.kernel }

-- a refusal of what the core profile leaves out, or one that the wide profile passes over at module level
abbrev pub IsLeftOrPassed : Refusal → Type 0
IsLeftOrPassed e = Withheld e ⊎ (is_passable e ≡ true)

-- a run comes out with a report that tells of nothing left out, or with a refusal of something else
abbrev pub LeavesNothingOut : Outcome RoutingReport → Type 0
LeavesNothingOut (Ok report) = TellsNothingLeftOut report
LeavesNothingOut (Err e) = IsLeftOrPassed e → ⊥

-- ---- the program

-- the same evaluation in the wide profile
abbrev pub evaluation_widened : Evaluation → Evaluation
evaluation_widened evaluation = record { settings = record evaluation.settings { profile = profile.Wide }; steps = evaluation.steps; accesses = evaluation.accesses }

-- a text is that of a report of a machine, and no line of it tells of what the profile leaves out
abbrev pub IsWholeReport : RunOptions → Outcome (MachineState Registers) → Written → Type 0
IsWholeReport o (Ok m) w = (is : IsReportOf o m w) × TellsNothingLeftOut is.report
IsWholeReport o (Err e) w = ⊥
