-- A run's report is one without lines for a kernel, and what is told behind it.
use Rattle.std.specs.Prelude.{◌≡◌, ℕ, List, false, Ok}
use Rattle.ar_space.specs.Accesses.{Accesses}
use Rattle.acpi_machine.specs.MachineStates.{MachineState}
use Rattle.acpi_configure.specs.Configured.{IsReport}
use Rattle.acpi_configure.specs.ForKernels.{told_if, IsReportFor}
use Rattle.acpi_configure.specs.Options.{plain}
use Rattle.acpi_configure.proofs.Plain.{as_configured, as_without}
use Rattle.route_report.specs.Readable.{IsReadable, claim_of_report}
use Rattle.route_report.specs.Reports.{RoutingReport}
use Rattle.recorded_route.specs.declared.settings.Settings.{Settings}
use Rattle.recorded_route.specs.Runs.{options_of}
use Rattle.machine_laws.proofs.KernelRuns.{whichever}

module _ {S : Type 0} (accesses : Accesses S) (settings : Settings) (avoid : List ℕ) where
  pub plain_report : (m after : MachineState S) (r : RoutingReport) (is : IsReportFor accesses (options_of settings avoid) m after r) → IsReport accesses settings.dry avoid m is.configured is.plain
  plain_report m after r is = as_configured accesses settings.dry avoid m is.configured is.plain (whichever accesses false (options_of settings avoid) m is.configured is.plain is.is_plain)

  pub report_behind : (m configured after : MachineState S) (before r : RoutingReport) → IsReport accesses settings.dry avoid m configured before → told_if accesses settings.kernel before configured ≡ (Ok r, after) → IsReadable r → claim_of_report r ≡ claim_of_report before
      → IsReportFor accesses (options_of settings avoid) m after r
  report_behind m configured after before r is told readable claims = record {
    plain = before;
    configured = configured;
    is_plain = whichever accesses settings.kernel (plain settings.dry avoid) m configured before (as_without accesses settings.dry avoid m configured before is);
    is_told = told;
    readable = readable;
    claims = claims;
  }
