-- What a kernel wants of a report: how interrupts are triggered, and which bus each routing table is for.
use Rattle.std.specs.Prelude.{◌≡◌, ℕ, List, [], ◌∷◌, ◌++◌, filter, Bool, true, false, Option, Ok, Err}
use Rattle.ar_space.specs.Accesses.{Accesses}
use Rattle.ar_space.specs.Numbers.{number_of}
use Rattle.ar_space.specs.Outcome.{Outcome}
use Rattle.ar_space.specs.Change.{Change, give, ◌>>=◌}
use Rattle.ar_tables.specs.Fadts.{sci_interrupt}
use Rattle.aml_path.specs.declared.segment.Seg.{Seg}
use Rattle.acpi_machine.specs.declared.buses.PciBus.{PciBus}
use Rattle.acpi_machine.specs.Buses.{prt, bus_found}
use Rattle.acpi_machine.specs.Children.{has_child}
use Rattle.acpi_machine.specs.MachineStates.{MachineState}
use Rattle.acpi_links.specs.Devices.{devices}
use Rattle.acpi_links.specs.Folds.{folded}
use Rattle.route_report.specs.declared.report.BusLine.{BusLine}
use Rattle.route_report.specs.declared.report.BusState.{BusState}
use Rattle.route_report.specs.declared.report.BusState.TheVariants as bus
use Rattle.route_report.specs.ForKernels.{with_kernel_lines}
use Rattle.route_report.specs.Readable.{IsReadable, claim_of_report}
use Rattle.route_report.specs.Reports.{RoutingReport}
use Rattle.acpi_configure.specs.Options.{RunOptions}
use Rattle.acpi_configure.specs.Settling.{attempted}
use Rattle.acpi_configure.specs.Triggers.{triggers_of}
use Rattle.acpi_configure.specs.WithOptions.{IsReportWith}

-- the devices that have a routing table, in path order
abbrev pub has_table : {S : Type 0} → MachineState S → List Seg → Bool
has_table s p = has_child p prt s

unfoldable pub devices_with_tables : {S : Type 0} → MachineState S → List (List Seg)
devices_with_tables s = filter (has_table s) (devices s)

-- the bus, or the number of the refusal
abbrev pub bus_told : Outcome PciBus → BusState
bus_told (Ok b) = bus.Known b.segment b.bus
bus_told (Err e) = bus.Refused (number_of e)

-- accesses: what the register space makes of them
module _ {S : Type 0} (accesses : Accesses S) where
  -- a refusal is told, and the next device follows
  unfoldable pub bus_asked : List Seg → Change (MachineState S) BusLine
  bus_asked device = do
    state ← attempted bus_told (bus_found accesses device)
    give (record { device = device; state = state })

  abbrev pub buses_asked : List (List Seg) → Change (MachineState S) (List BusLine)
  buses_asked list = folded (λ done line. done ++ line ∷ []) bus_asked list []

  -- own: the source of the System Control Interrupt, before an override
  unfoldable pub lines_told : List (List Seg) → ℕ → RoutingReport → Change (MachineState S) RoutingReport
  lines_told list own r = do
    buses ← buses_asked list
    give (with_kernel_lines r (triggers_of own r) buses)

  -- a report with the lines that a kernel wants
  unfoldable pub kernel_told : RoutingReport → Change (MachineState S) RoutingReport
  kernel_told r s = lines_told (devices_with_tables s) (sci_interrupt s.tables.fadt) r s

  -- where it wants them
  unfoldable pub told_if : Bool → RoutingReport → Change (MachineState S) RoutingReport
  told_if true r = kernel_told r
  told_if false r = give r

-- what is told behind a report: how its interrupts are triggered, and the bus of each routing table, as it is asked in turn
pub record IsToldBehind {S : Type 0} (accesses : Accesses S) (before : MachineState S) (plain : RoutingReport) (after : MachineState S) (r : RoutingReport) : Type 0 where
  pub buses : List BusLine
  pub are_buses : buses_asked accesses (devices_with_tables before) before ≡ (Ok buses, after)
  pub lines : r ≡ with_kernel_lines plain (triggers_of (sci_interrupt before.tables.fadt) plain) buses

-- What is reported of a machine where these are the options: what was found, chosen and set, and behind that, where a kernel wants them,
-- the lines for it, which leaves the machine as it is after. The report's text can be read back, and the lines for a kernel change nothing
-- of what it claims.
pub record IsReportFor {S : Type 0} (accesses : Accesses S) (o : RunOptions) (before after : MachineState S) (r : RoutingReport) : Type 0 where
  pub plain : RoutingReport
  pub configured : MachineState S
  pub is_plain : IsReportWith accesses o before configured plain
  pub is_told : told_if accesses o.kernel plain configured ≡ (Ok r, after)
  pub readable : IsReadable r
  pub claims : claim_of_report r ≡ claim_of_report plain
