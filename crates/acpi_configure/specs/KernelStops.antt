-- Where a run may stop that tells a kernel what it wants.
use Rattle.std.specs.Prelude.{◌≡◌, ◌⊎◌, List, Bool, true, false}
use Rattle.ar_space.specs.Accesses.{Accesses}
use Rattle.aml_path.specs.declared.segment.Seg.{Seg}
use Rattle.acpi_machine.specs.MachineStates.{MachineState}
use Rattle.acpi_machine.specs.Stops.{Stop, AllOrNone, StopsEach}
use Rattle.route_report.specs.Reports.{RoutingReport}
use Rattle.acpi_configure.specs.ForKernels.{devices_with_tables, bus_asked}
use Rattle.acpi_configure.specs.Options.{RunOptions}
use Rattle.acpi_configure.specs.Stops.{StopsInRunWith}
use Rattle.acpi_configure.specs.WithOptions.{IsReportWith}

-- accesses: what the register space makes of them
module _ {S : Type 0} (accesses : Accesses S) where
  -- one bus after another
  abbrev pub StopsInBuses : List (List Seg) → Stop S
  StopsInBuses list = StopsEach (bus_asked accesses) (λ device. AllOrNone (bus_asked accesses device)) list

  -- where no kernel wants a bus none is asked for
  abbrev pub StopsInTelling : Bool → Stop S
  StopsInTelling true before after = StopsInBuses (devices_with_tables before) before after
  StopsInTelling false before after = before ≡ after

  -- once all is found, chosen and set
  pub record StopsBehindReport (o : RunOptions) (before after : MachineState S) : Type 0 where
    pub plain : RoutingReport
    pub configured : MachineState S
    pub is_plain : IsReportWith accesses o before configured plain
    pub telling : StopsInTelling o.kernel configured after

  abbrev pub StopsInRunFor : RunOptions → Stop S
  StopsInRunFor o before after = StopsInRunWith accesses o before after ⊎ StopsBehindReport o before after
