-- What is told to a kernel in the core profile, and in the wide one.
use Rattle.std.specs.Prelude.{◌≡◌, ℕ, List, [], ◌∷◌, Bool, true, false, Option, Some, None, Ok, Err, Contains, refl}
use Rattle.std.proofs.Common.{◌∙◌, sym, subst, ap, arith}
use Rattle.ar_space.specs.Accesses.{Accesses}
use Rattle.ar_space.specs.Outcome.{Outcome}
use Rattle.ar_space.specs.Change.{give, go_on, ◌>>=◌}
use Rattle.ar_tables.specs.Fadts.{sci_interrupt}
use Rattle.aml_path.specs.declared.segment.Seg.{Seg}
use Rattle.aml_laws.specs.Widened.{IsLeftOut}
use Rattle.acpi_machine.specs.Buses.{bus_found}
use Rattle.acpi_machine.specs.MachineStates.{MachineState}
use Rattle.acpi_machine.specs.declared.buses.PciBus.{PciBus}
use Rattle.acpi_links.specs.Devices.{devices}
use Rattle.acpi_configure.specs.ForKernels.{devices_with_tables, bus_told, bus_asked, buses_asked, lines_told, kernel_told, told_if, IsReportFor}
use Rattle.acpi_configure.specs.Options.{RunOptions}
use Rattle.acpi_configure.specs.Settling.{attempted}
use Rattle.acpi_configure.specs.Triggers.{triggers_of}
use Rattle.acpi_configure.proofs.Telling.{behind, plainly}
use Rattle.route_report.specs.declared.report.BusLine.{BusLine}
use Rattle.route_report.specs.declared.report.TriggerLine.{TriggerLine}
use Rattle.route_report.specs.ForKernels.{kernel_options, with_kernel_lines}
use Rattle.route_report.specs.Readable.{unread_devices, buses_told}
use Rattle.route_report.specs.Reports.{ReportedAfter, ReportedOptions, RoutingReport}
use Rattle.route_report.specs.declared.report.UnreadLine.{UnreadLine}
use Rattle.acpi_configure.specs.Others.{options_if}
use Rattle.acpi_configure.specs.WithOptions.{IsReportWith}
use Rattle.machine_laws.specs.Widened.{machine_widened, IsUnreached, TellsNothingLeftOut}
use Rattle.machine_laws.proofs.LinesWidened.{Among, among_contains, OrRefused, Widens, line_widens, lines_widen}
use Rattle.machine_laws.proofs.MachinesWidened.{bus_widened}
use Rattle.machine_laws.proofs.ReportsWidened.{same_widened, report_with_options_widened}

abbrev BusBad : BusLine → Type 0
BusBad line = IsUnreached line.state

unreached_told : (r : Outcome PciBus) → IsLeftOut r → IsUnreached (bus_told r)
unreached_told (Ok b) h = absurd h
unreached_told (Err e) h = (e, h, refl)

module _ {S : Type 0} (accesses : Accesses S) where
  bus_asked_widens : (device : List Seg) (s : MachineState S) → Widens (OrRefused BusBad) (bus_asked accesses device) s
  unfolding bus_asked attempted give go_on ◌>>=◌
  bus_asked_widens device s =
      line_widens BusBad (λ r. record { device = device; state = bus_told r }) (λ r h. unreached_told r h) (bus_found accesses device s) (bus_found accesses device (machine_widened s)) (bus_widened accesses device s)

  buses_widened : (list : List (List Seg)) (s t : MachineState S) (buses : List BusLine) → buses_asked accesses list s ≡ (Ok buses, t) → ((line : BusLine) → Contains buses line → IsUnreached line.state → ⊥)
      → buses_asked accesses list (machine_widened s) ≡ (Ok buses, machine_widened t)
  buses_widened list s t buses is none =
      same_widened (OrRefused (Among BusBad)) (buses_asked accesses list) s t buses is (λ bad. let found = among_contains BusBad buses bad in none found.0 found.1 found.2) (lines_widen BusBad (bus_asked accesses) (bus_asked_widens) list [] s)

  same_devices : (s : MachineState S) → devices_with_tables (machine_widened s) ≡ devices_with_tables s
  unfolding devices_with_tables devices
  same_devices s = refl

  told_of : (list : List (List Seg)) (own : ℕ) (plain : RoutingReport) (s t : MachineState S) (buses : List BusLine) → buses_asked accesses list s ≡ (Ok buses, t) → lines_told accesses list own plain s ≡ (Ok (with_kernel_lines plain (triggers_of own plain) buses), t)
  unfolding lines_told give go_on ◌>>=◌
  told_of list own plain s t buses is = rw is refl

  told_by : (plain : RoutingReport) (s t : MachineState S) (buses : List BusLine) → buses_asked accesses (devices_with_tables s) s ≡ (Ok buses, t) → kernel_told accesses plain s ≡ (Ok (with_kernel_lines plain (triggers_of (sci_interrupt s.tables.fadt) plain) buses), t)
  unfolding kernel_told
  told_by plain s t buses is = told_of (devices_with_tables s) (sci_interrupt s.tables.fadt) plain s t buses is

  -- ---- a report, with what is told

  told_buses : (o : Option ReportedOptions) (ts : List TriggerLine) (bs : List BusLine) → buses_told (Some (kernel_options o ts bs)) ≡ bs
  told_buses None ts bs = refl
  told_buses (Some o) ts bs = refl

  plain_unread : (o : Option ReportedOptions) (ts : List TriggerLine) (bs : List BusLine) → unread_devices (Some (kernel_options o ts bs)) ≡ unread_devices o
  plain_unread None ts bs = refl
  plain_unread (Some o) ts bs = refl

  -- before a kernel is told anything there is no bus
  no_bus : (spare spread : Bool) (asked : List ReportedAfter) → buses_told (options_if spare spread asked) ≡ []
  no_bus true spread asked = refl
  no_bus false true asked = refl
  no_bus false false asked = refl

  none_has : (line : BusLine) (lines : List BusLine) → lines ≡ [] → Contains lines line → ⊥
  none_has line [] e c = absurd (let within = c.1 in omega arith)
  none_has line (first ∷ lines) e c = absurd (cc e)

  plain_tells_nothing : (o : RunOptions) (before configured : MachineState S) (plain r : RoutingReport) (ts : List TriggerLine) (bs : List BusLine) → IsReportWith accesses o before configured plain → r ≡ with_kernel_lines plain ts bs → TellsNothingLeftOut r
      → TellsNothingLeftOut plain
  plain_tells_nothing o before configured plain r ts bs is lines none = record {
    sets = λ line c. none.sets line (subst (λ (x : RoutingReport). Contains x.sets line) (sym lines) c);
    afters = λ line c. none.afters line (subst (λ (x : RoutingReport). Contains x.afters line) (sym lines) c);
    unread = λ line c. none.unread line (subst (λ (x : RoutingReport). Contains (unread_devices x.options) line) (sym lines) (subst (λ (ls : List UnreadLine). Contains ls line) (sym (plain_unread plain.options ts bs)) c));
    buses = λ line c bad. none_has line (buses_told plain.options) (ap (λ (x : RoutingReport). buses_told x.options) is.lines ∙ no_bus o.spare o.spread is.found.asked) c;
  }

  told_widened : (kernel : Bool) (o : RunOptions) (before configured after : MachineState S) (plain r : RoutingReport) → IsReportWith accesses o before configured plain → told_if accesses kernel plain configured ≡ (Ok r, after) → TellsNothingLeftOut r
      → TellsNothingLeftOut plain × (told_if accesses kernel plain (machine_widened configured) ≡ (Ok r, machine_widened after))
  unfolding told_if give
  told_widened true o before configured after plain r is told none =
      let b = behind accesses true plain r configured after refl told in
      let ts = triggers_of (sci_interrupt configured.tables.fadt) plain in
      let good : (line : BusLine) → Contains b.buses line → IsUnreached line.state → ⊥ = λ line c. none.buses line (subst (λ (x : RoutingReport). Contains (buses_told x.options) line) (sym b.lines) (subst (λ (ls : List BusLine). Contains ls line) (sym (told_buses plain.options ts b.buses)) c)) in
      let wide : buses_asked accesses (devices_with_tables (machine_widened configured)) (machine_widened configured) ≡ (Ok b.buses, machine_widened after) =
      ap (λ (list : List (List Seg)). buses_asked accesses list (machine_widened configured)) (same_devices configured) ∙ buses_widened (devices_with_tables configured) configured after b.buses b.are_buses good in
      (plain_tells_nothing o before configured plain r ts b.buses is b.lines none, told_by plain (machine_widened configured) (machine_widened after) b.buses wide ∙ ap (λ (x : RoutingReport). (Ok x, machine_widened after)) (sym b.lines))
  told_widened false o before configured after plain r is told none =
      let same = plainly accesses false plain r configured after refl told in
      (rw same.0 none, ap (λ (x : RoutingReport). (Ok x, machine_widened configured)) same.0 ∙ ap (λ (s : MachineState S). (Ok r, machine_widened s)) same.1)

  pub report_for_kernels_widened : (o : RunOptions) (before after : MachineState S) (r : RoutingReport) → TellsNothingLeftOut r → IsReportFor accesses o before after r → IsReportFor accesses o (machine_widened before) (machine_widened after) r
  report_for_kernels_widened o before after r none is =
      let told = told_widened o.kernel o before is.configured after is.plain r is.is_plain is.is_told none in
      record {
        plain = is.plain;
        configured = machine_widened is.configured;
        is_plain = report_with_options_widened accesses o before is.configured is.plain told.0 is.is_plain;
        is_told = told.1;
        readable = is.readable;
        claims = is.claims;
      }
