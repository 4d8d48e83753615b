-- Where a kernel wants lines, each line of a bus tells of the accesses that asked for it.
use Rattle.std.specs.Prelude.{◌≡◌, ℕ, List, [], ◌∷◌, ◌++◌, map, Bool, true, false, Ok, Err, refl}
use Rattle.std.proofs.Common.{sym, subst, ap, ◌∙◌}
use Rattle.ar_space.specs.Accesses.{Accesses}
use Rattle.ar_space.specs.Change.{Change, give, go_on, ◌>>=◌}
use Rattle.ar_space.specs.Outcome.{Outcome}
use Rattle.aml_path.specs.declared.segment.Seg.{Seg}
use Rattle.recorded_space.specs.declared.exchange.Exchange.{Exchange}
use Rattle.aml_laws.specs.Noted.{WithNotes, noted, Tells}
use Rattle.acpi_machine.specs.Buses.{bus_found}
use Rattle.acpi_machine.specs.MachineStates.{MachineState}
use Rattle.acpi_machine.specs.declared.buses.PciBus.{PciBus}
use Rattle.acpi_links.specs.Folds.{folded}
use Rattle.acpi_configure.specs.Configured.{IsReport}
use Rattle.acpi_configure.specs.ForKernels.{devices_with_tables, bus_told, bus_asked, buses_asked, told_if}
use Rattle.acpi_configure.specs.Settling.{attempted}
use Rattle.acpi_configure.proofs.Telling.{behind, plainly}
use Rattle.route_report.specs.declared.report.BusLine.{BusLine}
use Rattle.route_report.specs.Readable.{buses_told}
use Rattle.route_report.specs.Reports.{RoutingReport}
use Rattle.machine_laws.specs.ReportedNotes.{LineTells, EachTells}
use Rattle.machine_laws.proofs.FaultsOfBuses.{notes_of_bus}
use Rattle.machine_laws.proofs.KernelTriggers.{buses_behind}
use Rattle.machine_laws.proofs.NumbersTold.{state_tells}
use Rattle.machine_laws.proofs.ReportsTold.{MakesLines, no_lines, then_lines}
use Rattle.recorded_laws.specs.RunNotes.{BusStateTells, BusTells, asking_calls}

bus_tells : (r : Outcome PciBus) (notes : List Exchange) → Tells r notes → BusStateTells (bus_told r) notes
bus_tells (Ok b) notes told = told
bus_tells (Err e) notes told = state_tells (Err e) notes told

module _ {S : Type 0} (accesses : Accesses S) where
  -- ---- one line

  line_asked : List Seg → MachineState (WithNotes S) → BusLine
  line_asked device s = record { device = device; state = bus_told (bus_found (noted accesses) device s).0 }

  bus_line : (device : List Seg) (s : MachineState (WithNotes S)) → LineTells BusTells (bus_asked (noted accesses) device) s (line_asked device s)
  unfolding bus_asked attempted ◌>>=◌ go_on give line_asked
  bus_line device s =
      let came = bus_found (noted accesses) device s in
      let notes = notes_of_bus accesses device s in
      record { own = notes.made; is = refl; are = notes.are; told = bus_tells came.0 notes.made notes.told }

  -- ---- lines one after another

  abbrev asking : List (List Seg) → List (Change (MachineState (WithNotes S)) BusLine)
  asking list = map (bus_asked (noted accesses)) list

  bus_lines : (list : List (List Seg)) (done : List BusLine) (s : MachineState (WithNotes S)) → MakesLines BusTells (asking list) done s (folded (λ done line. done ++ line ∷ []) (bus_asked (noted accesses)) list done s)
  unfolding folded give ◌>>=◌
  bus_lines [] done s = no_lines BusTells done s
  bus_lines (device ∷ list) done s =
      then_lines BusTells (bus_asked (noted accesses) device) (asking list) done s _ (line_asked device s) (bus_line device s) (bus_lines list (done ++ line_asked device s ∷ []) (bus_asked (noted accesses) device s).1)

  lines_of : (list : List (List Seg)) (buses : List BusLine) (s t : MachineState (WithNotes S)) → buses_asked (noted accesses) list s ≡ (Ok buses, t) → EachTells BusTells (asking list) buses s t
  lines_of list buses s t is =
      let made = subst (λ (x : Outcome (List BusLine) × MachineState (WithNotes S)). MakesLines BusTells (asking list) [] s x) is (bus_lines list [] s) in
      let same : buses ≡ made.lines = cc made.is in
      subst (λ (lines : List BusLine). EachTells BusTells (asking list) lines s t) (sym same) made.told

  -- ---- a report's lines

  pub buses_told_of : (kernel dry : Bool) (avoid : List ℕ) (before configured after : MachineState (WithNotes S)) (plain r : RoutingReport) → IsReport (noted accesses) dry avoid before configured plain → told_if (noted accesses) kernel plain configured ≡ (Ok r, after)
      → EachTells BusTells (asking_calls (noted accesses) kernel configured) (buses_told r.options) configured after
  buses_told_of true dry avoid before configured after plain r is told =
      let b = behind (noted accesses) true plain r configured after refl told in
      let lines : b.buses ≡ buses_told r.options = sym (ap (λ (x : RoutingReport). buses_told x.options) b.lines ∙ buses_behind plain.options _ b.buses) in
      subst (λ (ls : List BusLine). EachTells BusTells (asking (devices_with_tables configured)) ls configured after) lines (lines_of (devices_with_tables configured) b.buses configured after b.are_buses)
  buses_told_of false dry avoid before configured after plain r is told =
      let same = plainly (noted accesses) false plain r configured after refl told in
      let lines : [] ≡ buses_told r.options = sym (ap (λ (x : RoutingReport). buses_told x.options) (sym same.0 ∙ is.lines)) in
      subst (λ (ls : List BusLine). EachTells BusTells [] ls configured after) lines (sym same.1)
