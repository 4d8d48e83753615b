-- What comes out of a run tells of the accesses that were made for it.
use Rattle.std.specs.Prelude.{◌≡◌, ℕ, Bool, List, [], map, Ok, Err, if◌then◌else◌}
use Rattle.ar_space.specs.Accesses.{Accesses}
use Rattle.ar_space.specs.Change.{Change}
use Rattle.ar_space.specs.Outcome.{Outcome}
use Rattle.recorded_space.specs.declared.exchange.Exchange.{Exchange}
use Rattle.aml_world.specs.state.State.{State}
use Rattle.aml_laws.specs.Noted.{WithNotes, noted, AllAnswered, TellsNotes}
use Rattle.acpi_machine.specs.Calls.{initialized}
use Rattle.acpi_machine.specs.MachineStates.{MachineState, machine_of}
use Rattle.acpi_configure.specs.Configured.{IsReport}
use Rattle.acpi_configure.specs.ForKernels.{bus_asked, devices_with_tables, IsReportFor}
use Rattle.route_report.specs.declared.report.BusLine.{BusLine}
use Rattle.route_report.specs.declared.report.BusState.{BusState}
use Rattle.route_report.specs.declared.report.BusState.TheVariants as bus
use Rattle.route_report.specs.Readable.{buses_told}
use Rattle.route_report.specs.Reports.{RoutingReport}
use Rattle.machine_laws.specs.ReportedNotes.{NumberTells, EachTells, ReportTells}
use Rattle.recorded_route.specs.declared.settings.Settings.{Settings}
use Rattle.recorded_route.specs.Runs.{Description, described, options_of, world_over}

-- what is told of the bus of a routing table, of the accesses that asked for it
abbrev pub BusStateTells : BusState → List Exchange → Type 0
BusStateTells (bus.Known segment n) notes = AllAnswered notes
BusStateTells (bus.Refused n) notes = NumberTells n notes

abbrev pub BusTells : BusLine → List Exchange → Type 0
BusTells line notes = BusStateTells line.state notes

-- the calls that ask a machine for the bus of each routing table, in path order, where a kernel wants them
abbrev pub asking_calls : {S : Type 0} → Accesses S → Bool → MachineState S → List (Change (MachineState S) BusLine)
asking_calls accesses kernel m = if kernel then map (bus_asked accesses) (devices_with_tables m) else []

-- accesses: what the register space makes of them; settings and avoid: what the caller wants; text: the machine text
module _ {S : Type 0} (accesses : Accesses S) (settings : Settings) (avoid text : List ℕ) where
  -- A run that comes out with a report: the text describes tables, which are loaded, and the machine is initialized. All accesses of both
  -- were answered with values, and of those behind them the report of the initialized machine tells; of the last, which ask for the bus of
  -- each routing table where a kernel wants it, its lines `bus` do.
  pub record ReportedRunTells (report : RoutingReport) (before after : WithNotes S) : Type 0 where
    pub description : Description
    pub is_described : described text ≡ Ok description
    pub loaded : State (WithNotes S)
    pub is_loaded : world_over (noted accesses) settings avoid description before ≡ (Ok tt, loaded)
    pub loading : TellsNotes {A = Unit {0}} (Ok tt) before loaded.space
    pub ready : MachineState (WithNotes S)
    pub is_ready : initialized (noted accesses) settings.mode (machine_of description.0 settings.steps loaded) ≡ (Ok tt, ready)
    pub initializing : TellsNotes {A = Unit {0}} (Ok tt) loaded.space ready.world.space
    pub left : MachineState (WithNotes S)
    pub is_report : IsReportFor (noted accesses) (options_of settings avoid) ready left report
    pub is_plain : IsReport (noted accesses) settings.dry avoid ready is_report.configured is_report.plain
    pub told : ReportTells accesses is_plain
    pub buses : EachTells BusTells (asking_calls (noted accesses) settings.kernel is_report.configured) (buses_told report.options) is_report.configured left
    pub is_after : left.world.space ≡ after

  -- a report, or the refusal that ended the run
  abbrev pub RunTells : Outcome RoutingReport → WithNotes S → WithNotes S → Type 0
  RunTells (Ok report) before after = ReportedRunTells report before after
  RunTells (Err e) before after = TellsNotes {A = RoutingReport} (Err e) before after
