-- Machines in the wide profile, what the core profile leaves out, and what the lines of a report tell of that.
use Rattle.std.specs.Prelude.{◌≡◌, ◌⊎◌, ℕ, Ok, Err, Contains}
use Rattle.ar_space.specs.declared.refusal.Refusal.{Refusal}
use Rattle.ar_space.specs.declared.refusal.Refusal.TheVariants.{Resource, RoutingTable}
use Rattle.ar_space.specs.declared.refusal.ResourceFault.TheVariants.{Exclusive}
use Rattle.ar_space.specs.declared.refusal.RoutingTableFault.TheVariants.{NotALink}
use Rattle.ar_space.specs.Numbers.{number_of}
use Rattle.ar_space.specs.Outcome.{Outcome}
use Rattle.aml_laws.specs.Widened.{widened, LeftOut}
use Rattle.acpi_machine.specs.MachineStates.{MachineState}
use Rattle.route_report.specs.declared.report.SetLine.{SetLine}
use Rattle.route_report.specs.declared.report.SetOutcome.{SetOutcome}
use Rattle.route_report.specs.declared.report.SetOutcome.TheVariants as outcome
use Rattle.route_report.specs.declared.report.UnreadLine.{UnreadLine}
use Rattle.route_report.specs.declared.report.BusLine.{BusLine}
use Rattle.route_report.specs.declared.report.BusState.{BusState}
use Rattle.route_report.specs.declared.report.BusState.TheVariants as bus
use Rattle.route_report.specs.Readable.{unread_devices, buses_told}
use Rattle.route_report.specs.Reports.{AfterState, Now, Refused, ReportedAfter, RoutingReport}

-- the same machine in the wide profile
abbrev pub machine_widened : {S : Type 0} → MachineState S → MachineState S
machine_widened m = record { world = widened m.world; tables = m.tables; mode = m.mode; steps = m.steps; spent = m.spent }

-- what a call gives and leaves, with the machine in the wide profile
abbrev pub call_widened : {S A : Type 0} → Outcome A × MachineState S → Outcome A × MachineState S
call_widened r = (r.0, machine_widened r.1)

-- Refusals by which a profile leaves something out of routing: a term, an exclusive offer, or a `_HID` that is a control method. The
-- last one is also that of devices that are no links in any profile.
abbrev pub Withheld : Refusal → Type 0
Withheld e = LeftOut e ⊎ ((e ≡ Resource Exclusive) ⊎ (e ≡ RoutingTable NotALink))

-- an outcome is such a refusal
abbrev pub IsWithheld : {A : Type 0} → Outcome A → Type 0
IsWithheld (Ok a) = ⊥
IsWithheld (Err e) = Withheld e

-- ---- reports

-- the number of a refusal of a term that a profile leaves out
abbrev pub IsNumberLeftOut : ℕ → Type 0
IsNumberLeftOut n = (e : Refusal) × LeftOut e × (n ≡ number_of e)

-- a link couldn't be set for such a term
abbrev pub IsUnset : SetOutcome → Type 0
IsUnset outcome.Done = ⊥
IsUnset outcome.NoSetting = ⊥
IsUnset (outcome.Refused n) = IsNumberLeftOut n

-- what a device is set to couldn't be read for such a term
abbrev pub IsUnread : AfterState → Type 0
IsUnread (Now now) = ⊥
IsUnread (Refused n) = IsNumberLeftOut n

-- the bus of a routing table couldn't be found for such a term, or for a bridge
abbrev pub IsUnreached : BusState → Type 0
IsUnreached (bus.Known segment n) = ⊥
IsUnreached (bus.Refused n) = IsNumberLeftOut n

-- no line of a report tells of a term that a profile leaves out: none of setting a link, none of reading it again, none of a device whose
-- interrupts were to be spared, and none of the bus of a routing table
pub record TellsNothingLeftOut (r : RoutingReport) : Type 0 where
  pub sets : (line : SetLine) → Contains r.sets line → IsUnset line.outcome → ⊥
  pub afters : (line : ReportedAfter) → Contains r.afters line → IsUnread line.state → ⊥
  pub unread : (line : UnreadLine) → Contains (unread_devices r.options) line → IsNumberLeftOut line.refusal → ⊥
  pub buses : (line : BusLine) → Contains (buses_told r.options) line → IsUnreached line.state → ⊥
