-- What the lines of a report tell of the accesses that were made for each of them.
use Rattle.std.specs.Prelude.{◌≡◌, ℕ, ◌==◌, Bool, List, [], ◌∷◌, ◌++◌, map, Option, Some, None, Ok, if◌then◌else◌}
use Rattle.ar_space.specs.declared.refusal.SpaceFault.{SpaceFault}
use Rattle.ar_space.specs.declared.refusal.SpaceFault.TheVariants.{NoRegister, Device}
use Rattle.ar_space.specs.Accesses.{Accesses}
use Rattle.ar_space.specs.Change.{Change}
use Rattle.ar_space.specs.Numbers.{space_fault_number}
use Rattle.recorded_space.specs.declared.exchange.Exchange.{Exchange}
use Rattle.aml_laws.specs.Noted.{WithNotes, noted, AllAnswered, EndsWith, TellsNotes}
use Rattle.acpi_machine.specs.MachineStates.{MachineState}
use Rattle.acpi_links.specs.Gatherings.{Gathering}
use Rattle.acpi_links.specs.Links.{PresentLink}
use Rattle.acpi_configure.specs.Configured.{IsReport}
use Rattle.acpi_configure.specs.Settling.{link_set, link_read}
use Rattle.route_report.specs.declared.report.SetLine.{SetLine}
use Rattle.route_report.specs.declared.report.SetOutcome.{SetOutcome}
use Rattle.route_report.specs.declared.report.SetOutcome.TheVariants as outcome
use Rattle.route_report.specs.Reports.{AfterState, Now, Refused, ReportedAfter, RoutingReport}

-- the fault of the register space that has a number
abbrev pub fault_numbered : ℕ → Option SpaceFault
fault_numbered n = if n == space_fault_number NoRegister then Some NoRegister else (if n == space_fault_number Device then Some Device else None)

-- the last access was answered with the fault, and all before it with values; or all of them, where there is none
abbrev pub FaultTells : Option SpaceFault → List Exchange → Type 0
FaultTells (Some fault) notes = EndsWith fault notes
FaultTells None notes = AllAnswered notes

-- what the number of a refusal tells of the accesses that were made until then
abbrev pub NumberTells : ℕ → List Exchange → Type 0
NumberTells n notes = FaultTells (fault_numbered n) notes

-- what came of setting a link, of its accesses
abbrev pub OutcomeTells : SetOutcome → List Exchange → Type 0
OutcomeTells outcome.Done notes = AllAnswered notes
OutcomeTells outcome.NoSetting notes = AllAnswered notes
OutcomeTells (outcome.Refused n) notes = NumberTells n notes

-- what a link is set to then, of the accesses that asked
abbrev pub StateTells : AfterState → List Exchange → Type 0
StateTells (Now now) notes = AllAnswered notes
StateTells (Refused n) notes = NumberTells n notes

abbrev pub SetTells : SetLine → List Exchange → Type 0
SetTells line notes = OutcomeTells line.outcome notes

abbrev pub AfterTells : ReportedAfter → List Exchange → Type 0
AfterTells line notes = StateTells line.state notes

-- accesses: what the register space makes of them
module _ {S : Type 0} (accesses : Accesses S) where
  -- the calls that set links, each to the interrupt that it is given, in the order of the links
  abbrev pub setting_calls : List PresentLink → List ℕ → List (Change (MachineState S) SetLine)
  setting_calls [] ns = []
  setting_calls (link ∷ links) [] = []
  setting_calls (link ∷ links) (n ∷ ns) = link_set accesses link n ∷ setting_calls links ns

  -- the calls that read what each link is set to, in the same order
  abbrev pub reading_calls : List PresentLink → List (Change (MachineState S) ReportedAfter)
  reading_calls links = map (link_read accesses) links

module _ {S L : Type 0} (tells : L → List Exchange → Type 0) where
  -- a call of a machine makes this line, its accesses are noted behind those before, and the line tells of them
  pub record LineTells (call : Change (MachineState (WithNotes S)) L) (before : MachineState (WithNotes S)) (line : L) : Type 0 where
    pub own : List Exchange
    pub is : (call before).0 ≡ Ok line
    pub are : (call before).1.world.space.1 ≡ before.world.space.1 ++ own
    pub told : tells line own

  -- call after call makes a line, each of them on the machine that those before it left, and the line tells of the accesses of its own
  -- call; there are as many lines as calls, and the machine after is the one that the last call leaves
  abbrev pub EachTells : List (Change (MachineState (WithNotes S)) L) → List L → MachineState (WithNotes S) → MachineState (WithNotes S) → Type 0
  EachTells [] [] before after = after ≡ before
  EachTells (call ∷ calls) (line ∷ lines) before after = LineTells call before line × EachTells calls lines (call before).1 after
  EachTells calls lines before after = ⊥

-- Of a report: all accesses of gathering were answered with values. Then come the calls that set the links that were found, each with
-- its line `set`, and on the machine that they leave those that read the links, each with its line `after`. A dry run has none.
pub record ReportTells {S : Type 0} (accesses : Accesses S) {dry : Bool} {avoid : List ℕ} {before after : MachineState (WithNotes S)} {report : RoutingReport} (is : IsReport (noted accesses) dry avoid before after report) : Type 0 where
  pub gathering : TellsNotes {A = Gathering} (Ok is.found) before.world.space is.chosen_in.world.space
  pub set_in : MachineState (WithNotes S)
  pub sets : EachTells SetTells (if dry then [] else setting_calls (noted accesses) is.found.links is.answer.choice) report.sets is.chosen_in set_in
  pub afters : EachTells AfterTells (if dry then [] else reading_calls (noted accesses) is.found.links) report.afters set_in after
