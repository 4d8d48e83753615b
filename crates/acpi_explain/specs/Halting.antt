-- What came of a change that is made again, where a halt tells the stage at which it is refused.
use Rattle.std.specs.Prelude.{◌≡◌, ◌≢◌, ⊤, ℕ, List, Ok, Err}
use Rattle.ar_space.specs.Accesses.{Accesses}
use Rattle.ar_space.specs.Change.{Change}
use Rattle.ar_space.specs.Outcome.{Outcome}
use Rattle.ar_space.specs.declared.refusal.Refusal.{Refusal}
use Rattle.ar_space.specs.declared.refusal.Refusal.TheVariants.{OutOfMemory}
use Rattle.aml_path.specs.declared.segment.Seg.{Seg}
use Rattle.acpi_machine.specs.MachineStates.{MachineState}
use Rattle.acpi_prt.specs.Children.{child_named}
use Rattle.acpi_links.specs.Devices.{pins_of_device}
use Rattle.acpi_links.specs.Gatherings.{Gathering, gathered}
use Rattle.acpi_links.specs.Links.{link_asked}
use Rattle.acpi_explain.specs.Refused.{IsFirstRefused}
use Rattle.acpi_explain.specs.Stages.{IsOfLink, IsOfNoObject}
use Rattle.acpi_explain.specs.declared.halt.Halt.{Halt}
use Rattle.acpi_explain.specs.declared.halt.Halt.TheVariants.{Memory, At}
use Rattle.acpi_explain.specs.declared.stage.Stage.{Stage}
use Rattle.acpi_explain.specs.declared.stage.Stage.TheVariants.{Loading, Calling, RoutingTable, Reading, Setting, ReadingAgain, Gathering as Together}

-- the change is refused, at a stage of which this holds
abbrev pub IsHalted : {S A : Type 0} → Change S A → (Stage → S → Refusal → Type 0) → S → S → Halt → Type 0
IsHalted m IsIt before after Memory = ⊤
IsHalted m IsIt before after (At stage) = (e : Refusal) × (m before ≡ (Err e, after)) × IsIt stage after e

-- the object of this name below a link
abbrev pub IsNamed : List Seg → List ℕ → Stage → Type 0
IsNamed link name (Loading n) = ⊥
IsNamed link name (Calling path) = ⊥
IsNamed link name (RoutingTable device) = ⊥
IsNamed link name (Reading path) = child_named link name ≡ Ok path
IsNamed link name (Setting other) = ⊥
IsNamed link name (ReadingAgain other) = ⊥
IsNamed link name Together = ⊥

-- accesses: what the register space makes of them
module _ {S : Type 0} (accesses : Accesses S) where
  -- the routing table of one of these devices
  abbrev pub IsUnread : List (List Seg) → MachineState S → Stage → MachineState S → Refusal → Type 0
  IsUnread list before (Loading n) after e = ⊥
  IsUnread list before (Calling path) after e = ⊥
  IsUnread list before (RoutingTable device) after e = (n : ℕ) × IsFirstRefused (pins_of_device accesses) list n device before after e
  IsUnread list before (Reading path) after e = ⊥
  IsUnread list before (Setting other) after e = ⊥
  IsUnread list before (ReadingAgain other) after e = ⊥
  IsUnread list before Together after e = ⊥

  -- an object of a link, or that nothing is left of what it offers
  abbrev pub IsInLink : List ℕ → List Seg → MachineState S → Stage → MachineState S → Refusal → Type 0
  IsInLink avoid link before (Loading n) after e = ⊥
  IsInLink avoid link before (Calling path) after e = ⊥
  IsInLink avoid link before (RoutingTable device) after e = ⊥
  IsInLink avoid link before (Reading path) after e = IsOfLink accesses avoid link path before after e
  IsInLink avoid link before (Setting other) after e = ⊥
  IsInLink avoid link before (ReadingAgain other) after e = ⊥
  IsInLink avoid link before Together after e = IsOfNoObject {A = Gathering} (Err e)

  -- the same of one of these links
  abbrev pub IsInLinks : List ℕ → List (List Seg) → MachineState S → Stage → MachineState S → Refusal → Type 0
  IsInLinks avoid list before (Loading n) after e = ⊥
  IsInLinks avoid list before (Calling path) after e = ⊥
  IsInLinks avoid list before (RoutingTable device) after e = ⊥
  IsInLinks avoid list before (Reading path) after e = (link : List Seg) × (n : ℕ) × (first : IsFirstRefused (link_asked accesses avoid) list n link before after e) × IsOfLink accesses avoid link path first.there after e
  IsInLinks avoid list before (Setting other) after e = ⊥
  IsInLinks avoid list before (ReadingAgain other) after e = ⊥
  IsInLinks avoid list before Together after e = IsOfNoObject {A = Gathering} (Err e)

  -- no object is refused: all are answered, and what was found is put together or refused
  abbrev pub IsTogether : List ℕ → MachineState S → Type 0
  IsTogether avoid before = (r : Outcome Gathering) × (after : MachineState S) × (gathered accesses avoid before ≡ (r, after)) × IsOfNoObject r

-- ---- halts that are told of a refusal

-- want of memory, or a refusal that is another one and this stage
abbrev pub IsHaltBy : Refusal → (Stage → Type 0) → Halt → Type 0
IsHaltBy e IsIt Memory = ⊤
IsHaltBy e IsIt (At stage) = (e ≢ OutOfMemory) × IsIt stage

-- the refusal of what was found, put together
abbrev pub IsHaltOf : {A : Type 0} → Outcome A → Halt → Type 0
IsHaltOf x Memory = ⊤
IsHaltOf x (At stage) = (e : Refusal) × (stage ≡ Together) × (e ≢ OutOfMemory) × (x ≡ Err e)
