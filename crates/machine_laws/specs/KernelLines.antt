-- What the lines for a kernel are of, and what they say: how interrupts are triggered (ACPI 6.5, 5.2.12.5), and the buses of routing tables.
use Rattle.std.specs.Prelude.{◌≡◌, ◌<◌, ◌+◌, ◌*◌, ℕ, List, [], ◌∷◌, ◌++◌, map, Option, Bool, Some, None, option_to_list, Ok, Err, Contains}
use Rattle.ar_space.specs.declared.refusal.Refusal.{Refusal}
use Rattle.ar_space.specs.Accesses.{Accesses}
use Rattle.ar_space.specs.Numbers.{number_of}
use Rattle.ar_tables.specs.declared.madt.MadtEntry.{MadtEntry}
use Rattle.ar_tables.specs.declared.madt.MadtEntry.TheVariants.{IoApic, SourceOverride}
use Rattle.ar_tables.specs.declared.mode.Mode.TheVariants.{Pic, Apic}
use Rattle.ar_tables.specs.Structures.{entries_in, structures_of}
use Rattle.aml_path.specs.declared.segment.Seg.{Seg}
use Rattle.aml_laws.specs.Outside.{Stands}
use Rattle.acpi_resources.specs.declared.form.Polarity.TheVariants.{High, Low}
use Rattle.acpi_machine.specs.declared.buses.PciBus.{PciBus}
use Rattle.acpi_machine.specs.Buses.{prt, bus_found}
use Rattle.acpi_machine.specs.Kinds.{kind_at}
use Rattle.acpi_machine.specs.Kinds as kind
use Rattle.acpi_machine.specs.MachineStates.{MachineState}
use Rattle.acpi_links.specs.Links.{PresentLink}
use Rattle.acpi_links.specs.Resources.{possible_resources}
use Rattle.acpi_configure.specs.Options.{RunOptions}
use Rattle.route_report.specs.declared.report.BusLine.{BusLine}
use Rattle.route_report.specs.declared.report.BusState.TheVariants as bus
use Rattle.route_report.specs.declared.report.InterruptSource.{InterruptSource}
use Rattle.route_report.specs.declared.report.InterruptSource.TheVariants as source
use Rattle.route_report.specs.declared.report.PinRoute.{PinRoute}
use Rattle.route_report.specs.declared.report.PinRoute.TheVariants as way
use Rattle.route_report.specs.declared.report.Trigger.TheVariants.{Edge, Level}
use Rattle.route_report.specs.declared.report.TriggerLine.{TriggerLine}
use Rattle.route_report.specs.Readable.{spared_devices, unread_devices, rule_by, triggers_told, buses_told}
use Rattle.route_report.specs.Reports.{RoutingReport}

-- one of a list is such, and no other
pub record HasOne {A : Type 0} (Is : A → Type 0) (list : List A) : Type 0 where
  pub one : A
  pub earlier : List A
  pub later : List A
  pub among : list ≡ earlier ++ one ∷ later
  pub is : Is one
  pub not_earlier : (other : A) → Contains earlier other → Is other → ⊥
  pub not_later : (other : A) → Contains later other → Is other → ⊥

-- ---- sources of interrupts

-- the sources of a report: its links, the interrupts that pins are wired to, and that of the System Control Interrupt
abbrev pub sources_in : RoutingReport → List InterruptSource
sources_in r = map (λ l. source.Link l.path) r.links ++ (map (λ w. source.Wired w.0) r.wired ++ map source.Sci (option_to_list r.sci))

-- exactly one line tells how a source is triggered
abbrev pub HasTrigger : RoutingReport → InterruptSource → Type 0
HasTrigger r s = HasOne (λ line. line.source ≡ s) (triggers_told r.options)

-- where a pin leads: a link that isn't present has no interrupt
abbrev pub WayHasTrigger : RoutingReport → PinRoute → Type 0
WayHasTrigger r (way.Link n p) = HasTrigger r (source.Link p)
WayHasTrigger r (way.Wired n) = HasTrigger r (source.Wired n)
WayHasTrigger r (way.Absent p) = Unit {0}

-- ---- interrupt source overrides

-- the structures of a machine's MADT that are known; none without one
abbrev pub madt_entries : Option (List ℕ) → List MadtEntry
madt_entries None = []
madt_entries (Some madt) = entries_in (structures_of madt)

-- an override that makes some source this global system interrupt, and one of this source; which bus it names isn't looked at
abbrev pub IsOverrideTo : ℕ → MadtEntry → Type 0
IsOverrideTo n (IoApic id address gsi_base) = ⊥
IsOverrideTo n (SourceOverride bus source gsi flags) = gsi ≡ n

abbrev pub IsOverrideOf : ℕ → MadtEntry → Type 0
IsOverrideOf n (IoApic id address gsi_base) = ⊥
IsOverrideOf n (SourceOverride bus source gsi flags) = source ≡ n

-- Whose flags govern an interrupt: the first such override's, where I/O APICs are used; nobody's where the 8259 controllers are, and where
-- there is no such override.
pub data Governs {S : Type 0} (m : MachineState S) (Such : MadtEntry → Type 0) : Option ℕ → Type 0 where
  by_controllers : m.mode ≡ Pic → Governs m Such None
  by_default : ((entry : MadtEntry) → Contains (madt_entries m.tables.madt) entry → Such entry → ⊥) → Governs m Such None
  by_override : (earlier later : List MadtEntry) (bus source gsi flags : ℕ) → m.mode ≡ Apic → madt_entries m.tables.madt ≡ earlier ++ SourceOverride bus source gsi flags ∷ later
      → Such (SourceOverride bus source gsi flags) → ((entry : MadtEntry) → Contains earlier entry → Such entry → ⊥) → Governs m Such (Some flags)

-- flags whose bits 0 and 1 are the one number, and whose bits 2 and 3 are the other
pub record HasFields (flags polarity trigger : ℕ) : Type 0 where
  pub small : polarity < 4
  pub few : trigger < 4
  pub further : ℕ
  pub is : flags ≡ polarity + 4 * trigger + 16 * further

-- By the flags of an override: 1 is active high, and 3 active low; 1 is edge-triggered, and 3 level-triggered. With any other number the
-- interrupt is signaled as PCI interrupts are.
pub record IsTriggeredBy (flags : ℕ) (line : TriggerLine) : Type 0 where
  pub high : (trigger : ℕ) → HasFields flags 1 trigger → line.polarity ≡ High
  pub low : (polarity trigger : ℕ) → HasFields flags polarity trigger → (polarity ≡ 1 → ⊥) → line.polarity ≡ Low
  pub edge : (polarity : ℕ) → HasFields flags polarity 1 → line.trigger ≡ Edge
  pub level : (polarity trigger : ℕ) → HasFields flags polarity trigger → (trigger ≡ 1 → ⊥) → line.trigger ≡ Level

-- as PCI interrupts are
pub record IsLevelAndLow (line : TriggerLine) : Type 0 where
  pub level : line.trigger ≡ Level
  pub low : line.polarity ≡ Low

abbrev pub Follows : Option ℕ → TriggerLine → Type 0
Follows None line = IsLevelAndLow line
Follows (Some flags) line = IsTriggeredBy flags line

-- level, and of the polarity that a link's own `_PRS` offered when it was asked in the run, which `_SRS` sets, too
pub record IsTriggeredAsOffered {S : Type 0} (accesses : Accesses S) (links : List PresentLink) (path : List Seg) (line : TriggerLine) : Type 0 where
  pub link : PresentLink
  pub found : Contains links link
  pub at : link.0 ≡ path
  pub asked : MachineState S
  pub left : MachineState S
  pub offered : possible_resources accesses path asked ≡ (Ok link.1, left)
  pub level : line.trigger ≡ Level
  pub polarity : line.polarity ≡ link.1.polarity

-- ---- buses

-- a Device with a routing table stands at a path
pub record HasTable {S : Type 0} (m : MachineState S) (device : List Seg) : Type 0 where
  pub below_root : device ≡ [] → ⊥
  pub is_device : kind_at m.world.names.map device ≡ Some kind.Device
  pub table : Stands m.world (device ++ prt ∷ [])

-- exactly one line tells the bus of a device's routing table
abbrev pub HasBus : RoutingReport → List Seg → Type 0
HasBus r device = HasOne (λ line. line.device ≡ device) (buses_told r.options)

-- Lines `bus`, each of which tells what its own call found, or the number of its refusal. The calls are made one after another, each on the
-- machine that the one before it left.
pub data BusesAsked {S : Type 0} (accesses : Accesses S) : List BusLine → MachineState S → MachineState S → Type 0 where
  none : (m : MachineState S) → BusesAsked accesses [] m m
  known : (device : List Seg) (found : PciBus) (lines : List BusLine) (m n after : MachineState S) → bus_found accesses device m ≡ (Ok found, n) → BusesAsked accesses lines n after
      → BusesAsked accesses (record { device = device; state = bus.Known found.segment found.bus } ∷ lines) m after
  refused : (device : List Seg) (e : Refusal) (lines : List BusLine) (m n after : MachineState S) → bus_found accesses device m ≡ (Err e, n) → BusesAsked accesses lines n after
      → BusesAsked accesses (record { device = device; state = bus.Refused (number_of e) } ∷ lines) m after

-- ---- runs with these lines and without

abbrev pub with_kernel : Bool → RunOptions → RunOptions
with_kernel kernel o = record o { kernel = kernel }

-- two reports that differ in the lines `trigger` and `bus` alone
pub record SameButForKernel (report plain : RoutingReport) : Type 0 where
  pub mode : report.mode ≡ plain.mode
  pub io_apics : report.io_apics ≡ plain.io_apics
  pub overrides : report.overrides ≡ plain.overrides
  pub sci : report.sci ≡ plain.sci
  pub avoid : report.avoid ≡ plain.avoid
  pub links : report.links ≡ plain.links
  pub wired : report.wired ≡ plain.wired
  pub pins : report.pins ≡ plain.pins
  pub gives : report.gives ≡ plain.gives
  pub busiest : report.busiest ≡ plain.busiest
  pub bound : report.bound ≡ plain.bound
  pub sets : report.sets ≡ plain.sets
  pub afters : report.afters ≡ plain.afters
  pub spared : spared_devices report.options ≡ spared_devices plain.options
  pub unread : unread_devices report.options ≡ unread_devices plain.options
  pub rule : rule_by report.options ≡ rule_by plain.options

-- two machines that differ in their worlds alone
pub record SameBesideWorld {S : Type 0} (before after : MachineState S) : Type 0 where
  pub tables : after.tables ≡ before.tables
  pub mode : after.mode ≡ before.mode
  pub steps : after.steps ≡ before.steps
  pub spent : after.spent ≡ before.spent
