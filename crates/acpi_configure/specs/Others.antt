-- The devices of a machine that are no links, and the interrupts that they have (ACPI 6.5, 6.2.2 and 6.3.7).
use Rattle.std.specs.Prelude.{ℕ, List, [], ◌∷◌, ◌++◌, filter, not, Bool, true, false, Option, Some, None, Ok, if◌then◌else◌}
use Rattle.std.specs.List.{filter_map, list_any}
use Rattle.ar_space.specs.Accesses.{Accesses}
use Rattle.ar_space.specs.Change.{Change, give, ◌>>=◌}
use Rattle.aml_path.specs.declared.segment.Seg.{Seg}
use Rattle.aml_path.specs.Paths.{path_eq}
use Rattle.acpi_machine.specs.Children.{has_child}
use Rattle.acpi_machine.specs.MachineStates.{MachineState}
use Rattle.acpi_resources.specs.Numbers.{set_of}
use Rattle.acpi_links.specs.Devices.{devices}
use Rattle.acpi_links.specs.Folds.{folded}
use Rattle.acpi_links.specs.Links.{PresentLink}
use Rattle.acpi_links.specs.ObjectNames.{crs}
use Rattle.acpi_links.specs.Presence.{is_present}
use Rattle.acpi_links.specs.Resources.{current_resources}
use Rattle.route_report.specs.declared.report.Rule.{Rule}
use Rattle.route_report.specs.declared.report.Rule.TheVariants as rule
use Rattle.route_report.specs.declared.report.UnreadLine.{UnreadLine}
use Rattle.route_report.specs.Reports.{AfterState, Now, Refused, ReportedAfter, SparedDevice, ReportedOptions}
use Rattle.acpi_configure.specs.Settling.{attempted, state_told}

-- ---- which devices are asked, and how

-- whether one of some links stands at a path
abbrev pub is_link : List PresentLink → List Seg → Bool
is_link links p = list_any (λ l. path_eq l.0 p) links

-- the devices that are none of some links, in path order
unfoldable pub other_devices : {S : Type 0} → List PresentLink → MachineState S → List (List Seg)
other_devices links s = filter (λ p. not (is_link links p)) (devices s)

-- accesses: what the register space makes of them
module _ {S : Type 0} (accesses : Accesses S) where
  -- an absent device isn't asked
  unfoldable pub resources_if : Bool → List Seg → Change (MachineState S) (Option (List ℕ))
  resources_if true device = current_resources accesses device
  resources_if false device = give None

  unfoldable pub present_resources : List Seg → Change (MachineState S) (Option (List ℕ))
  present_resources device = do
    present ← is_present accesses device
    resources_if present device

  -- nor is a device without _CRS
  unfoldable pub device_resources : List Seg → Change (MachineState S) (Option (List ℕ))
  device_resources device s = if has_child device crs s then present_resources device s else (Ok None, s)

  -- a refusal is told, and the next device follows
  unfoldable pub device_asked : List Seg → Change (MachineState S) ReportedAfter
  device_asked device = do
    state ← attempted state_told (device_resources device)
    give (record { path = device; state = state })

  abbrev pub devices_asked : List (List Seg) → Change (MachineState S) (List ReportedAfter)
  devices_asked list = folded (λ done line. done ++ line ∷ []) device_asked list []

  -- where no device is spared none is asked
  unfoldable pub others_asked : Bool → List PresentLink → Change (MachineState S) (List ReportedAfter)
  others_asked true links s = devices_asked (other_devices links s) s
  others_asked false links s = (Ok [], s)

-- ---- what they have

abbrev pub numbers_at : AfterState → List ℕ
numbers_at (Now None) = []
numbers_at (Now (Some ns)) = ns
numbers_at (Refused r) = []

-- the interrupts of all of them, one after the other
unfoldable pub numbers_in : List ReportedAfter → List ℕ
numbers_in [] = []
numbers_in (line ∷ lines) = numbers_at line.state ++ numbers_in lines

-- the interrupts that no link is given: those to avoid, and where they are spared those of devices, ascending and each once
abbrev pub barred_if : Bool → List ℕ → List ReportedAfter → List ℕ
barred_if true avoid asked = set_of (avoid ++ numbers_in asked)
barred_if false avoid asked = avoid

-- ---- their lines

-- a device without interrupts has none
abbrev pub spared_device : List Seg → List ℕ → Option SparedDevice
spared_device device [] = None
spared_device device (n ∷ ns) = Some (record { device = device; interrupts = n ∷ ns })

abbrev pub spared_line : ReportedAfter → Option SparedDevice
spared_line line = spared_device line.path (numbers_at line.state)

abbrev pub unread_at : List Seg → AfterState → Option UnreadLine
unread_at device (Now now) = None
unread_at device (Refused r) = Some (record { device = device; refusal = r })

abbrev pub unread_line : ReportedAfter → Option UnreadLine
unread_line line = unread_at line.path line.state

abbrev pub rule_if : Bool → Rule
rule_if true = rule.Spread
rule_if false = rule.First

abbrev pub all_options : Bool → List ReportedAfter → ReportedOptions
all_options spread asked = record { spared = filter_map spared_line asked; unread = filter_map unread_line asked; rule = rule_if spread; triggers = []; buses = [] }

-- none without an option
abbrev pub options_if : Bool → Bool → List ReportedAfter → Option ReportedOptions
options_if true spread asked = Some (all_options spread asked)
options_if false true asked = Some (all_options true asked)
options_if false false asked = None
