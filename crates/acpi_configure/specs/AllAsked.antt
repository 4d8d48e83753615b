-- What a run that spares devices tells of each device that is no link (ACPI 6.5, 6.2.2 and 6.3.7).
use Rattle.std.specs.Prelude.{◌≡◌, ◌<◌, ℕ, true, false, List, ◌∷◌, ◌++◌, Some, Ok, Err, Contains, length, map}
use Rattle.ar_space.specs.Accesses.{Accesses}
use Rattle.ar_space.specs.Numbers.{number_of}
use Rattle.ar_space.specs.declared.refusal.Refusal.{Refusal}
use Rattle.aml_path.specs.declared.segment.Seg.{Seg}
use Rattle.acpi_machine.specs.Children.{has_child}
use Rattle.acpi_machine.specs.MachineStates.{MachineState}
use Rattle.acpi_links.specs.Devices.{devices}
use Rattle.acpi_links.specs.Gatherings.{Gathering, gathered}
use Rattle.acpi_links.specs.ObjectNames.{crs}
use Rattle.acpi_links.specs.Presence.{is_present}
use Rattle.acpi_links.specs.Resources.{current_resources}
use Rattle.route_report.specs.Readable.{spared_devices, unread_devices, claim_of_report}
use Rattle.route_report.specs.Reports.{ReportedAfter, RoutingReport}
use Rattle.acpi_configure.specs.Options.{RunOptions}
use Rattle.acpi_configure.specs.Others.{is_link, other_devices, devices_asked}

-- Interrupts of a device are spared: it has a line with them, if there are any; no link may have one of them, and none is given one.
pub record AreSpared (r : RoutingReport) (device : List Seg) (interrupts : List ℕ) : Type 0 where
  pub line : 0 < length interrupts → Contains (spared_devices r.options) (record { device = device; interrupts = interrupts })
  pub avoided : (n : ℕ) → Contains interrupts n → Contains (claim_of_report r).avoid n
  pub not_given : (give : List Seg × ℕ) → Contains r.gives give → Contains interrupts give.1 → ⊥

-- A device has a line with the number of a refusal.
abbrev pub IsUnread : RoutingReport → List Seg → Refusal → Type 0
IsUnread r device refusal = Contains (unread_devices r.options) (record { device = device; refusal = number_of refusal })

-- accesses: what the register space makes of them
module _ {S : Type 0} (accesses : Accesses S) where
  -- What is told of a device that has a _CRS in a state of the machine: _STA is asked, and of a present device _CRS.
  pub record IsTold (r : RoutingReport) (device : List Seg) (s : MachineState S) : Type 0 where
    pub unknown : (t : MachineState S) (refusal : Refusal) → is_present accesses device s ≡ (Err refusal, t) → IsUnread r device refusal
    pub unread : (t u : MachineState S) (refusal : Refusal) → is_present accesses device s ≡ (Ok true, t) → current_resources accesses device t ≡ (Err refusal, u) → IsUnread r device refusal
    pub spared : (t u : MachineState S) (interrupts : List ℕ) → is_present accesses device s ≡ (Ok true, t) → current_resources accesses device t ≡ (Ok (Some interrupts), u) → AreSpared r device interrupts

  -- A device among others was asked once those before it were: in the state in which they left the machine.
  pub record WasAsked (r : RoutingReport) (others : List (List Seg)) (between : MachineState S) (device : List Seg) : Type 0 where
    pub earlier : List (List Seg)
    pub later : List (List Seg)
    pub among : others ≡ earlier ++ device ∷ later
    pub told : has_child device crs (devices_asked accesses earlier between).1 ≡ true → IsTold r device (devices_asked accesses earlier between).1

  -- Each Device that is no link was asked, once the links were, and nothing else.
  pub record EachIsAsked (o : RunOptions) (before : MachineState S) (r : RoutingReport) (asked : List ReportedAfter) : Type 0 where
    pub first : Gathering
    pub between : MachineState S
    pub is_gathered : gathered accesses o.avoid before ≡ (Ok first, between)
    pub each : (device : List Seg) → Contains (devices between) device → is_link first.links device ≡ false → WasAsked r (other_devices first.links between) between device
    pub alone : map (λ (line : ReportedAfter). line.path) asked ≡ other_devices first.links between
