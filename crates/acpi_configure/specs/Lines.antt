-- The lines of a report: what stands in the MADT, what was gathered, and what was chosen.
use Rattle.std.specs.Prelude.{ℕ, ◌==◌, List, [], ◌∷◌, map, Bool, Option, Some, None, slice_index_or, if◌then◌else◌}
use Rattle.std.specs.List.{filter_map}
use Rattle.aml_path.specs.declared.segment.Seg.{Seg}
use Rattle.aml_path.specs.Paths.{path_eq}
use Rattle.ar_tables.specs.declared.madt.MadtEntry.{MadtEntry}
use Rattle.ar_tables.specs.declared.madt.MadtEntry.TheVariants.{IoApic, SourceOverride}
use Rattle.ar_tables.specs.Structures.{entries_in, structures_of}
use Rattle.acpi_prt.specs.declared.pin.Pin.{Pin}
use Rattle.acpi_prt.specs.declared.pin.Route.{Route}
use Rattle.acpi_prt.specs.declared.pin.Route.TheVariants as route
use Rattle.acpi_links.specs.Links.{PresentLink}
use Rattle.route_model.specs.Links.{OfferingLink}
use Rattle.route_report.specs.declared.report.PinName.{PinName}
use Rattle.route_report.specs.declared.report.PinName.TheVariants as letter
use Rattle.route_report.specs.declared.report.IoApicLine.{IoApicLine}
use Rattle.route_report.specs.declared.report.OverrideLine.{OverrideLine}
use Rattle.route_report.specs.declared.report.PinRoute.{PinRoute}
use Rattle.route_report.specs.declared.report.PinRoute.TheVariants as way
use Rattle.route_report.specs.declared.report.PinLine.{PinLine}
use Rattle.route_report.specs.Reports.{ReportedLink}

-- ---- pins

-- 0 to 3
abbrev pub letter_of : ℕ → PinName
letter_of n = if n == 0 then letter.A else (if n == 1 then letter.B else (if n == 2 then letter.C else letter.D))

-- ---- the MADT (ACPI 6.5, 5.2.12)

abbrev pub entries_of : Option (List ℕ) → List MadtEntry
entries_of None = []
entries_of (Some madt) = entries_in (structures_of madt)

abbrev pub io_apic_of : MadtEntry → Option IoApicLine
io_apic_of (IoApic id address gsi_base) = Some (record { id = id; address = address; gsi_base = gsi_base })
io_apic_of (SourceOverride bus source gsi flags) = None

abbrev pub override_of : MadtEntry → Option OverrideLine
override_of (IoApic id address gsi_base) = None
override_of (SourceOverride bus source gsi flags) = Some (record { source = source; gsi = gsi; flags = flags })

unfoldable pub io_apics_of : Option (List ℕ) → List IoApicLine
io_apics_of madt = filter_map io_apic_of (entries_of madt)

unfoldable pub overrides_of : Option (List ℕ) → List OverrideLine
overrides_of madt = filter_map override_of (entries_of madt)

-- ---- what was gathered

abbrev pub row_of : PresentLink → ReportedLink
row_of link = record { path = link.0; form = link.1.form; polarity = link.1.polarity; offers = link.1.numbers; now = link.2 }

-- a link with all that it offers
abbrev pub whole_offer : PresentLink → OfferingLink
whole_offer link = record { path = link.0; offers = link.1.numbers }

-- ---- what was chosen

-- what a link is given, if it is among those that are given an interrupt
abbrev pub given_to : List (List Seg × ℕ) → List Seg → Option ℕ
given_to [] p = None
given_to (give ∷ gives) p = if path_eq give.0 p then Some give.1 else given_to gives p

-- an absent link is given nothing
abbrev pub way_of : List Seg → Option ℕ → PinRoute
way_of p None = way.Absent p
way_of p (Some n) = way.Link n p

abbrev pub pin_route : List (List Seg × ℕ) → Route → PinRoute
pin_route gives (route.Wired n) = way.Wired n
pin_route gives (route.Link p) = way_of p (given_to gives p)

abbrev pub pin_line : List (List Seg × ℕ) → List Seg × Pin → PinLine
pin_line gives pin = record { device = pin.0; number = pin.1.number; pin = letter_of pin.1.pin; route = pin_route gives pin.1.route }
