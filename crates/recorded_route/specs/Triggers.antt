-- How an interrupt is triggered: as the first line `trigger` of its source says. Where none does, a link's is a
-- level, as its line `link` has it, and others are as PCI's are.
use Rattle.std.specs.Prelude.{ℕ, ◌==◌, Bool, true, false, List, [], ◌∷◌, if◌then◌else◌}
use Rattle.aml_path.specs.declared.segment.Seg.{Seg}
use Rattle.aml_path.specs.Paths.{path_eq}
use Rattle.acpi_links.specs.Links.{is_low}
use Rattle.route_report.specs.declared.report.InterruptSource.{InterruptSource}
use Rattle.route_report.specs.declared.report.InterruptSource.TheVariants as source
use Rattle.route_report.specs.declared.report.Trigger.{Trigger}
use Rattle.route_report.specs.declared.report.Trigger.TheVariants.{Level, Edge}
use Rattle.route_report.specs.declared.report.TriggerLine.{TriggerLine}
use Rattle.route_report.specs.Reports.{ReportedLink}
use Rattle.recorded_route.specs.declared.triggering.Source.{Source}
use Rattle.recorded_route.specs.declared.triggering.Source.TheVariants as sought
use Rattle.recorded_route.specs.declared.triggering.Triggering.{Triggering}

abbrev pub plainly : Triggering
plainly = record { is_level = true; is_low = true }

abbrev pub is_level : Trigger → Bool
is_level Level = true
is_level Edge = false

abbrev pub triggering_in : TriggerLine → Triggering
triggering_in line = record { is_level = is_level line.trigger; is_low = is_low line.polarity }

-- the source is the link at a path
abbrev pub is_link : List Seg → InterruptSource → Bool
is_link p (source.Link q) = path_eq q p
is_link p (source.Wired n) = false
is_link p (source.Sci n) = false

-- it is the pins that are wired to an interrupt
abbrev pub is_wired : ℕ → InterruptSource → Bool
is_wired n (source.Link q) = false
is_wired n (source.Wired m) = m == n
is_wired n (source.Sci m) = false

-- it is the System Control Interrupt
abbrev pub is_sci : ℕ → InterruptSource → Bool
is_sci n (source.Link q) = false
is_sci n (source.Wired m) = false
is_sci n (source.Sci m) = m == n

-- the source is this one
abbrev pub is_source : Source → InterruptSource → Bool
is_source (sought.Link p) = is_link p.now
is_source (sought.Wired n) = is_wired n
is_source (sought.Sci n) = is_sci n

abbrev pub triggering_where : Triggering → (InterruptSource → Bool) → List TriggerLine → Triggering
triggering_where plain is [] = plain
triggering_where plain is (line ∷ lines) = if is line.source then triggering_in line else triggering_where plain is lines

-- a link's interrupt by its line `link`
abbrev pub level_of : List Seg → List ReportedLink → Triggering
level_of p [] = plainly
level_of p (line ∷ lines) = if path_eq line.path p then record { is_level = true; is_low = is_low line.polarity } else level_of p lines
