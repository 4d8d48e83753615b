-- How interrupts are triggered: those of links, of wired pins, and the System Control Interrupt.
use Rattle.std.specs.Prelude.{ℕ, ◌/◌, ◌%◌, ◌==◌, Bool, List, [], ◌∷◌, ◌++◌, map, Option, Some, None, if◌then◌else◌}
use Rattle.ar_tables.specs.declared.mode.Mode.{Mode}
use Rattle.ar_tables.specs.declared.mode.Mode.TheVariants as mode
use Rattle.acpi_resources.specs.declared.form.Polarity.{Polarity}
use Rattle.acpi_resources.specs.declared.form.Polarity.TheVariants as polarity
use Rattle.route_report.specs.declared.report.InterruptSource.{InterruptSource}
use Rattle.route_report.specs.declared.report.InterruptSource.TheVariants as source
use Rattle.route_report.specs.declared.report.OverrideLine.{OverrideLine}
use Rattle.route_report.specs.declared.report.Trigger.{Trigger}
use Rattle.route_report.specs.declared.report.Trigger.TheVariants as trigger
use Rattle.route_report.specs.declared.report.TriggerLine.{TriggerLine}
use Rattle.route_report.specs.Reports.{ReportedLink, RoutingReport}

-- ---- by the flags of an interrupt source override (ACPI 6.5, 5.2.12.5 and table 5.26): where they don't say otherwise, as interrupts of PCI
-- and the System Control Interrupt are, level and low (5.2.9)

-- bits 0 and 1
abbrev pub polarity_by : ℕ → Polarity
polarity_by flags = if flags % 4 == 1 then polarity.High else polarity.Low

-- bits 2 and 3
abbrev pub trigger_by : ℕ → Trigger
trigger_by flags = if flags / 4 % 4 == 1 then trigger.Edge else trigger.Level

abbrev pub triggered_by : ℕ → InterruptSource → TriggerLine
triggered_by flags s = record { source = s; trigger = trigger_by flags; polarity = polarity_by flags }

-- the flags of the first override to a global system interrupt, and of the first override of a source; 0 where there is none
abbrev pub flags_to : ℕ → List OverrideLine → ℕ
flags_to gsi [] = 0
flags_to gsi (o ∷ os) = if o.gsi == gsi then o.flags else flags_to gsi os

abbrev pub flags_of : ℕ → List OverrideLine → ℕ
flags_of source [] = 0
flags_of source (o ∷ os) = if o.source == source then o.flags else flags_of source os

-- overrides are of the inputs of I/O APICs: where 8259 controllers are used there are none
abbrev pub overrides_used : Mode → List OverrideLine → List OverrideLine
overrides_used mode.Apic os = os
overrides_used mode.Pic os = []

-- ---- what is triggered

-- a link that offers an edge-triggered interrupt is refused
abbrev pub link_trigger : ReportedLink → TriggerLine
link_trigger l = record { source = source.Link l.path; trigger = trigger.Level; polarity = l.polarity }

abbrev pub wired_trigger : List OverrideLine → ℕ × ℕ → TriggerLine
wired_trigger overrides wired = triggered_by (flags_to wired.0 overrides) (source.Wired wired.0)

-- the System Control Interrupt is an interrupt source of its own
abbrev pub sci_trigger : List OverrideLine → ℕ → Option ℕ → List TriggerLine
sci_trigger overrides own None = []
sci_trigger overrides own (Some n) = triggered_by (flags_of own overrides) (source.Sci n) ∷ []

-- own: the source of the System Control Interrupt, before an override
abbrev pub triggers_with : List OverrideLine → ℕ → RoutingReport → List TriggerLine
triggers_with overrides own r = map link_trigger r.links ++ (map (wired_trigger overrides) r.wired ++ sci_trigger overrides own r.sci)

unfoldable pub triggers_of : ℕ → RoutingReport → List TriggerLine
triggers_of own r = triggers_with (overrides_used r.mode r.overrides) own r
