-- A report, as contracts see it: each kind of line is a plain list.
use Rattle.std.specs.Prelude.{ℕ, Bool, true, false, List, Option, option_map}
use Rattle.aml_path.specs.declared.segment.Seg.{Seg}
use Rattle.route_check.specs.Claims.{BoundingSet}
use Rattle.ar_tables.specs.declared.mode.Mode.{Mode}
use Rattle.acpi_resources.specs.declared.form.Form.{Form}
use Rattle.acpi_resources.specs.declared.form.Polarity.{Polarity}
use Rattle.route_report.specs.declared.report.IoApicLine.{IoApicLine}
use Rattle.route_report.specs.declared.report.OverrideLine.{OverrideLine}
use Rattle.route_report.specs.declared.report.PinLine.{PinLine}
use Rattle.route_report.specs.declared.report.SetLine.{SetLine}
use Rattle.route_report.specs.declared.report.UnreadLine.{UnreadLine}
use Rattle.route_report.specs.declared.report.TriggerLine.{TriggerLine}
use Rattle.route_report.specs.declared.report.BusLine.{BusLine}
use Rattle.route_report.specs.declared.report.Rule.{Rule}
use Rattle.route_report.specs.declared.report.Rule.TheVariants as rule
use Rattle.route_report.specs.declared.report.After.{After}
use Rattle.route_report.specs.declared.report.After.TheVariants as after

pub record ReportedLink : Type 0 where
  pub path : List Seg
  pub form : Form
  pub polarity : Polarity
  pub offers : List ℕ
  pub now : Option (List ℕ)

-- what a link is set to then, or the number of a refusal
pub data AfterState : Type 0 where
  Now : Option (List ℕ) → AfterState
  Refused : ℕ → AfterState

abbrev pub after_state : After → AfterState
after_state (after.Now now) = Now (option_map (λ v. v.items) now)
after_state (after.Refused r) = Refused r

pub record ReportedAfter : Type 0 where
  pub path : List Seg
  pub state : AfterState

-- a device that is no link, with its interrupts, which no link is given
pub record SparedDevice : Type 0 where
  pub device : List Seg
  pub interrupts : List ℕ

-- whether links are said to share interrupts as little as they can
abbrev pub is_spread : Rule → Bool
is_spread rule.First = false
is_spread rule.Spread = true

-- what options of a run add to its report; for a kernel, how interrupts are triggered, and the bus of each routing table
pub record ReportedOptions : Type 0 where
  pub spared : List SparedDevice
  pub unread : List UnreadLine
  pub rule : Rule
  pub triggers : List TriggerLine
  pub buses : List BusLine

pub record RoutingReport : Type 0 where
  pub mode : Mode
  pub io_apics : List IoApicLine
  pub overrides : List OverrideLine
  pub sci : Option ℕ
  pub avoid : List ℕ
  pub options : Option ReportedOptions
  pub links : List ReportedLink
  pub wired : List (ℕ × ℕ)
  pub pins : List PinLine
  pub gives : List (List Seg × ℕ)
  pub busiest : ℕ
  pub bound : Option BoundingSet
  pub sets : List SetLine
  pub afters : List ReportedAfter
