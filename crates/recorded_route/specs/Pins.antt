-- The routing of a report as plain values: each pin whose interrupt is known, how that is triggered, whether its link is set
-- to it, and the bus that the pin is on.
use Rattle.std.specs.Prelude.{ℕ, ◌==◌, Bool, true, false, List, [], ◌∷◌, Option, Some, None, if◌then◌else◌}
use Rattle.std.specs.List.{filter_map}
use Rattle.aml_path.specs.declared.segment.Seg.{Seg}
use Rattle.aml_path.specs.Paths.{path_eq}
use Rattle.acpi_machine.specs.declared.buses.PciBus.{PciBus}
use Rattle.route_report.specs.declared.report.BusLine.{BusLine}
use Rattle.route_report.specs.declared.report.BusState.{BusState}
use Rattle.route_report.specs.declared.report.BusState.TheVariants as states
use Rattle.route_report.specs.declared.report.PinLine.{PinLine}
use Rattle.route_report.specs.declared.report.PinRoute.{PinRoute}
use Rattle.route_report.specs.declared.report.PinRoute.TheVariants as way
use Rattle.route_report.specs.declared.report.SetLine.{SetLine}
use Rattle.route_report.specs.declared.report.SetOutcome.{SetOutcome}
use Rattle.route_report.specs.declared.report.SetOutcome.TheVariants as outcome
use Rattle.route_report.specs.declared.report.TriggerLine.{TriggerLine}
use Rattle.route_report.specs.Readable.{triggers_told, buses_told}
use Rattle.route_report.specs.Reports.{AfterState, Now, Refused, ReportedAfter, RoutingReport}
use Rattle.recorded_route.specs.declared.pins.Pin.{Pin}
use Rattle.recorded_route.specs.declared.pins.RoutedInterrupt.{RoutedInterrupt}
use Rattle.recorded_route.specs.Triggers.{plainly, is_link, is_wired, is_sci, triggering_where, level_of}

-- ---- whether a link is set to an interrupt, as far as it tells: it reads back just this one; or it has no `_CRS`, and took its setting

abbrev pub is_done : SetOutcome → Bool
is_done outcome.Done = true
is_done outcome.NoSetting = false
is_done (outcome.Refused r) = false

abbrev pub took_setting : List Seg → List SetLine → Bool
took_setting p [] = false
took_setting p (line ∷ lines) = if path_eq line.path p then is_done line.outcome else took_setting p lines

abbrev pub is_only : ℕ → List ℕ → Bool
is_only n (m ∷ []) = m == n
is_only n other = false

abbrev pub is_read_back : ℕ → Bool → AfterState → Bool
is_read_back n taken (Now None) = taken
is_read_back n taken (Now (Some numbers)) = is_only n numbers
is_read_back n taken (Refused r) = false

abbrev pub is_link_set : ℕ → List Seg → Bool → List ReportedAfter → Bool
is_link_set n p taken [] = false
is_link_set n p taken (line ∷ lines) = if path_eq line.path p then is_read_back n taken line.state else is_link_set n p taken lines

-- what is wired needs no setting
abbrev pub is_route_set : RoutingReport → PinRoute → Bool
is_route_set r (way.Link n p) = is_link_set n p (took_setting p r.sets) r.afters
is_route_set r (way.Wired n) = true
is_route_set r (way.Absent p) = false

-- ---- the bus of a routing table, where its line tells it

abbrev pub bus_in : BusState → Option PciBus
bus_in (states.Known segment n) = Some (record { segment = segment; bus = n })
bus_in (states.Refused r) = None

abbrev pub bus_of : List Seg → List BusLine → Option PciBus
bus_of p [] = None
bus_of p (line ∷ lines) = if path_eq line.device p then bus_in line.state else bus_of p lines

-- ---- pins

-- the interrupt of a pin, and how it is triggered; a link that isn't present has none
abbrev pub routed : RoutingReport → PinRoute → Option RoutedInterrupt
routed r (way.Link n p) = Some (record { interrupt = n; triggering = triggering_where (level_of p r.links) (is_link p) (triggers_told r.options) })
routed r (way.Wired n) = Some (record { interrupt = n; triggering = triggering_where plainly (is_wired n) (triggers_told r.options) })
routed r (way.Absent p) = None

abbrev pub pin_with : PinLine → Option PciBus → Bool → Option RoutedInterrupt → Option Pin
pin_with line bus set None = None
pin_with line bus set (Some route) = Some (record { interrupt = route.interrupt; triggering = route.triggering; is_set = set; bus = bus; device = line.number; pin = line.pin })

abbrev pub pin_of : RoutingReport → PinLine → Option Pin
pin_of r line = pin_with line (bus_of line.device (buses_told r.options)) (is_route_set r line.route) (routed r line.route)

-- the pins of a report whose interrupt is known, in the order of its lines
abbrev pub pins_of : RoutingReport → List Pin
pins_of r = filter_map (pin_of r) r.pins

-- ---- the System Control Interrupt, and how it is triggered

abbrev pub sci_with : List TriggerLine → Option ℕ → Option RoutedInterrupt
sci_with triggers None = None
sci_with triggers (Some n) = Some (record { interrupt = n; triggering = triggering_where plainly (is_sci n) triggers })

abbrev pub routed_sci : RoutingReport → Option RoutedInterrupt
routed_sci r = sci_with (triggers_told r.options) r.sci
