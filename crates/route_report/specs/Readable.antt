-- What a report claims itself, and which reports are read.
use Rattle.std.specs.Prelude.{ℕ, List, [], ◌∷◌, ◌++◌, Option, Some, None, ◌<◌, ◌≤◌, ◌^◌, length, map, All, option_to_list}
use Rattle.std.specs.List.Sorted.{IsStrictlyIncreasing}
use Rattle.route_model.specs.Links.{OfferingLink}
use Rattle.route_check.specs.Claims.{RoutingClaim, interrupts_of_bound}
use Rattle.route_report.specs.Ordered.{barred_by, claim_in_order}
use Rattle.route_report.specs.declared.report.Rule.{Rule}
use Rattle.route_report.specs.declared.report.Rule.TheVariants as rule
use Rattle.route_report.specs.declared.report.UnreadLine.{UnreadLine}
use Rattle.route_report.specs.declared.report.InterruptSource.{InterruptSource}
use Rattle.route_report.specs.declared.report.InterruptSource.TheVariants as source
use Rattle.route_report.specs.declared.report.TriggerLine.{TriggerLine}
use Rattle.route_report.specs.declared.report.BusState.{BusState}
use Rattle.route_report.specs.declared.report.BusState.TheVariants as bus
use Rattle.route_report.specs.declared.report.BusLine.{BusLine}
use Rattle.route_report.specs.Reports.{is_spread, ReportedLink, SparedDevice, ReportedOptions, RoutingReport}

abbrev pub link_of : ReportedLink → OfferingLink
link_of l = record { path = l.path; offers = l.offers }

-- the interrupts of devices, one after the other
unfoldable pub spared_numbers : List SparedDevice → List ℕ
spared_numbers [] = []
spared_numbers (s ∷ ss) = s.interrupts ++ spared_numbers ss

-- those that options spare
abbrev pub spared_by : Option ReportedOptions → Option (List ℕ)
spared_by None = None
spared_by (Some o) = Some (spared_numbers o.spared)

-- the rule of the choice: the first one, where no options say another
abbrev pub rule_by : Option ReportedOptions → Rule
rule_by None = rule.First
rule_by (Some o) = o.rule

-- the devices whose interrupts are spared, and those whose interrupts couldn't be read
abbrev pub spared_devices : Option ReportedOptions → List SparedDevice
spared_devices None = []
spared_devices (Some o) = o.spared

abbrev pub unread_devices : Option ReportedOptions → List UnreadLine
unread_devices None = []
unread_devices (Some o) = o.unread

-- how interrupts are triggered, and the buses of routing tables
abbrev pub triggers_told : Option ReportedOptions → List TriggerLine
triggers_told None = []
triggers_told (Some o) = o.triggers

abbrev pub buses_told : Option ReportedOptions → List BusLine
buses_told None = []
buses_told (Some o) = o.buses

-- what the report claims, each list in order
abbrev pub claim_of_report : RoutingReport → RoutingClaim
claim_of_report r = claim_in_order (record { links = map link_of r.links; wired = r.wired; sci = r.sci; avoid = barred_by r.avoid (spared_by r.options); gives = r.gives; busiest = r.busiest; bound = r.bound; spread = is_spread (rule_by r.options) })

-- an offer that a line can show
pub record IsReadableOffer (offers : List ℕ) : Type 0 where
  pub some : 0 < length offers
  pub ascending : IsStrictlyIncreasing offers

-- a report within the limits of reading
pub record IsReadable (r : RoutingReport) : Type 0 where
  pub few_links : length r.links ≤ 256
  pub few_wired : length r.wired ≤ 4096
  pub offers : All (λ l. IsReadableOffer l.offers) r.links
  pub avoid : IsStrictlyIncreasing r.avoid
  pub spared : All (λ s. 0 < length s.interrupts) (spared_devices r.options)

-- the numbers of a line have 32 bits
abbrev pub IsSmallSource : InterruptSource → Type 0
IsSmallSource (source.Link p) = Unit {0}
IsSmallSource (source.Wired n) = n < 2 ^ 32
IsSmallSource (source.Sci n) = n < 2 ^ 32

abbrev pub IsSmallBus : BusState → Type 0
IsSmallBus (bus.Known segment n) = (segment < 2 ^ 32) × (n < 2 ^ 32)
IsSmallBus (bus.Refused r) = r < 2 ^ 32

-- its numbers have 32 bits, as those of every report in memory do
pub record IsSmall (r : RoutingReport) : Type 0 where
  pub offers : All (λ l. All (λ n. n < 2 ^ 32) l.offers) r.links
  pub wired : All (λ w. (w.0 < 2 ^ 32) × (w.1 < 2 ^ 32)) r.wired
  pub sci : All (λ n. n < 2 ^ 32) (option_to_list r.sci)
  pub avoid : All (λ n. n < 2 ^ 32) r.avoid
  pub spared : All (λ s. All (λ n. n < 2 ^ 32) s.interrupts) (spared_devices r.options)
  pub unread : All (λ u. u.refusal < 2 ^ 32) (unread_devices r.options)
  pub gives : All (λ g. g.1 < 2 ^ 32) r.gives
  pub busiest : r.busiest < 2 ^ 32
  pub interrupts : All (λ n. n < 2 ^ 32) (interrupts_of_bound r.bound)
  pub triggers : All (λ t. IsSmallSource t.source) (triggers_told r.options)
  pub buses : All (λ b. IsSmallBus b.state) (buses_told r.options)
