-- The lines of a report.
use Rattle.std.specs.Prelude.{ℕ, List, [], ◌∷◌, ◌++◌, map, Option, Some, None, codes, decimal}
use Rattle.std.specs.Int.{to_be_bytes, w16, w32}
use Rattle.hex.specs.Hex.{encode_upper}
use Rattle.aml_path.specs.declared.segment.Seg.{Seg}
use Rattle.aml_path.specs.Text.{text_of}
use Rattle.route_check.specs.Claims.{BoundingSet}
use Rattle.route_report.specs.Lines.{text_of_lines}
use Rattle.ar_tables.specs.declared.mode.Mode.{Mode}
use Rattle.ar_tables.specs.declared.mode.Mode.TheVariants as mode
use Rattle.acpi_resources.specs.declared.form.Form.{Form}
use Rattle.acpi_resources.specs.declared.form.Form.TheVariants as form
use Rattle.acpi_resources.specs.declared.form.Polarity.{Polarity}
use Rattle.acpi_resources.specs.declared.form.Polarity.TheVariants as polarity
use Rattle.route_report.specs.declared.report.PinName.{PinName}
use Rattle.route_report.specs.declared.report.PinName.TheVariants as pin
use Rattle.route_report.specs.declared.report.IoApicLine.{IoApicLine}
use Rattle.route_report.specs.declared.report.OverrideLine.{OverrideLine}
use Rattle.route_report.specs.declared.report.PinRoute.{PinRoute}
use Rattle.route_report.specs.declared.report.PinRoute.TheVariants as route
use Rattle.route_report.specs.declared.report.PinLine.{PinLine}
use Rattle.route_report.specs.declared.report.SetOutcome.{SetOutcome}
use Rattle.route_report.specs.declared.report.SetOutcome.TheVariants as outcome
use Rattle.route_report.specs.declared.report.SetLine.{SetLine}
use Rattle.route_report.specs.declared.report.UnreadLine.{UnreadLine}
use Rattle.route_report.specs.declared.report.Rule.{Rule}
use Rattle.route_report.specs.declared.report.Rule.TheVariants as rule
use Rattle.route_report.specs.declared.report.InterruptSource.{InterruptSource}
use Rattle.route_report.specs.declared.report.InterruptSource.TheVariants as source
use Rattle.route_report.specs.declared.report.Trigger.{Trigger}
use Rattle.route_report.specs.declared.report.Trigger.TheVariants as trigger
use Rattle.route_report.specs.declared.report.TriggerLine.{TriggerLine}
use Rattle.route_report.specs.declared.report.BusState.{BusState}
use Rattle.route_report.specs.declared.report.BusState.TheVariants as bus
use Rattle.route_report.specs.declared.report.BusLine.{BusLine}
use Rattle.route_report.specs.Reports.{ReportedLink, AfterState, Now, Refused, ReportedAfter, SparedDevice, ReportedOptions, RoutingReport}

abbrev pub Words : Type 0
Words = List (List ℕ)

abbrev pub mode_word : Mode → List ℕ
mode_word mode.Apic = codes "apic"
mode_word mode.Pic = codes "pic"

abbrev pub form_word : Form → List ℕ
form_word form.Small = codes "small"
form_word form.Extended = codes "extended"

abbrev pub polarity_word : Polarity → List ℕ
polarity_word polarity.Low = codes "low"
polarity_word polarity.High = codes "high"

abbrev pub pin_word : PinName → List ℕ
pin_word pin.A = codes "A"
pin_word pin.B = codes "B"
pin_word pin.C = codes "C"
pin_word pin.D = codes "D"

-- numbers; `-` stands for none
abbrev pub number_words : List ℕ → Words
number_words [] = codes "-" ∷ []
number_words (n ∷ ns) = map decimal (n ∷ ns)

-- paths; `-` stands for none
abbrev pub path_words : List (List Seg) → Words
path_words [] = codes "-" ∷ []
path_words (p ∷ ps) = map text_of (p ∷ ps)

-- the interrupts that a link is set to; `none` without `_CRS`
abbrev pub now_words : Option (List ℕ) → Words
now_words None = codes "none" ∷ []
now_words (Some ns) = number_words ns

-- `3` where options add lines, else `2`
abbrev pub version_word : Option ReportedOptions → List ℕ
version_word None = codes "2"
version_word (Some o) = codes "3"

-- `acpiroute 2`: a report of version 2
abbrev pub heading_words : Option ReportedOptions → Words
heading_words options = codes "acpiroute" ∷ version_word options ∷ []

-- `mode apic` or `mode pic`
abbrev pub mode_words : Mode → Words
mode_words m = codes "mode" ∷ mode_word m ∷ []

-- `ioapic I at A base G`, with A in eight hexadecimal digits
abbrev pub io_apic_words : IoApicLine → Words
io_apic_words a = codes "ioapic" ∷ decimal a.id ∷ codes "at" ∷ encode_upper (to_be_bytes w32 a.address) ∷ codes "base" ∷ decimal a.gsi_base ∷ []

-- `override S to G flags F`, with F in four hexadecimal digits
abbrev pub override_words : OverrideLine → Words
override_words o = codes "override" ∷ decimal o.source ∷ codes "to" ∷ decimal o.gsi ∷ codes "flags" ∷ encode_upper (to_be_bytes w16 o.flags) ∷ []

-- `sci N` or `sci none`
abbrev pub source_words : Option ℕ → Words
source_words None = codes "none" ∷ []
source_words (Some n) = decimal n ∷ []

abbrev pub sci_words : Option ℕ → Words
sci_words sci = codes "sci" ∷ source_words sci

-- `avoid N..`, or `avoid -`
abbrev pub avoid_words : List ℕ → Words
avoid_words ns = codes "avoid" ∷ number_words ns

-- `spared D N..`
abbrev pub spared_words : SparedDevice → Words
spared_words s = codes "spared" ∷ text_of s.device ∷ map decimal s.interrupts

-- `unread D R`
abbrev pub unread_words : UnreadLine → Words
unread_words u = codes "unread" ∷ text_of u.device ∷ decimal u.refusal ∷ []

-- `first` or `spread`
abbrev pub rule_words : Rule → Words
rule_words rule.First = codes "first" ∷ []
rule_words rule.Spread = codes "spread" ∷ []

-- the lines of version 3 alone, but for those for a kernel
abbrev pub option_lines : Option ReportedOptions → List Words
option_lines None = []
option_lines (Some o) = map spared_words o.spared ++ (map unread_words o.unread ++ rule_words o.rule ∷ [])

-- `link P small low offers N.. now V`
abbrev pub link_words : ReportedLink → Words
link_words l = codes "link" ∷ text_of l.path ∷ form_word l.form ∷ polarity_word l.polarity ∷ codes "offers"
    ∷ (map decimal l.offers ++ codes "now" ∷ now_words l.now)

-- `wired N C`
abbrev pub wired_words : ℕ × ℕ → Words
wired_words w = codes "wired" ∷ decimal w.0 ∷ decimal w.1 ∷ []

abbrev pub route_words : PinRoute → Words
route_words (route.Link n p) = decimal n ∷ text_of p ∷ []
route_words (route.Wired n) = decimal n ∷ codes "wired" ∷ []
route_words (route.Absent p) = codes "absent" ∷ text_of p ∷ []

-- `pin D n X N P`, `pin D n X N wired`, `pin D n X absent P`
abbrev pub pin_words : PinLine → Words
pin_words p = codes "pin" ∷ text_of p.device ∷ decimal p.number ∷ pin_word p.pin ∷ route_words p.route

-- `give P N`
abbrev pub give_words : List Seg × ℕ → Words
give_words g = codes "give" ∷ text_of g.0 ∷ decimal g.1 ∷ []

-- `busiest K`
abbrev pub busiest_words : ℕ → Words
busiest_words k = codes "busiest" ∷ decimal k ∷ []

-- `bound none` or `bound P.. over N..`
abbrev pub set_of_bound : Option BoundingSet → Words
set_of_bound None = codes "none" ∷ []
set_of_bound (Some b) = path_words b.links ++ codes "over" ∷ map decimal b.interrupts

abbrev pub bound_words : Option BoundingSet → Words
bound_words b = codes "bound" ∷ set_of_bound b

-- `set P ok`, `set P none`, `set P refused R`
abbrev pub outcome_words : SetOutcome → Words
outcome_words outcome.Done = codes "ok" ∷ []
outcome_words outcome.NoSetting = codes "none" ∷ []
outcome_words (outcome.Refused r) = codes "refused" ∷ decimal r ∷ []

abbrev pub set_words : SetLine → Words
set_words s = codes "set" ∷ text_of s.path ∷ outcome_words s.outcome

-- `after P V`, `after P refused R`
abbrev pub state_words : AfterState → Words
state_words (Now now) = now_words now
state_words (Refused r) = codes "refused" ∷ decimal r ∷ []

abbrev pub after_words : ReportedAfter → Words
after_words a = codes "after" ∷ text_of a.path ∷ state_words a.state

-- `trigger link P level high`, `trigger wired N level high`, `trigger sci N level high`; `edge`, or `low`
abbrev pub trigger_word : Trigger → List ℕ
trigger_word trigger.Level = codes "level"
trigger_word trigger.Edge = codes "edge"

abbrev pub how_words : Trigger → Polarity → Words
how_words t p = trigger_word t ∷ polarity_word p ∷ []

abbrev pub triggered_words : InterruptSource → Words
triggered_words (source.Link p) = codes "link" ∷ text_of p ∷ []
triggered_words (source.Wired n) = codes "wired" ∷ decimal n ∷ []
triggered_words (source.Sci n) = codes "sci" ∷ decimal n ∷ []

abbrev pub trigger_words : TriggerLine → Words
trigger_words t = codes "trigger" ∷ (triggered_words t.source ++ how_words t.trigger t.polarity)

-- `bus D S B`, `bus D refused R`
abbrev pub bus_state_words : BusState → Words
bus_state_words (bus.Known segment n) = decimal segment ∷ decimal n ∷ []
bus_state_words (bus.Refused r) = codes "refused" ∷ decimal r ∷ []

abbrev pub bus_words : BusLine → Words
bus_words b = codes "bus" ∷ text_of b.device ∷ bus_state_words b.state

-- the lines for a kernel, which stand behind all others
abbrev pub kernel_lines : Option ReportedOptions → List Words
kernel_lines None = []
kernel_lines (Some o) = map trigger_words o.triggers ++ map bus_words o.buses

-- all lines, in their order: what was found, and what was chosen
abbrev pub found_lines : RoutingReport → List Words
found_lines r = heading_words r.options ∷ mode_words r.mode ∷ (map io_apic_words r.io_apics ++ (map override_words r.overrides
    ++ (sci_words r.sci ∷ avoid_words r.avoid ∷ (option_lines r.options ++ (map link_words r.links ++ (map wired_words r.wired ++ map pin_words r.pins))))))

abbrev pub chosen_lines : RoutingReport → List Words
chosen_lines r = map give_words r.gives ++ (busiest_words r.busiest ∷ bound_words r.bound ∷ (map set_words r.sets ++ (map after_words r.afters ++ kernel_lines r.options)))

unfoldable pub text_of_report : RoutingReport → List ℕ
text_of_report r = text_of_lines (found_lines r ++ chosen_lines r)
