-- The words of each line of a report are plain.
use Rattle.std.proofs.Common.{◌≡◌, ◌∙◌, ap, ap₂, sym, refl, ℕ, ◌+◌, ◌<◌, ◌≤◌, ◌^◌, List, [], ◌∷◌, ◌++◌, length, map, get_or, arith, append_assoc, append-nil, length-append, Ok, None, Some, Option}
use Rattle.std.specs.Prelude.{All, codes, decimal}
use Rattle.std.proofs.lemmas.List.Elements.{All-nil, All-cons, All-head, All-tail, All-append, All-map}
use Rattle.std.specs.Int.{to_be_bytes, w16, w32}
use Rattle.hex.specs.Hex.{encode_upper}
use Rattle.ar_space.specs.Outcome.{Outcome, ◌>>=◌}
use Rattle.aml_path.specs.declared.segment.Seg.{Seg}
use Rattle.aml_path.specs.Text.{text_of}
use Rattle.route_check.specs.Claims.{BoundingSet, RoutingClaim}
use Rattle.route_report.specs.Lines.{joined}
use Rattle.ar_tables.specs.declared.mode.Mode.{Mode}
use Rattle.ar_tables.specs.declared.mode.Mode.TheVariants as mode
use Rattle.acpi_resources.specs.declared.form.Form.{Form}
use Rattle.acpi_resources.specs.declared.form.Form.TheVariants as form
use Rattle.acpi_resources.specs.declared.form.Polarity.{Polarity}
use Rattle.acpi_resources.specs.declared.form.Polarity.TheVariants as polarity
use Rattle.route_report.specs.declared.version.Version.TheVariants as version
use Rattle.route_report.specs.declared.report.PinName.{PinName}
use Rattle.route_report.specs.declared.report.PinName.TheVariants as pin
use Rattle.route_report.specs.declared.report.IoApicLine.{IoApicLine}
use Rattle.route_report.specs.declared.report.OverrideLine.{OverrideLine}
use Rattle.route_report.specs.declared.report.PinRoute.{PinRoute}
use Rattle.route_report.specs.declared.report.PinRoute.TheVariants as route
use Rattle.route_report.specs.declared.report.PinLine.{PinLine}
use Rattle.route_report.specs.declared.report.SetOutcome.{SetOutcome}
use Rattle.route_report.specs.declared.report.SetOutcome.TheVariants as outcome
use Rattle.route_report.specs.declared.report.SetLine.{SetLine}
use Rattle.route_report.specs.declared.report.UnreadLine.{UnreadLine}
use Rattle.route_report.specs.declared.report.Rule.{Rule}
use Rattle.route_report.specs.declared.report.Rule.TheVariants as rule
use Rattle.route_report.specs.declared.report.InterruptSource.{InterruptSource}
use Rattle.route_report.specs.declared.report.InterruptSource.TheVariants as source
use Rattle.route_report.specs.declared.report.Trigger.{Trigger}
use Rattle.route_report.specs.declared.report.Trigger.TheVariants as trigger
use Rattle.route_report.specs.declared.report.TriggerLine.{TriggerLine}
use Rattle.route_report.specs.declared.report.BusState.{BusState}
use Rattle.route_report.specs.declared.report.BusState.TheVariants as bus
use Rattle.route_report.specs.declared.report.BusLine.{BusLine}
use Rattle.route_report.specs.Reports.{ReportedLink, AfterState, Now, Refused, ReportedAfter, SparedDevice, ReportedOptions, RoutingReport}
use Rattle.route_report.specs.Printing.{Words, mode_word, form_word, polarity_word, pin_word, number_words, path_words, now_words, version_word, heading_words, mode_words, io_apic_words, override_words, source_words, sci_words, avoid_words, spared_words, unread_words, rule_words, option_lines, link_words, wired_words, route_words, pin_words, give_words, busiest_words, set_of_bound, bound_words, outcome_words, set_words, state_words, after_words, trigger_word, how_words, triggered_words, trigger_words, bus_state_words, bus_words, kernel_lines, found_lines, chosen_lines, text_of_report}
use Rattle.route_report.specs.Readable.{link_of, spared_numbers, spared_by, spared_devices, unread_devices, claim_of_report, IsReadableOffer, IsReadable, IsSmall, IsSmallSource, IsSmallBus, triggers_told, buses_told, rule_by}
use Rattle.route_report.proofs.Plain.{Plain, PlainWords, literal, decimal_plain, upper_plain, path_plain, words_again, lines_again}

pub key : (k : List ℕ) (ws : Words) → All Plain k → PlainWords ws → PlainWords (k ∷ ws)
key k ws h i = All-cons (All Plain) k ws h i

pub none : PlainWords []
none = All-nil (All Plain)

pub decimals : (ns : List ℕ) → PlainWords (map decimal ns)
decimals ns = All-map (All Plain) decimal ns (λ i d l. decimal_plain (get_or ns i d))

pub paths : (ps : List (List Seg)) → PlainWords (map text_of ps)
paths ps = All-map (All Plain) text_of ps (λ i d l. path_plain (get_or ps i d))

pub number_words_plain : (ns : List ℕ) → PlainWords (number_words ns)
number_words_plain [] = key (codes "-") [] (literal (codes "-") refl) none
number_words_plain (n ∷ ns) = decimals (n ∷ ns)

pub path_words_plain : (ps : List (List Seg)) → PlainWords (path_words ps)
path_words_plain [] = key (codes "-") [] (literal (codes "-") refl) none
path_words_plain (p ∷ ps) = paths (p ∷ ps)

pub now_plain : (now : Option (List ℕ)) → PlainWords (now_words now)
now_plain None = key (codes "none") [] (literal (codes "none") refl) none
now_plain (Some ns) = number_words_plain ns

pub mode_word_plain : (m : Mode) → All Plain (mode_word m)
mode_word_plain mode.Apic = literal (codes "apic") refl
mode_word_plain mode.Pic = literal (codes "pic") refl

pub form_plain : (f : Form) → All Plain (form_word f)
form_plain form.Small = literal (codes "small") refl
form_plain form.Extended = literal (codes "extended") refl

pub polarity_plain : (p : Polarity) → All Plain (polarity_word p)
polarity_plain polarity.Low = literal (codes "low") refl
polarity_plain polarity.High = literal (codes "high") refl

pub pin_word_plain : (p : PinName) → All Plain (pin_word p)
pin_word_plain pin.A = literal (codes "A") refl
pin_word_plain pin.B = literal (codes "B") refl
pin_word_plain pin.C = literal (codes "C") refl
pin_word_plain pin.D = literal (codes "D") refl

pub version_plain : (o : Option ReportedOptions) → All Plain (version_word o)
version_plain None = literal (codes "2") refl
version_plain (Some o) = literal (codes "3") refl

pub heading_plain : (o : Option ReportedOptions) → PlainWords (heading_words o)
heading_plain o = key (codes "acpiroute") (version_word o ∷ []) (literal (codes "acpiroute") refl) (key (version_word o) [] (version_plain o) none)

pub mode_plain : (m : Mode) → PlainWords (mode_words m)
mode_plain m = key (codes "mode") (mode_word m ∷ []) (literal (codes "mode") refl) (key (mode_word m) [] (mode_word_plain m) none)

pub io_apic_plain : (a : IoApicLine) → PlainWords (io_apic_words a)
io_apic_plain a =
    let address = encode_upper (to_be_bytes w32 a.address) in
    key (codes "ioapic") (decimal a.id ∷ codes "at" ∷ address ∷ codes "base" ∷ decimal a.gsi_base ∷ []) (literal (codes "ioapic") refl)
    (key (decimal a.id) (codes "at" ∷ address ∷ codes "base" ∷ decimal a.gsi_base ∷ []) (decimal_plain a.id)
    (key (codes "at") (address ∷ codes "base" ∷ decimal a.gsi_base ∷ []) (literal (codes "at") refl)
    (key address (codes "base" ∷ decimal a.gsi_base ∷ []) (upper_plain (to_be_bytes w32 a.address))
    (key (codes "base") (decimal a.gsi_base ∷ []) (literal (codes "base") refl)
    (key (decimal a.gsi_base) [] (decimal_plain a.gsi_base) none)))))

pub override_plain : (o : OverrideLine) → PlainWords (override_words o)
override_plain o =
    let flags = encode_upper (to_be_bytes w16 o.flags) in
    key (codes "override") (decimal o.source ∷ codes "to" ∷ decimal o.gsi ∷ codes "flags" ∷ flags ∷ []) (literal (codes "override") refl)
    (key (decimal o.source) (codes "to" ∷ decimal o.gsi ∷ codes "flags" ∷ flags ∷ []) (decimal_plain o.source)
    (key (codes "to") (decimal o.gsi ∷ codes "flags" ∷ flags ∷ []) (literal (codes "to") refl)
    (key (decimal o.gsi) (codes "flags" ∷ flags ∷ []) (decimal_plain o.gsi)
    (key (codes "flags") (flags ∷ []) (literal (codes "flags") refl)
    (key flags [] (upper_plain (to_be_bytes w16 o.flags)) none)))))

pub source_plain : (s : Option ℕ) → PlainWords (source_words s)
source_plain None = key (codes "none") [] (literal (codes "none") refl) none
source_plain (Some n) = key (decimal n) [] (decimal_plain n) none

pub sci_plain : (s : Option ℕ) → PlainWords (sci_words s)
sci_plain s = key (codes "sci") (source_words s) (literal (codes "sci") refl) (source_plain s)

pub avoid_plain : (ns : List ℕ) → PlainWords (avoid_words ns)
avoid_plain ns = key (codes "avoid") (number_words ns) (literal (codes "avoid") refl) (number_words_plain ns)

pub link_plain : (l : ReportedLink) → PlainWords (link_words l)
link_plain l =
    let now = now_words l.now in
    let tail = map decimal l.offers ++ codes "now" ∷ now in
    key (codes "link") (text_of l.path ∷ form_word l.form ∷ polarity_word l.polarity ∷ codes "offers" ∷ tail) (literal (codes "link") refl)
    (key (text_of l.path) (form_word l.form ∷ polarity_word l.polarity ∷ codes "offers" ∷ tail) (path_plain l.path)
    (key (form_word l.form) (polarity_word l.polarity ∷ codes "offers" ∷ tail) (form_plain l.form)
    (key (polarity_word l.polarity) (codes "offers" ∷ tail) (polarity_plain l.polarity)
    (key (codes "offers") tail (literal (codes "offers") refl)
    (All-append (All Plain) (map decimal l.offers) (codes "now" ∷ now) (decimals l.offers) (key (codes "now") now (literal (codes "now") refl) (now_plain l.now)))))))

pub wired_plain : (w : ℕ × ℕ) → PlainWords (wired_words w)
wired_plain w =
    key (codes "wired") (decimal w.0 ∷ decimal w.1 ∷ []) (literal (codes "wired") refl)
    (key (decimal w.0) (decimal w.1 ∷ []) (decimal_plain w.0) (key (decimal w.1) [] (decimal_plain w.1) none))

pub route_plain : (r : PinRoute) → PlainWords (route_words r)
route_plain (route.Link n p) = key (decimal n) (text_of p ∷ []) (decimal_plain n) (key (text_of p) [] (path_plain p) none)
route_plain (route.Wired n) = key (decimal n) (codes "wired" ∷ []) (decimal_plain n) (key (codes "wired") [] (literal (codes "wired") refl) none)
route_plain (route.Absent p) = key (codes "absent") (text_of p ∷ []) (literal (codes "absent") refl) (key (text_of p) [] (path_plain p) none)

pub pin_plain : (p : PinLine) → PlainWords (pin_words p)
pin_plain p =
    let rest = route_words p.route in
    key (codes "pin") (text_of p.device ∷ decimal p.number ∷ pin_word p.pin ∷ rest) (literal (codes "pin") refl)
    (key (text_of p.device) (decimal p.number ∷ pin_word p.pin ∷ rest) (path_plain p.device)
    (key (decimal p.number) (pin_word p.pin ∷ rest) (decimal_plain p.number)
    (key (pin_word p.pin) rest (pin_word_plain p.pin) (route_plain p.route))))

pub give_plain : (g : List Seg × ℕ) → PlainWords (give_words g)
give_plain g =
    key (codes "give") (text_of g.0 ∷ decimal g.1 ∷ []) (literal (codes "give") refl)
    (key (text_of g.0) (decimal g.1 ∷ []) (path_plain g.0) (key (decimal g.1) [] (decimal_plain g.1) none))

pub busiest_plain : (k : ℕ) → PlainWords (busiest_words k)
busiest_plain k = key (codes "busiest") (decimal k ∷ []) (literal (codes "busiest") refl) (key (decimal k) [] (decimal_plain k) none)

pub set_of_bound_plain : (b : Option BoundingSet) → PlainWords (set_of_bound b)
set_of_bound_plain None = key (codes "none") [] (literal (codes "none") refl) none
set_of_bound_plain (Some b) =
    All-append (All Plain) (path_words b.links) (codes "over" ∷ map decimal b.interrupts) (path_words_plain b.links) (key (codes "over") (map decimal b.interrupts) (literal (codes "over") refl) (decimals b.interrupts))

pub bound_plain : (b : Option BoundingSet) → PlainWords (bound_words b)
bound_plain b = key (codes "bound") (set_of_bound b) (literal (codes "bound") refl) (set_of_bound_plain b)

pub refused_plain : (r : ℕ) → PlainWords (codes "refused" ∷ decimal r ∷ [])
refused_plain r = key (codes "refused") (decimal r ∷ []) (literal (codes "refused") refl) (key (decimal r) [] (decimal_plain r) none)

pub outcome_plain : (o : SetOutcome) → PlainWords (outcome_words o)
outcome_plain outcome.Done = key (codes "ok") [] (literal (codes "ok") refl) none
outcome_plain outcome.NoSetting = key (codes "none") [] (literal (codes "none") refl) none
outcome_plain (outcome.Refused r) = refused_plain r

pub set_plain : (s : SetLine) → PlainWords (set_words s)
set_plain s = key (codes "set") (text_of s.path ∷ outcome_words s.outcome) (literal (codes "set") refl) (key (text_of s.path) (outcome_words s.outcome) (path_plain s.path) (outcome_plain s.outcome))

pub state_plain : (a : AfterState) → PlainWords (state_words a)
state_plain (Now now) = now_plain now
state_plain (Refused r) = refused_plain r

pub after_plain : (a : ReportedAfter) → PlainWords (after_words a)
after_plain a = key (codes "after") (text_of a.path ∷ state_words a.state) (literal (codes "after") refl) (key (text_of a.path) (state_words a.state) (path_plain a.path) (state_plain a.state))

pub section : {X : Type 0} (view : X → Words) → ((x : X) → PlainWords (view x)) → (xs : List X) → All PlainWords (map view xs)
section view plain xs = All-map PlainWords view xs (λ i d l. plain (get_or xs i d))

pub spared_plain : (s : SparedDevice) → PlainWords (spared_words s)
spared_plain s = key (codes "spared") (text_of s.device ∷ map decimal s.interrupts) (literal (codes "spared") refl) (key (text_of s.device) (map decimal s.interrupts) (path_plain s.device) (decimals s.interrupts))

pub unread_plain : (u : UnreadLine) → PlainWords (unread_words u)
unread_plain u =
    key (codes "unread") (text_of u.device ∷ decimal u.refusal ∷ []) (literal (codes "unread") refl)
    (key (text_of u.device) (decimal u.refusal ∷ []) (path_plain u.device) (key (decimal u.refusal) [] (decimal_plain u.refusal) none))

pub rule_plain : (r : Rule) → PlainWords (rule_words r)
rule_plain rule.First = key (codes "first") [] (literal (codes "first") refl) none
rule_plain rule.Spread = key (codes "spread") [] (literal (codes "spread") refl) none

pub trigger_word_plain : (t : Trigger) → All Plain (trigger_word t)
trigger_word_plain trigger.Level = literal (codes "level") refl
trigger_word_plain trigger.Edge = literal (codes "edge") refl

pub triggered_plain : (s : InterruptSource) → PlainWords (triggered_words s)
triggered_plain (source.Link p) = key (codes "link") (text_of p ∷ []) (literal (codes "link") refl) (key (text_of p) [] (path_plain p) none)
triggered_plain (source.Wired n) = key (codes "wired") (decimal n ∷ []) (literal (codes "wired") refl) (key (decimal n) [] (decimal_plain n) none)
triggered_plain (source.Sci n) = key (codes "sci") (decimal n ∷ []) (literal (codes "sci") refl) (key (decimal n) [] (decimal_plain n) none)

pub trigger_plain : (t : TriggerLine) → PlainWords (trigger_words t)
trigger_plain t =
    let how = how_words t.trigger t.polarity in
    key (codes "trigger") (triggered_words t.source ++ how) (literal (codes "trigger") refl)
    (All-append (All Plain) (triggered_words t.source) how (triggered_plain t.source)
    (key (trigger_word t.trigger) (polarity_word t.polarity ∷ []) (trigger_word_plain t.trigger) (key (polarity_word t.polarity) [] (polarity_plain t.polarity) none)))

pub bus_state_plain : (s : BusState) → PlainWords (bus_state_words s)
bus_state_plain (bus.Known segment n) = key (decimal segment) (decimal n ∷ []) (decimal_plain segment) (key (decimal n) [] (decimal_plain n) none)
bus_state_plain (bus.Refused r) = refused_plain r

pub bus_plain : (b : BusLine) → PlainWords (bus_words b)
bus_plain b = key (codes "bus") (text_of b.device ∷ bus_state_words b.state) (literal (codes "bus") refl) (key (text_of b.device) (bus_state_words b.state) (path_plain b.device) (bus_state_plain b.state))

pub kernel_plain : (o : Option ReportedOptions) → All PlainWords (kernel_lines o)
kernel_plain None = All-nil PlainWords
kernel_plain (Some o) = All-append PlainWords (map trigger_words o.triggers) (map bus_words o.buses) (section trigger_words trigger_plain o.triggers) (section bus_words bus_plain o.buses)

pub options_plain : (o : Option ReportedOptions) → All PlainWords (option_lines o)
options_plain None = All-nil PlainWords
options_plain (Some o) =
    let rules = rule_words o.rule ∷ [] in
    All-append PlainWords (map spared_words o.spared) (map unread_words o.unread ++ rules) (section spared_words spared_plain o.spared)
    (All-append PlainWords (map unread_words o.unread) rules (section unread_words unread_plain o.unread) (All-cons PlainWords (rule_words o.rule) [] (rule_plain o.rule) (All-nil PlainWords)))

pub found_plain : (r : RoutingReport) → All PlainWords (found_lines r)
found_plain r =
    let pins = map pin_words r.pins in
    let wireds = map wired_words r.wired ++ pins in
    let links = map link_words r.links ++ wireds in
    let options = option_lines r.options ++ links in
    let others = sci_words r.sci ∷ avoid_words r.avoid ∷ options in
    let overrides = map override_words r.overrides ++ others in
    let io_apics = map io_apic_words r.io_apics ++ overrides in
    All-cons PlainWords (heading_words r.options) (mode_words r.mode ∷ io_apics) (heading_plain r.options)
    (All-cons PlainWords (mode_words r.mode) io_apics (mode_plain r.mode)
    (All-append PlainWords (map io_apic_words r.io_apics) overrides (section io_apic_words io_apic_plain r.io_apics)
    (All-append PlainWords (map override_words r.overrides) others (section override_words override_plain r.overrides)
    (All-cons PlainWords (sci_words r.sci) (avoid_words r.avoid ∷ options) (sci_plain r.sci)
    (All-cons PlainWords (avoid_words r.avoid) options (avoid_plain r.avoid)
    (All-append PlainWords (option_lines r.options) links (options_plain r.options)
    (All-append PlainWords (map link_words r.links) wireds (section link_words link_plain r.links)
    (All-append PlainWords (map wired_words r.wired) pins (section wired_words wired_plain r.wired) (section pin_words pin_plain r.pins)))))))))

pub chosen_plain : (r : RoutingReport) → All PlainWords (chosen_lines r)
chosen_plain r =
    let kernel = kernel_lines r.options in
    let afters = map after_words r.afters ++ kernel in
    let sets = map set_words r.sets ++ afters in
    All-append PlainWords (map give_words r.gives) (busiest_words r.busiest ∷ bound_words r.bound ∷ sets) (section give_words give_plain r.gives)
    (All-cons PlainWords (busiest_words r.busiest) (bound_words r.bound ∷ sets) (busiest_plain r.busiest)
    (All-cons PlainWords (bound_words r.bound) sets (bound_plain r.bound)
    (All-append PlainWords (map set_words r.sets) afters (section set_words set_plain r.sets) (All-append PlainWords (map after_words r.afters) kernel (section after_words after_plain r.afters) (kernel_plain r.options)))))
