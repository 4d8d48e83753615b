-- All lines of a report, section by section.
use Rattle.std.proofs.Common.{◌≡◌, ◌∙◌, ap, ap₂, sym, refl, ℕ, ◌+◌, ◌<◌, ◌≤◌, ◌^◌, List, [], ◌∷◌, ◌++◌, length, map, get_or, arith, append_assoc, append-nil, length-append, Ok, None, Some, Option}
use Rattle.std.specs.Prelude.{All, codes, decimal}
use Rattle.std.proofs.lemmas.List.Elements.{All-nil, All-cons, All-head, All-tail, All-append, All-map}
use Rattle.std.specs.Int.{to_be_bytes, w16, w32}
use Rattle.hex.specs.Hex.{encode_upper}
use Rattle.ar_space.specs.Outcome.{Outcome, ◌>>=◌}
use Rattle.aml_path.specs.declared.segment.Seg.{Seg}
use Rattle.aml_path.specs.Text.{text_of}
use Rattle.route_check.specs.Claims.{BoundingSet, RoutingClaim}
use Rattle.route_report.specs.Lines.{joined}
use Rattle.route_report.specs.Reading.{Said, first_said, line, keyed, claimless, heading, expected, claimed, lines_read, all_read, claim_of_text}
use Rattle.ar_tables.specs.declared.mode.Mode.{Mode}
use Rattle.ar_tables.specs.declared.mode.Mode.TheVariants as mode
use Rattle.acpi_resources.specs.declared.form.Form.{Form}
use Rattle.acpi_resources.specs.declared.form.Form.TheVariants as form
use Rattle.acpi_resources.specs.declared.form.Polarity.{Polarity}
use Rattle.acpi_resources.specs.declared.form.Polarity.TheVariants as polarity
use Rattle.route_report.specs.declared.version.Version.TheVariants as version
use Rattle.route_report.specs.declared.report.PinName.{PinName}
use Rattle.route_report.specs.declared.report.PinName.TheVariants as pin
use Rattle.route_report.specs.declared.report.IoApicLine.{IoApicLine}
use Rattle.route_report.specs.declared.report.OverrideLine.{OverrideLine}
use Rattle.route_report.specs.declared.report.PinRoute.{PinRoute}
use Rattle.route_report.specs.declared.report.PinRoute.TheVariants as route
use Rattle.route_report.specs.declared.report.PinLine.{PinLine}
use Rattle.route_report.specs.declared.report.SetOutcome.{SetOutcome}
use Rattle.route_report.specs.declared.report.SetOutcome.TheVariants as outcome
use Rattle.route_report.specs.declared.report.SetLine.{SetLine}
use Rattle.route_report.specs.declared.report.UnreadLine.{UnreadLine}
use Rattle.route_report.specs.declared.report.Rule.{Rule}
use Rattle.route_report.specs.declared.report.Rule.TheVariants as rule
use Rattle.route_report.specs.declared.report.InterruptSource.{InterruptSource}
use Rattle.route_report.specs.declared.report.InterruptSource.TheVariants as source
use Rattle.route_report.specs.declared.report.Trigger.{Trigger}
use Rattle.route_report.specs.declared.report.Trigger.TheVariants as trigger
use Rattle.route_report.specs.declared.report.TriggerLine.{TriggerLine}
use Rattle.route_report.specs.declared.report.BusState.{BusState}
use Rattle.route_report.specs.declared.report.BusState.TheVariants as bus
use Rattle.route_report.specs.declared.report.BusLine.{BusLine}
use Rattle.route_report.specs.Reports.{ReportedLink, AfterState, Now, Refused, ReportedAfter, SparedDevice, ReportedOptions, RoutingReport}
use Rattle.route_report.specs.Printing.{Words, mode_word, form_word, polarity_word, pin_word, number_words, path_words, now_words, version_word, heading_words, mode_words, io_apic_words, override_words, source_words, sci_words, avoid_words, spared_words, unread_words, rule_words, option_lines, link_words, wired_words, route_words, pin_words, give_words, busiest_words, set_of_bound, bound_words, outcome_words, set_words, state_words, after_words, trigger_word, how_words, triggered_words, trigger_words, bus_state_words, bus_words, kernel_lines, found_lines, chosen_lines, text_of_report}
use Rattle.route_report.specs.Readable.{link_of, spared_numbers, spared_by, spared_devices, unread_devices, claim_of_report, IsReadableOffer, IsReadable, IsSmall, IsSmallSource, IsSmallBus, triggers_told, buses_told, rule_by}
use Rattle.route_report.proofs.Plain.{Plain, PlainWords, literal, decimal_plain, upper_plain, path_plain, words_again, lines_again}
use Rattle.route_report.proofs.PlainLines.{none, mode_plain, io_apic_plain, override_plain, sci_plain, avoid_plain, link_plain, wired_plain, pin_plain, give_plain, busiest_plain, bound_plain, set_plain, after_plain, section, spared_plain, unread_plain, rule_plain, trigger_plain, bus_plain, found_plain, chosen_plain}
use Rattle.route_report.proofs.Again.{PathsAreReadBack, link_again, wired_again, sci_again, avoid_again, spared_again, unread_again, trigger_again, bus_again, rule_again, give_again, busiest_again, bound_again}

-- the rest of a report's lines
abbrev reads : ℕ → List Words → Said → Outcome RoutingClaim
reads n ls d = lines_read n (map joined ls) d

reads_on : (n : ℕ) (w : List ℕ) (ws : Words) (ls : List Words) (d e : Said) → PlainWords (w ∷ ws) → line n (w ∷ ws) d ≡ Ok e → reads n ((w ∷ ws) ∷ ls) d ≡ reads (n + 1) ls e
unfolding lines_read ◌>>=◌
reads_on n w ws ls d e plain is = rw (words_again w ws plain, is) refl

abbrev Reaches : ℕ → List Words → Said → List Words → Said → Type 0
Reaches n ls d rest e = (m : ℕ) × (reads n ls d ≡ reads m rest e)

reach : (n : ℕ) (w : List ℕ) (ws : Words) (ls : List Words) (d e : Said) (rest : List Words) (f : Said) → PlainWords (w ∷ ws) → line n (w ∷ ws) d ≡ Ok e → Reaches (n + 1) ls e rest f → Reaches n ((w ∷ ws) ∷ ls) d rest f
reach n w ws ls d e rest f plain is r = (r.0, reads_on n w ws ls d e plain is ∙ r.1)

-- lines that claim nothing
over : {X : Type 0} (k : List ℕ) (tail : X → Words) → ((x : X) → PlainWords (k ∷ tail x)) → ((n : ℕ) (x : X) (d : Said) → line n (k ∷ tail x) d ≡ Ok d)
    → (n : ℕ) (xs : List X) (rest : List Words) (d : Said) → Reaches n (map (λ x. k ∷ tail x) xs ++ rest) d rest d
over k tail plain passes n [] rest d = (n, refl)
over k tail plain passes n (x ∷ xs) rest d = reach n k (tail x) (map (λ y. k ∷ tail y) xs ++ rest) d d rest d (plain x) (passes n x d) (over k tail plain passes (n + 1) xs rest d)

mode_passed : (n : ℕ) (m : Mode) (d : Said) → line n (mode_words m) d ≡ Ok d
unfolding line keyed claimless ◌>>=◌
mode_passed n m d = refl

io_apic_passed : (n : ℕ) (a : IoApicLine) (d : Said) → line n (io_apic_words a) d ≡ Ok d
unfolding line keyed claimless ◌>>=◌
io_apic_passed n a d = refl

override_passed : (n : ℕ) (o : OverrideLine) (d : Said) → line n (override_words o) d ≡ Ok d
unfolding line keyed claimless ◌>>=◌
override_passed n o d = refl

pin_passed : (n : ℕ) (p : PinLine) (d : Said) → line n (pin_words p) d ≡ Ok d
unfolding line keyed claimless ◌>>=◌
pin_passed n p d = refl

set_passed : (n : ℕ) (s : SetLine) (d : Said) → line n (set_words s) d ≡ Ok d
unfolding line keyed claimless ◌>>=◌
set_passed n s d = refl

after_passed : (n : ℕ) (a : ReportedAfter) (d : Said) → line n (after_words a) d ≡ Ok d
unfolding line keyed claimless ◌>>=◌
after_passed n a d = refl

-- lines that add to what is claimed
all_links : (back : PathsAreReadBack) (n : ℕ) (ls : List ReportedLink) (rest : List Words) (d : Said) → length d.links + length ls ≤ 256 → All (λ l. IsReadableOffer l.offers) ls → All (λ l. All (λ m. m < 2 ^ 32) l.offers) ls
    → Reaches n (map link_words ls ++ rest) d rest (record d { links = d.links ++ map link_of ls })
all_links back n [] rest d room readable small = (n, ap (λ ls. reads n rest (record d { links = ls })) (sym (append-nil d.links)))
all_links back n (l ∷ ls) rest d room readable small =
    let e : Said = record d { links = d.links ++ link_of l ∷ [] } in
    let long = length-append d.links (link_of l ∷ []) in
    let tail = text_of l.path ∷ form_word l.form ∷ polarity_word l.polarity ∷ codes "offers" ∷ (map decimal l.offers ++ codes "now" ∷ now_words l.now) in
    let r = all_links back (n + 1) ls rest e (omega arith) (All-tail (λ x. IsReadableOffer x.offers) l ls readable) (All-tail (λ x. All (λ m. m < 2 ^ 32) x.offers) l ls small) in
    let s = reach n (codes "link") tail (map link_words ls ++ rest) d e rest (record e { links = e.links ++ map link_of ls }) (link_plain l)
    (link_again back n l d (omega arith) (All-head (λ x. IsReadableOffer x.offers) l ls readable) (All-head (λ x. All (λ m. m < 2 ^ 32) x.offers) l ls small)) r in
    (s.0, s.1 ∙ ap (λ xs. reads s.0 rest (record d { links = xs })) (append_assoc d.links (link_of l ∷ []) (map link_of ls)))

all_wired : (n : ℕ) (ws : List (ℕ × ℕ)) (rest : List Words) (d : Said) → length d.wired + length ws ≤ 4096 → All (λ w. (w.0 < 2 ^ 32) × (w.1 < 2 ^ 32)) ws
    → Reaches n (map wired_words ws ++ rest) d rest (record d { wired = d.wired ++ ws })
all_wired n [] rest d room small = (n, ap (λ ws. reads n rest (record d { wired = ws })) (sym (append-nil d.wired)))
all_wired n (w ∷ ws) rest d room small =
    let e : Said = record d { wired = d.wired ++ w ∷ [] } in
    let long = length-append d.wired (w ∷ []) in
    let r = all_wired (n + 1) ws rest e (omega arith) (All-tail (λ x. (x.0 < 2 ^ 32) × (x.1 < 2 ^ 32)) w ws small) in
    let s = reach n (codes "wired") (decimal w.0 ∷ decimal w.1 ∷ []) (map wired_words ws ++ rest) d e rest (record e { wired = e.wired ++ ws }) (wired_plain w)
    (wired_again n w d (omega arith) (All-head (λ x. (x.0 < 2 ^ 32) × (x.1 < 2 ^ 32)) w ws small)) r in
    (s.0, s.1 ∙ ap (λ xs. reads s.0 rest (record d { wired = xs })) (append_assoc d.wired (w ∷ []) ws))

all_gives : (back : PathsAreReadBack) (n : ℕ) (gs : List (List Seg × ℕ)) (rest : List Words) (d : Said) → All (λ g. g.1 < 2 ^ 32) gs → Reaches n (map give_words gs ++ rest) d rest (record d { gives = d.gives ++ gs })
all_gives back n [] rest d small = (n, ap (λ gs. reads n rest (record d { gives = gs })) (sym (append-nil d.gives)))
all_gives back n (g ∷ gs) rest d small =
    let e : Said = record d { gives = d.gives ++ g ∷ [] } in
    let r = all_gives back (n + 1) gs rest e (All-tail (λ x. x.1 < 2 ^ 32) g gs small) in
    let s = reach n (codes "give") (text_of g.0 ∷ decimal g.1 ∷ []) (map give_words gs ++ rest) d e rest (record e { gives = e.gives ++ gs }) (give_plain g) (give_again back n g d (All-head (λ x. x.1 < 2 ^ 32) g gs small)) r in
    (s.0, s.1 ∙ ap (λ xs. reads s.0 rest (record d { gives = xs })) (append_assoc d.gives (g ∷ []) gs))

-- one section after another
next : (n : ℕ) (ls : List Words) (d : Said) (rest : List Words) (e : Said) (last : List Words) (f : Said) → Reaches n ls d rest e → ((m : ℕ) → Reaches m rest e last f) → Reaches n ls d last f
next n ls d rest e last f r go = let s = go r.0 in (s.0, r.1 ∙ s.1)

-- what the first line says of options
abbrev spared_at_first : Option ReportedOptions → Option (List ℕ)
spared_at_first None = None
spared_at_first (Some o) = Some []

abbrev rule_at_first : Option ReportedOptions → Option Rule
rule_at_first None = Some rule.First
rule_at_first (Some o) = None

all_spared : (back : PathsAreReadBack) (n : ℕ) (ss : List SparedDevice) (rest : List Words) (d : Said) (ms : List ℕ) → d.spared ≡ Some ms → All (λ s. 0 < length s.interrupts) ss → All (λ s. All (λ m. m < 2 ^ 32) s.interrupts) ss
    → Reaches n (map spared_words ss ++ rest) d rest (record d { spared = Some (ms ++ spared_numbers ss) })
unfolding spared_numbers
all_spared back n [] rest d ms is some small = (n, ap (λ (o : Option (List ℕ)). reads n rest (record d { spared = o })) (is ∙ ap Some (sym (append-nil ms))))
all_spared back n (s ∷ ss) rest d ms is some small =
    let e : Said = record d { spared = Some (ms ++ s.interrupts) } in
    let r = all_spared back (n + 1) ss rest e (ms ++ s.interrupts) refl (All-tail (λ x. 0 < length x.interrupts) s ss some) (All-tail (λ x. All (λ m. m < 2 ^ 32) x.interrupts) s ss small) in
    let t = reach n (codes "spared") (text_of s.device ∷ map decimal s.interrupts) (map spared_words ss ++ rest) d e rest (record e { spared = Some ((ms ++ s.interrupts) ++ spared_numbers ss) }) (spared_plain s)
    (spared_again back n s d ms is (All-head (λ x. 0 < length x.interrupts) s ss some) (All-head (λ x. All (λ m. m < 2 ^ 32) x.interrupts) s ss small)) r in
    (t.0, t.1 ∙ ap (λ (xs : List ℕ). reads t.0 rest (record d { spared = Some xs })) (append_assoc ms s.interrupts (spared_numbers ss)))

all_unread : (back : PathsAreReadBack) (n : ℕ) (us : List UnreadLine) (rest : List Words) (d : Said) (ms : List ℕ) → d.spared ≡ Some ms → All (λ u. u.refusal < 2 ^ 32) us → Reaches n (map unread_words us ++ rest) d rest d
all_unread back n [] rest d ms is small = (n, refl)
all_unread back n (u ∷ us) rest d ms is small =
    reach n (codes "unread") (text_of u.device ∷ decimal u.refusal ∷ []) (map unread_words us ++ rest) d d rest d (unread_plain u) (unread_again back n u d ms is (All-head (λ x. x.refusal < 2 ^ 32) u us small))
    (all_unread back (n + 1) us rest d ms is (All-tail (λ x. x.refusal < 2 ^ 32) u us small))

all_triggers : (back : PathsAreReadBack) (n : ℕ) (ts : List TriggerLine) (rest : List Words) (d : Said) (ms : List ℕ) → d.spared ≡ Some ms → All (λ t. IsSmallSource t.source) ts → Reaches n (map trigger_words ts ++ rest) d rest d
all_triggers back n [] rest d ms is small = (n, refl)
all_triggers back n (t ∷ ts) rest d ms is small =
    reach n (codes "trigger") (triggered_words t.source ++ how_words t.trigger t.polarity) (map trigger_words ts ++ rest) d d rest d (trigger_plain t) (trigger_again back n t d ms is (All-head (λ x. IsSmallSource x.source) t ts small))
    (all_triggers back (n + 1) ts rest d ms is (All-tail (λ x. IsSmallSource x.source) t ts small))

all_buses : (back : PathsAreReadBack) (n : ℕ) (bs : List BusLine) (rest : List Words) (d : Said) (ms : List ℕ) → d.spared ≡ Some ms → All (λ b. IsSmallBus b.state) bs → Reaches n (map bus_words bs ++ rest) d rest d
all_buses back n [] rest d ms is small = (n, refl)
all_buses back n (b ∷ bs) rest d ms is small =
    reach n (codes "bus") (text_of b.device ∷ bus_state_words b.state) (map bus_words bs ++ rest) d d rest d (bus_plain b) (bus_again back n b d ms is (All-head (λ x. IsSmallBus x.state) b bs small))
    (all_buses back (n + 1) bs rest d ms is (All-tail (λ x. IsSmallBus x.state) b bs small))

rule_read : (n : ℕ) (r : Rule) (rest : List Words) (d : Said) → d.rule ≡ None → Reaches n (rule_words r ∷ rest) d rest (record d { rule = Some r })
rule_read n rule.First rest d none = let e : Said = record d { rule = Some rule.First } in reach n (codes "first") [] rest d e rest e (rule_plain rule.First) (rule_again n rule.First d none) (n + 1, refl)
rule_read n rule.Spread rest d none = let e : Said = record d { rule = Some rule.Spread } in reach n (codes "spread") [] rest d e rest e (rule_plain rule.Spread) (rule_again n rule.Spread d none) (n + 1, refl)

options_read : (back : PathsAreReadBack) (n : ℕ) (o : Option ReportedOptions) (rest : List Words) (d : Said) → d.spared ≡ spared_at_first o → d.rule ≡ rule_at_first o
    → All (λ s. 0 < length s.interrupts) (spared_devices o) → All (λ s. All (λ m. m < 2 ^ 32) s.interrupts) (spared_devices o) → All (λ u. u.refusal < 2 ^ 32) (unread_devices o)
    → Reaches n (option_lines o ++ rest) d rest (record d { spared = spared_by o; rule = Some (rule_by o) })
options_read back n None rest d is ruled some small few = (n, ap (λ (p : Option (List ℕ) × Option Rule). reads n rest (record d { spared = p.0; rule = p.1 })) (ap₂ (λ (s : Option (List ℕ)) (r : Option Rule). (s, r)) is ruled))
options_read back n (Some o) rest d is ruled some small few =
    let rules = rule_words o.rule ∷ rest in
    let unreads = map unread_words o.unread ++ rules in
    let e : Said = record d { spared = Some (spared_numbers o.spared) } in
    let f : Said = record e { rule = Some o.rule } in
    let spareds = next n (map spared_words o.spared ++ unreads) d unreads e rest f (all_spared back n o.spared unreads d [] is some small)
    (λ m. next m unreads e rules e rest f (all_unread back m o.unread rules e (spared_numbers o.spared) refl few) (λ k. rule_read k o.rule rest e ruled)) in
    (spareds.0, ap (λ ls. reads n ls d) (simp append_assoc refl) ∙ spareds.1)

kernel_read : (back : PathsAreReadBack) (n : ℕ) (o : Option ReportedOptions) (rest : List Words) (d : Said) → d.spared ≡ spared_by o → All (λ t. IsSmallSource t.source) (triggers_told o) → All (λ b. IsSmallBus b.state) (buses_told o)
    → Reaches n (kernel_lines o ++ rest) d rest d
kernel_read back n None rest d is triggers buses = (n, refl)
kernel_read back n (Some o) rest d is triggers buses =
    let buses_left = map bus_words o.buses ++ rest in
    let read = next n (map trigger_words o.triggers ++ buses_left) d buses_left d rest d (all_triggers back n o.triggers buses_left d (spared_numbers o.spared) is triggers)
    (λ m. all_buses back m o.buses rest d (spared_numbers o.spared) is buses) in
    (read.0, ap (λ ls. reads n ls d) (simp append_assoc refl) ∙ read.1)

-- what the first line says
abbrev blank : Option ReportedOptions → Said
blank o = record { links = []; wired = []; sci = None; avoid = None; spared = spared_at_first o; rule = rule_at_first o; gives = []; busiest = None; bound = None }

abbrev sourced : RoutingReport → Said
sourced r = record (blank r.options) { sci = Some r.sci }

abbrev avoided : RoutingReport → Said
avoided r = record (sourced r) { avoid = Some r.avoid }

abbrev optioned : RoutingReport → Said
optioned r = record (avoided r) { spared = spared_by r.options; rule = Some (rule_by r.options) }

abbrev linked : RoutingReport → Said
linked r = record (optioned r) { links = map link_of r.links }

abbrev with_wires : RoutingReport → Said
with_wires r = record (linked r) { wired = r.wired }

abbrev given : RoutingReport → Said
given r = record (with_wires r) { gives = r.gives }

abbrev busy : RoutingReport → Said
busy r = record (given r) { busiest = Some r.busiest }

abbrev all_said : RoutingReport → Said
all_said r = record (busy r) { bound = Some r.bound }

abbrev last_lines : RoutingReport → List Words
last_lines r = map set_words r.sets ++ (map after_words r.afters ++ (kernel_lines r.options ++ []))

abbrev chosen_rest : RoutingReport → List Words
chosen_rest r = busiest_words r.busiest ∷ bound_words r.bound ∷ last_lines r

abbrev all_lines : RoutingReport → List Words
all_lines r = mode_words r.mode ∷ (map io_apic_words r.io_apics ++ (map override_words r.overrides
    ++ (sci_words r.sci ∷ avoid_words r.avoid ∷ (option_lines r.options ++ (map link_words r.links ++ (map wired_words r.wired ++ (map pin_words r.pins ++ (map give_words r.gives ++ chosen_rest r))))))))

flat : (r : RoutingReport) → found_lines r ++ chosen_lines r ≡ heading_words r.options ∷ all_lines r
flat r = simp (append_assoc, append-nil) refl

read_last : (back : PathsAreReadBack) (r : RoutingReport) → IsSmall r → (d : Said) → d.spared ≡ spared_by r.options → (n : ℕ) → Reaches n (last_lines r) d [] d
read_last back r small d is n =
    let kernel = kernel_lines r.options ++ [] in
    let afters = map after_words r.afters ++ kernel in
    next n (last_lines r) d afters d [] d (over (codes "set") (λ (s : SetLine). text_of s.path ∷ outcome_words s.outcome) set_plain set_passed n r.sets afters d)
    (λ m. next m afters d kernel d [] d (over (codes "after") (λ (a : ReportedAfter). text_of a.path ∷ state_words a.state) after_plain after_passed m r.afters kernel d)
    (λ m. kernel_read back m r.options [] d is small.triggers small.buses))

read_chosen : (back : PathsAreReadBack) (r : RoutingReport) → IsSmall r → (n : ℕ) → Reaches n (map give_words r.gives ++ chosen_rest r) (with_wires r) [] (all_said r)
read_chosen back r small n =
    next n (map give_words r.gives ++ chosen_rest r) (with_wires r) (chosen_rest r) (given r) [] (all_said r) (all_gives back n r.gives (chosen_rest r) (with_wires r) small.gives)
    (λ m. reach m (codes "busiest") (decimal r.busiest ∷ []) (bound_words r.bound ∷ last_lines r) (given r) (busy r) [] (all_said r) (busiest_plain r.busiest) (busiest_again m r.busiest (given r) refl small.busiest)
    (reach (m + 1) (codes "bound") (set_of_bound r.bound) (last_lines r) (busy r) (all_said r) [] (all_said r) (bound_plain r.bound) (bound_again back (m + 1) r.bound (busy r) refl small.interrupts)
    (read_last back r small (all_said r) refl (m + 1 + 1))))

read_all : (back : PathsAreReadBack) (r : RoutingReport) → IsReadable r → IsSmall r → (n : ℕ) → Reaches n (all_lines r) (blank r.options) [] (all_said r)
read_all back r readable small n =
    let gives = map give_words r.gives ++ chosen_rest r in
    let pins = map pin_words r.pins ++ gives in
    let wireds = map wired_words r.wired ++ pins in
    let links = map link_words r.links ++ wireds in
    let options = option_lines r.options ++ links in
    let others = sci_words r.sci ∷ avoid_words r.avoid ∷ options in
    let overrides = map override_words r.overrides ++ others in
    let io_apics = map io_apic_words r.io_apics ++ overrides in
    let few_links = readable.few_links in
    let few_wired = readable.few_wired in
    let d = blank r.options in
    let e = all_said r in
    reach n (codes "mode") (mode_word r.mode ∷ []) io_apics d d [] e (mode_plain r.mode) (mode_passed n r.mode d)
    (next (n + 1) io_apics d overrides d [] e (over (codes "ioapic") (λ (a : IoApicLine). decimal a.id ∷ codes "at" ∷ encode_upper (to_be_bytes w32 a.address) ∷ codes "base" ∷ decimal a.gsi_base ∷ []) io_apic_plain io_apic_passed (n + 1) r.io_apics overrides d)
    (λ m. next m overrides d others d [] e (over (codes "override") (λ (o : OverrideLine). decimal o.source ∷ codes "to" ∷ decimal o.gsi ∷ codes "flags" ∷ encode_upper (to_be_bytes w16 o.flags) ∷ []) override_plain override_passed m r.overrides others d)
    (λ m. reach m (codes "sci") (source_words r.sci) (avoid_words r.avoid ∷ options) d (sourced r) [] e (sci_plain r.sci) (sci_again m r.sci d refl small.sci)
    (reach (m + 1) (codes "avoid") (number_words r.avoid) options (sourced r) (avoided r) [] e (avoid_plain r.avoid) (avoid_again (m + 1) r.avoid (sourced r) refl readable.avoid small.avoid)
    (next (m + 1 + 1) options (avoided r) links (optioned r) [] e (options_read back (m + 1 + 1) r.options links (avoided r) refl refl readable.spared small.spared small.unread)
    (λ m. next m links (optioned r) wireds (linked r) [] e (all_links back m r.links wireds (optioned r) (omega arith) readable.offers small.offers)
    (λ m. next m wireds (linked r) pins (with_wires r) [] e (all_wired m r.wired pins (linked r) (omega arith) small.wired)
    (λ m. next m pins (with_wires r) gives (with_wires r) [] e (over (codes "pin") (λ (p : PinLine). text_of p.device ∷ decimal p.number ∷ pin_word p.pin ∷ route_words p.route) pin_plain pin_passed m r.pins gives (with_wires r))
    (λ m. read_chosen back r small m)))))))))

ended : (r : RoutingReport) (n : ℕ) → reads n [] (all_said r) ≡ Ok (claim_of_report r)
unfolding lines_read claimed ◌>>=◌
ended r n = refl

headed : (o : Option ReportedOptions) (ls : List Words) → all_read (map joined (heading_words o ∷ ls)) ≡ reads 2 ls (blank o)
unfolding all_read heading expected ◌>>=◌
headed None ls = refl
headed (Some o) ls = refl

pub read_back : (back : PathsAreReadBack) (r : RoutingReport) → IsReadable r → IsSmall r → claim_of_text (text_of_report r) ≡ Ok (claim_of_report r)
unfolding claim_of_text text_of_report
read_back back r readable small =
    let all = read_all back r readable small 2 in
    ap all_read (lines_again (found_lines r ++ chosen_lines r) (All-append PlainWords (found_lines r) (chosen_lines r) (found_plain r) (chosen_plain r)) ∙ ap (map joined) (flat r))
    ∙ (headed r.options (all_lines r) ∙ (all.1 ∙ ended r all.0))
