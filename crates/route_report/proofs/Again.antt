-- Lines that are printed say what they were printed of.
use Rattle.std.proofs.Common.{◌≡◌, ◌∙◌, ap, refl, subst, ℕ, ◌<◌, ◌^◌, List, [], ◌∷◌, ◌++◌, length, map, Bool, true, false, arith, append_assoc, append-nil, Ok, Some, None, Option}
use Rattle.std.specs.Prelude.{All, codes, decimal, nat_lt, option_to_list}
use Rattle.std.specs.List.Sorted.{IsStrictlyIncreasing}
use Rattle.std.specs.Str.{bytes_eq}
use Rattle.std.specs.Str.Parse.{AllDigits}
use Rattle.std.proofs.lemmas.Bool.{lt-ltb}
use Rattle.std.proofs.lemmas.Fmt.{decimal_is_IsNumeral}
use Rattle.std.proofs.lemmas.List.Elements.{All-head, All-tail}
use Rattle.ar_space.specs.Outcome.{Outcome, ◌>>=◌}
use Rattle.aml_path.specs.declared.segment.Seg.{Seg}
use Rattle.aml_path.specs.Text.{text_of, path_of_text}
use Rattle.route_check.specs.Claims.{BoundingSet, interrupts_of_bound}
use Rattle.route_report.specs.Reading.{Said, ascends, here, number_here, path_here, named, numbered, one_of, expected, offered, offers, with_next, until, link, link_line, with_link, wired, wired_line, with_wired, sci, sci_line, with_sci, ascending_after, avoid, avoid_line, with_avoid, give, give_line, with_give, busiest, busiest_line, with_busiest, with_path, set_links, with_number, numbers_after, set, bound, bound_line, with_bound, some_numbers, spared, spared_line, with_spared, unread, unread_line, with_option, triggered, link_triggered, number_triggered, source_triggered, trigger, trigger_line, bus_refused, bus_known, bus_state, bus, bus_line, claimless, rule_line, with_rule, keyed, line}
use Rattle.acpi_resources.specs.declared.form.Form.{Form}
use Rattle.acpi_resources.specs.declared.form.Form.TheVariants as form
use Rattle.acpi_resources.specs.declared.form.Polarity.{Polarity}
use Rattle.acpi_resources.specs.declared.form.Polarity.TheVariants as polarity
use Rattle.route_report.specs.Reports.{ReportedLink, SparedDevice}
use Rattle.route_report.specs.Printing.{Words, form_word, polarity_word, now_words, link_words, wired_words, sci_words, source_words, number_words, avoid_words, spared_words, unread_words, trigger_word, how_words, triggered_words, trigger_words, bus_state_words, bus_words, rule_words, give_words, busiest_words, path_words, set_of_bound, bound_words}
use Rattle.route_report.specs.declared.report.UnreadLine.{UnreadLine}
use Rattle.route_report.specs.declared.report.InterruptSource.{InterruptSource}
use Rattle.route_report.specs.declared.report.InterruptSource.TheVariants as source
use Rattle.route_report.specs.declared.report.Trigger.{Trigger}
use Rattle.route_report.specs.declared.report.Trigger.TheVariants as triggers
use Rattle.route_report.specs.declared.report.TriggerLine.{TriggerLine}
use Rattle.route_report.specs.declared.report.BusState.{BusState}
use Rattle.route_report.specs.declared.report.BusState.TheVariants as state
use Rattle.route_report.specs.declared.report.BusLine.{BusLine}
use Rattle.route_report.specs.declared.report.Rule.{Rule}
use Rattle.route_report.specs.declared.report.Rule.TheVariants as rule
use Rattle.route_report.specs.Readable.{link_of, IsReadableOffer, IsSmallSource, IsSmallBus}
use Rattle.route_report.proofs.Ascending.{increasing_tail}
use Rattle.route_report.proofs.Decimals.{same_bytes, equal_bytes, number_of_decimal}

-- the law of paths that a report's law rests on
abbrev pub PathsAreReadBack : Type 0
PathsAreReadBack = (p : List Seg) → path_of_text (text_of p) ≡ Ok p

then_ok : {A B : Type 0} (m : Outcome A) (k : A → Outcome B) (a : A) → m ≡ Ok a → (m >>= k) ≡ k a
unfolding ◌>>=◌
then_ok m k a is = ap (λ x. x >>= k) is

number_again : (n k : ℕ) → k < 2 ^ 32 → number_here n (decimal k) ≡ Ok k
number_again n k small = ap (here n) (number_of_decimal k small)

path_again : (back : PathsAreReadBack) (n : ℕ) (p : List Seg) → path_here n (text_of p) ≡ Ok p
unfolding path_here ◌>>=◌
path_again back n p = rw (back p, same_bytes (text_of p)) refl

named_again : (back : PathsAreReadBack) (n : ℕ) (p : List Seg) (ws : Words) → named n (text_of p ∷ ws) ≡ Ok (p, ws)
unfolding named ◌>>=◌
named_again back n p ws = rw (path_again back n p) refl

numbered_again : (n k : ℕ) (ws : Words) → k < 2 ^ 32 → numbered n (decimal k ∷ ws) ≡ Ok (k, ws)
unfolding numbered ◌>>=◌
numbered_again n k ws small = rw (number_of_decimal k small) refl

-- a number is no word of letters
no_number_by : (k : ℕ) (c : ℕ) (cs : List ℕ) (t : Bool) → bytes_eq (decimal k) (c ∷ cs) ≡ t → k < 2 ^ 32 → (AllDigits 10 (c ∷ cs) → ⊥) → bytes_eq (decimal k) (c ∷ cs) ≡ false
no_number_by k c cs true is small not = absurd (not (subst (AllDigits 10) (equal_bytes (decimal k) (c ∷ cs) is) (decimal_is_IsNumeral k (omega arith)).0.1))
no_number_by k c cs false is small not = is

not_now : (k : ℕ) → k < 2 ^ 32 → bytes_eq (decimal k) (codes "now") ≡ false
not_now k small = no_number_by k 110 (111 ∷ 119 ∷ []) (bytes_eq (decimal k) (codes "now")) refl small (λ h. let bad = h.0 in omega arith)

ascends_push : (os : List ℕ) (k m : ℕ) → ascends (os ++ k ∷ []) m ≡ nat_lt k m
ascends_push [] k m = refl
ascends_push (x ∷ []) k m = refl
ascends_push (x ∷ y ∷ ys) k m = ascends_push (y ∷ ys) k m

next_again : (n : ℕ) (os : List ℕ) (k : ℕ) → k < 2 ^ 32 → ascends os k ≡ true → with_next n os (decimal k) ≡ Ok (os ++ k ∷ [])
unfolding with_next ◌>>=◌
next_again n os k small is = rw (number_of_decimal k small, is) refl

until_now : (n : ℕ) (os : List ℕ) (k : ℕ) (ks : List ℕ) (rest : Words) → IsStrictlyIncreasing (k ∷ ks) → All (λ m. m < 2 ^ 32) ks
    → until n (codes "now") (with_next n) (os ++ k ∷ []) (map decimal ks ++ codes "now" ∷ rest) ≡ Ok (os ++ k ∷ ks, rest)
unfolding until ◌>>=◌
until_now n os k [] rest up small = refl
until_now n os k (m ∷ ms) rest up small =
    let less : k < m = up 0 (omega arith) in
    let here = All-head (λ x. x < 2 ^ 32) m ms small in
    let done = os ++ k ∷ [] in
    let step = next_again n done m here (ascends_push os k m ∙ lt-ltb k m less) in
    rw (not_now m here, step) (until_now n done m ms rest (increasing_tail k (m ∷ ms) up) (All-tail (λ x. x < 2 ^ 32) m ms small)
    ∙ ap (λ xs. Ok (xs, rest)) (append_assoc os (k ∷ []) (m ∷ ms)))

offers_again : (n k : ℕ) (ks : List ℕ) (rest : Words) → IsStrictlyIncreasing (k ∷ ks) → All (λ m. m < 2 ^ 32) (k ∷ ks) → offers n (map decimal (k ∷ ks) ++ codes "now" ∷ rest) ≡ Ok (k ∷ ks)
unfolding offers ◌>>=◌
offers_again n k ks rest up small =
    rw (next_again n [] k (All-head (λ x. x < 2 ^ 32) k ks small) refl, until_now n [] k ks rest up (All-tail (λ x. x < 2 ^ 32) k ks small)) refl

offered_again : (n : ℕ) (f : Form) (p : Polarity) (ws : Words) → offered n (form_word f ∷ polarity_word p ∷ codes "offers" ∷ ws) ≡ offers n ws
unfolding offered one_of expected ◌>>=◌
offered_again n form.Small polarity.Low ws = refl
offered_again n form.Small polarity.High ws = refl
offered_again n form.Extended polarity.Low ws = refl
offered_again n form.Extended polarity.High ws = refl

offer_words : (n : ℕ) (os : List ℕ) (rest : Words) → IsReadableOffer os → All (λ m. m < 2 ^ 32) os → offers n (map decimal os ++ codes "now" ∷ rest) ≡ Ok os
offer_words n [] rest readable small = let some = readable.some in absurd (omega arith)
offer_words n (k ∷ ks) rest readable small = offers_again n k ks rest readable.ascending small

pub link_again : (back : PathsAreReadBack) (n : ℕ) (l : ReportedLink) (d : Said) → length d.links < 256 → IsReadableOffer l.offers → All (λ m. m < 2 ^ 32) l.offers
    → line n (link_words l) d ≡ Ok (record d { links = d.links ++ link_of l ∷ [] })
unfolding line keyed link_line link with_link ◌>>=◌
link_again back n l d room readable small =
    let rest = now_words l.now in
    let tail = map decimal l.offers ++ codes "now" ∷ rest in
    rw (named_again back n l.path (form_word l.form ∷ polarity_word l.polarity ∷ codes "offers" ∷ tail), offered_again n l.form l.polarity tail, offer_words n l.offers rest readable small, lt-ltb (length d.links) 256 room) refl

pub wired_again : (n : ℕ) (w : ℕ × ℕ) (d : Said) → length d.wired < 4096 → (w.0 < 2 ^ 32) × (w.1 < 2 ^ 32) → line n (wired_words w) d ≡ Ok (record d { wired = d.wired ++ w ∷ [] })
unfolding line keyed wired_line wired with_wired ◌>>=◌
wired_again n w d room small = rw (numbered_again n w.0 (decimal w.1 ∷ []) small.0, numbered_again n w.1 [] small.1, lt-ltb (length d.wired) 4096 room) refl

not_none : (k : ℕ) → k < 2 ^ 32 → bytes_eq (decimal k) (codes "none") ≡ false
not_none k small = no_number_by k 110 (111 ∷ 110 ∷ 101 ∷ []) (bytes_eq (decimal k) (codes "none")) refl small (λ h. let bad = h.0 in omega arith)

source_again : (n : ℕ) (s : Option ℕ) → All (λ m. m < 2 ^ 32) (option_to_list s) → sci n (source_words s) ≡ Ok s
unfolding sci ◌>>=◌
source_again n None small = refl
source_again n (Some k) small =
    let here = All-head (λ x. x < 2 ^ 32) k [] small in
    rw (not_none k here, number_of_decimal k here) refl

pub sci_again : (n : ℕ) (s : Option ℕ) (d : Said) → d.sci ≡ None → All (λ m. m < 2 ^ 32) (option_to_list s) → line n (sci_words s) d ≡ Ok (record d { sci = Some s })
unfolding line keyed sci_line with_sci ◌>>=◌
sci_again n s d none small = rw (source_again n s small, none) refl

not_dash : (k : ℕ) → k < 2 ^ 32 → bytes_eq (decimal k) (codes "-") ≡ false
not_dash k small = no_number_by k 45 [] (bytes_eq (decimal k) (codes "-")) refl small (λ h. let bad = h.0 in omega arith)

ascending_again : (n : ℕ) (os : List ℕ) (k : ℕ) (ks : List ℕ) → IsStrictlyIncreasing (k ∷ ks) → All (λ m. m < 2 ^ 32) ks → ascending_after n (os ++ k ∷ []) (map decimal ks) ≡ Ok (os ++ k ∷ ks)
unfolding ascending_after ◌>>=◌
ascending_again n os k [] up small = refl
ascending_again n os k (m ∷ ms) up small =
    let less : k < m = up 0 (omega arith) in
    let done = os ++ k ∷ [] in
    let step = next_again n done m (All-head (λ x. x < 2 ^ 32) m ms small) (ascends_push os k m ∙ lt-ltb k m less) in
    rw step (ascending_again n done m ms (increasing_tail k (m ∷ ms) up) (All-tail (λ x. x < 2 ^ 32) m ms small)
    ∙ ap Ok (append_assoc os (k ∷ []) (m ∷ ms)))

avoided_again : (n : ℕ) (ns : List ℕ) → IsStrictlyIncreasing ns → All (λ m. m < 2 ^ 32) ns → avoid n (number_words ns) ≡ Ok ns
unfolding avoid ◌>>=◌
avoided_again n [] up small = refl
avoided_again n (k ∷ ks) up small =
    let here = All-head (λ x. x < 2 ^ 32) k ks small in
    rw (not_dash k here, next_again n [] k here refl) (ascending_again n [] k ks up (All-tail (λ x. x < 2 ^ 32) k ks small))

pub avoid_again : (n : ℕ) (ns : List ℕ) (d : Said) → d.avoid ≡ None → IsStrictlyIncreasing ns → All (λ m. m < 2 ^ 32) ns → line n (avoid_words ns) d ≡ Ok (record d { avoid = Some ns })
unfolding line keyed avoid_line with_avoid ◌>>=◌
avoid_again n ns d none up small = rw (avoided_again n ns up small, none) refl

pub give_again : (back : PathsAreReadBack) (n : ℕ) (g : List Seg × ℕ) (d : Said) → g.1 < 2 ^ 32 → line n (give_words g) d ≡ Ok (record d { gives = d.gives ++ g ∷ [] })
unfolding line keyed give_line give with_give ◌>>=◌
give_again back n g d small = rw (named_again back n g.0 (decimal g.1 ∷ []), numbered_again n g.1 [] small) refl

pub busiest_again : (n k : ℕ) (d : Said) → d.busiest ≡ None → k < 2 ^ 32 → line n (busiest_words k) d ≡ Ok (record d { busiest = Some k })
unfolding line keyed busiest_line busiest with_busiest ◌>>=◌
busiest_again n k d none small = rw (numbered_again n k [] small, none) refl

path_more : (back : PathsAreReadBack) (n : ℕ) (ps : List (List Seg)) (q : List Seg) → with_path n ps (text_of q) ≡ Ok (ps ++ q ∷ [])
unfolding with_path ◌>>=◌
path_more back n ps q = rw (path_again back n q) refl

until_over : (back : PathsAreReadBack) (n : ℕ) (ps qs : List (List Seg)) (rest : Words) → until n (codes "over") (with_path n) ps (map text_of qs ++ codes "over" ∷ rest) ≡ Ok (ps ++ qs, rest)
unfolding until ◌>>=◌
until_over back n ps [] rest = rw (append-nil ps) refl
until_over back n ps (q ∷ qs) rest = rw (path_more back n ps q) (until_over back n (ps ++ q ∷ []) qs rest ∙ ap (λ xs. Ok (xs, rest)) (append_assoc ps (q ∷ []) qs))

number_more : (n : ℕ) (is : List ℕ) (k : ℕ) → k < 2 ^ 32 → with_number n is (decimal k) ≡ Ok (is ++ k ∷ [])
unfolding with_number ◌>>=◌
number_more n is k small = rw (number_of_decimal k small) refl

numbers_again : (n : ℕ) (is ks : List ℕ) → All (λ m. m < 2 ^ 32) ks → numbers_after n is (map decimal ks) ≡ Ok (is ++ ks)
unfolding numbers_after ◌>>=◌
numbers_again n is [] small = rw (append-nil is) refl
numbers_again n is (k ∷ ks) small =
    rw (number_more n is k (All-head (λ x. x < 2 ^ 32) k ks small)) (numbers_again n (is ++ k ∷ []) ks (All-tail (λ x. x < 2 ^ 32) k ks small) ∙ ap Ok (append_assoc is (k ∷ []) ks))

bound_by : (back : PathsAreReadBack) (n : ℕ) (ps : List (List Seg)) (is : List ℕ) → All (λ m. m < 2 ^ 32) is → bound n (path_words ps ++ codes "over" ∷ map decimal is) ≡ Ok (Some (record { links = ps; interrupts = is }))
unfolding bound set set_links expected ◌>>=◌
bound_by back n [] is small = rw (numbers_again n [] is small) refl
bound_by back n (p ∷ ps) is small = rw (path_more back n [] p, until_over back n (p ∷ []) ps (map decimal is), numbers_again n [] is small) refl

none_again : (n : ℕ) → bound n (codes "none" ∷ []) ≡ Ok None
unfolding bound ◌>>=◌
none_again n = refl

set_again : (back : PathsAreReadBack) (n : ℕ) (b : Option BoundingSet) → All (λ m. m < 2 ^ 32) (interrupts_of_bound b) → bound n (set_of_bound b) ≡ Ok b
set_again back n None small = none_again n
set_again back n (Some b) small = bound_by back n b.links b.interrupts small

pub bound_again : (back : PathsAreReadBack) (n : ℕ) (b : Option BoundingSet) (d : Said) → d.bound ≡ None → All (λ m. m < 2 ^ 32) (interrupts_of_bound b) → line n (bound_words b) d ≡ Ok (record d { bound = Some b })
unfolding line keyed bound_line with_bound ◌>>=◌
bound_again back n b d none small = rw (set_again back n b small, none) refl

some_again : (n : ℕ) (ns : List ℕ) → 0 < length ns → All (λ m. m < 2 ^ 32) ns → some_numbers n (map decimal ns) ≡ Ok ns
unfolding some_numbers ◌>>=◌
some_again n [] some small = absurd (omega arith)
some_again n (k ∷ ks) some small = rw (number_more n [] k (All-head (λ x. x < 2 ^ 32) k ks small)) (numbers_again n (k ∷ []) ks (All-tail (λ x. x < 2 ^ 32) k ks small))

pub spared_again : (back : PathsAreReadBack) (n : ℕ) (s : SparedDevice) (d : Said) (ms : List ℕ) → d.spared ≡ Some ms → 0 < length s.interrupts → All (λ m. m < 2 ^ 32) s.interrupts
    → line n (spared_words s) d ≡ Ok (record d { spared = Some (ms ++ s.interrupts) })
unfolding line keyed spared_line spared with_spared ◌>>=◌
spared_again back n s d ms is some small = rw (named_again back n s.device (map decimal s.interrupts), some_again n s.interrupts some small, is) refl

pub unread_again : (back : PathsAreReadBack) (n : ℕ) (u : UnreadLine) (d : Said) (ms : List ℕ) → d.spared ≡ Some ms → u.refusal < 2 ^ 32 → line n (unread_words u) d ≡ Ok d
unfolding line keyed claimless unread_line unread with_option ◌>>=◌
unread_again back n u d ms is small = rw (named_again back n u.device (decimal u.refusal ∷ []), numbered_again n u.refusal [] small, is) refl

pub rule_again : (n : ℕ) (r : Rule) (d : Said) → d.rule ≡ None → line n (rule_words r) d ≡ Ok (record d { rule = Some r })
unfolding line keyed rule_line with_rule ◌>>=◌
rule_again n rule.First d none = rw none refl
rule_again n rule.Spread d none = rw none refl

-- ---- the lines for a kernel

how_again : (n : ℕ) (t : Trigger) (p : Polarity) → triggered n (how_words t p) ≡ Ok tt
unfolding triggered one_of ◌>>=◌
how_again n triggers.Level polarity.Low = refl
how_again n triggers.Level polarity.High = refl
how_again n triggers.Edge polarity.Low = refl
how_again n triggers.Edge polarity.High = refl

source_triggered_again : (back : PathsAreReadBack) (n : ℕ) (s : InterruptSource) (t : Trigger) (p : Polarity) → IsSmallSource s → trigger n (triggered_words s ++ how_words t p) ≡ Ok tt
unfolding trigger source_triggered link_triggered number_triggered ◌>>=◌
source_triggered_again back n (source.Link q) t p small = rw (named_again back n q (how_words t p), how_again n t p) refl
source_triggered_again back n (source.Wired k) t p small = rw (numbered_again n k (how_words t p) small, how_again n t p) refl
source_triggered_again back n (source.Sci k) t p small = rw (numbered_again n k (how_words t p) small, how_again n t p) refl

pub trigger_again : (back : PathsAreReadBack) (n : ℕ) (t : TriggerLine) (d : Said) (ms : List ℕ) → d.spared ≡ Some ms → IsSmallSource t.source → line n (trigger_words t) d ≡ Ok d
unfolding line keyed claimless trigger_line with_option ◌>>=◌
trigger_again back n t d ms is small = rw (source_triggered_again back n t.source t.trigger t.polarity small, is) refl

not_refused : (k : ℕ) → k < 2 ^ 32 → bytes_eq (decimal k) (codes "refused") ≡ false
not_refused k small = no_number_by k 114 (101 ∷ 102 ∷ 117 ∷ 115 ∷ 101 ∷ 100 ∷ []) (bytes_eq (decimal k) (codes "refused")) refl small (λ h. let bad = h.0 in omega arith)

bus_state_again : (n : ℕ) (s : BusState) → IsSmallBus s → bus_state n (bus_state_words s) ≡ Ok tt
unfolding bus_state bus_refused bus_known ◌>>=◌
bus_state_again n (state.Known segment k) small = rw (not_refused segment small.0, number_again n segment small.0, numbered_again n k [] small.1) refl
bus_state_again n (state.Refused r) small = rw (numbered_again n r [] small) refl

pub bus_again : (back : PathsAreReadBack) (n : ℕ) (b : BusLine) (d : Said) (ms : List ℕ) → d.spared ≡ Some ms → IsSmallBus b.state → line n (bus_words b) d ≡ Ok d
unfolding line keyed claimless bus_line bus with_option ◌>>=◌
bus_again back n b d ms is small = rw (named_again back n b.device (bus_state_words b.state), bus_state_again n b.state small, is) refl
