-- A report of version 1 or 2 says nothing of options.
use Rattle.std.proofs.Common.{◌≡◌, ◌∙◌, ap, ap₂, sym, refl, ℕ, zero, suc, ◌+◌, ◌<◌, inl, inr, Bool, true, false, List, [], ◌∷◌, ◌++◌, length, Ok, Err, Option, Some, None, codes, bytes_eq, append-nil, arith, if◌then◌else◌}
use Rattle.std.specs.Prelude.{is_some, slice_index_or}
use Rattle.std.specs.Result.{result_ok}
use Rattle.std.proofs.lemmas.List.{append_assoc}
use Rattle.ar_space.specs.Outcome.{Outcome, ◌>>=◌}
use Rattle.route_check.specs.Claims.{RoutingClaim}
use Rattle.text_words.specs.Words.{words}
use Rattle.route_report.specs.declared.report.Rule.{Rule}
use Rattle.route_report.specs.declared.report.Rule.TheVariants as rule
use Rattle.route_report.specs.declared.version.Version.TheVariants as version
use Rattle.route_report.specs.Counting.{first_of}
use Rattle.route_report.specs.Lines.{lines}
use Rattle.route_report.specs.Ordered.{barred_by}
use Rattle.route_report.specs.Reports.{is_spread}
use Rattle.route_report.specs.EarlierVersions.{IsEarlier, is_of_options, tells_of_options, or_none, avoided_by, avoided_in, IsWithoutOptions}
use Rattle.route_report.specs.Reading.{Said, first_said, bad_line, word, expected, here, avoid, spared, unread, trigger, bus, ended, with_avoid, with_spared, with_option, with_rule, avoid_line, keyed, claimed, line, heading, lines_read, all_read, claim_of_text}
use Rattle.route_report.proofs.Decimals.{equal_bytes}
use Rattle.route_report.proofs.Effects.{says_spared, says_option, says_rule, after, read_as, effect, line_gives, either_way}
use Rattle.route_report.proofs.Kept.{line_keeps}
use Rattle.route_report.proofs.Renumbered.{avoid_alike}
use Rattle.route_report.proofs.Turns.{went_on}

-- as the first line of an earlier version says it
abbrev IsPlain : Option (List ℕ) → Option Rule → Type 0
IsPlain ms r = (ms ≡ None) × (r ≡ Some rule.First)

line_stays_plain : (n : ℕ) (d e : Said) (ws : List (List ℕ)) → IsPlain d.spared d.rule → line n ws d ≡ Ok e → IsPlain e.spared e.rule
line_stays_plain n d e ws plain is =
    line_keeps (λ s ns ms r. IsPlain ms r) n d plain ws (λ s _. plain) (λ us ns _ _ _. plain) (λ ms ns some. absurd (cc (plain.0, some))) (λ r none. absurd (cc (ap is_some plain.1, none))) e is

-- ---- a line that tells of options is refused

module _ (n : ℕ) (d : Said) (plain : IsPlain d.spared d.rule) where
  spared_refused : (x : Outcome (List ℕ)) → result_ok (after n (read_as says_spared x) d) ≡ None
  unfolding with_spared ◌>>=◌
  spared_refused (Ok ns) = ap (λ o. result_ok (here n o >>= (λ ms. Ok (record d { spared = Some (ms ++ ns) })))) plain.0
  spared_refused (Err e) = refl

  -- a line that claims nothing
  claimless_refused : (x : Outcome (Unit {0})) → result_ok (after n (read_as (λ _. says_option) x) d) ≡ None
  unfolding with_option
  claimless_refused (Ok u) = ap (λ o. result_ok (if is_some o then Ok d else bad_line n)) plain.0
  claimless_refused (Err e) = refl

  rule_refused : (r : Rule) (x : Outcome (Unit {0})) → result_ok (after n (read_as (λ _. says_rule r) x) d) ≡ None
  unfolding with_rule
  rule_refused r (Ok u) = ap (λ o. result_ok (if is_some o then bad_line n else Ok (record d { rule = Some r }))) plain.1
  rule_refused r (Err e) = refl

  option_refused : (key : List ℕ) (ws : List (List ℕ)) → is_of_options key ≡ true → result_ok (after n (effect (key ∷ ws)) d) ≡ None
  option_refused key ws told =
      let is : (word : List ℕ) → result_ok (after n (effect (word ∷ ws)) d) ≡ None → bytes_eq key word ≡ true → result_ok (after n (effect (key ∷ ws)) d) ≡ None = λ word none same. ap (λ w. result_ok (after n (effect (w ∷ ws)) d)) (equal_bytes key word same) ∙ none in
      either_way _ _ told (λ e. either_way _ _ e (λ e. either_way _ _ e (λ e. either_way _ _ e (λ e. either_way _ _ e (is (codes "spared") (spared_refused (spared 0 ws))) (is (codes "unread") (claimless_refused (unread 0 ws))))
      (is (codes "first") (rule_refused rule.First (ended 0 ws)))) (is (codes "spread") (rule_refused rule.Spread (ended 0 ws))))
      (is (codes "trigger") (claimless_refused (trigger 0 ws)))) (is (codes "bus") (claimless_refused (bus 0 ws)))

  not_told : (b : Bool) → (b ≡ true → ⊥) → b ≡ false
  not_told true h = absurd (h refl)
  not_told false h = refl

  tells_of_none : (e : Said) (ws : List (List ℕ)) → line n ws d ≡ Ok e → is_of_options (first_of ws) ≡ false
  tells_of_none e [] is = refl
  tells_of_none e (w ∷ ws) is = not_told (is_of_options w) (λ told. absurd (cc (sym (ap result_ok is) ∙ line_gives n d (w ∷ ws) ∙ option_refused w ws told)))

-- ---- what one line avoids

abbrev said_in : Option (List ℕ) → List ℕ
said_in None = []
said_in (Some ns) = ns

unless_avoided : (n : ℕ) (o : Option (List ℕ)) (ns : List ℕ) (d e : Said) → (if is_some o then bad_line n else Ok (record d { avoid = Some ns })) ≡ Ok e → said_in e.avoid ≡ said_in o ++ ns
unless_avoided n None ns d e is = let same : record d { avoid = Some ns } ≡ e = cc is in ap (λ (f : Said). said_in f.avoid) (sym same)
unless_avoided n (Some ms) ns d e is = absurd (cc is)

avoid_said : (n : ℕ) (d e : Said) (ws : List (List ℕ)) → line n (codes "avoid" ∷ ws) d ≡ Ok e → said_in e.avoid ≡ said_in d.avoid ++ or_none (avoid 0 ws)
unfolding line keyed avoid_line with_avoid ◌>>=◌
avoid_said n d e ws is =
    let a = went_on (avoid n ws) (λ ns. with_avoid n ns d) e is in
    unless_avoided n d.avoid a.0 d e a.2 ∙ ap (λ ns. said_in d.avoid ++ ns) (numbers_of (avoid 0 ws) a.0 (sym (ap result_ok a.1) ∙ avoid_alike n 0 ws))
  where
    numbers_of : (x : Outcome (List ℕ)) (ns : List ℕ) → Some ns ≡ result_ok x → ns ≡ or_none x
    numbers_of (Ok ms) ns e = cc e
    numbers_of (Err f) ns e = absurd (cc e)

other_said : (n : ℕ) (d e : Said) (key : List ℕ) (ws : List (List ℕ)) → bytes_eq key (codes "avoid") ≡ false → line n (key ∷ ws) d ≡ Ok e → e.avoid ≡ d.avoid
other_said n d e key ws other is =
    line_keeps (λ s us ms r. us ≡ d.avoid) n d refl (key ∷ ws) (λ s _. refl) (λ us ns these _ _. absurd (cc (sym other ∙ ap (λ w. bytes_eq w (codes "avoid")) (first_word us these)))) (λ ms ns _. refl) (λ r _. refl) e is
  where
    first_word : (us : List (List ℕ)) → key ∷ ws ≡ codes "avoid" ∷ us → key ≡ codes "avoid"
    first_word us these = ap first_of these

line_avoids : (n : ℕ) (d e : Said) (ws : List (List ℕ)) → line n ws d ≡ Ok e → said_in e.avoid ≡ said_in d.avoid ++ avoided_by ws
unfolding line ◌>>=◌
line_avoids n d e [] is = absurd (cc is)
line_avoids n d e (key ∷ ws) is = by (bytes_eq key (codes "avoid")) refl
  where
    by : (b : Bool) → bytes_eq key (codes "avoid") ≡ b → said_in e.avoid ≡ said_in d.avoid ++ (if b then or_none (avoid 0 ws) else [])
    by true same = avoid_said n d e ws (ap (λ w. line n (w ∷ ws) d) (sym (equal_bytes key (codes "avoid") same)) ∙ is)
    by false other = ap said_in (other_said n d e key ws other is) ∙ sym (append-nil (said_in d.avoid))

-- ---- all lines

claimed_plain : (n : ℕ) (d : Said) (c : RoutingClaim) → IsPlain d.spared d.rule → claimed n d ≡ Ok c → (c.spread ≡ false) × (c.avoid ≡ said_in d.avoid)
unfolding claimed
claimed_plain n d c plain e =
    let s = went_on (here n d.sci) _ c e in
    let ns = went_on (here n d.avoid) _ c s.2 in
    let r = went_on (here n d.rule) _ c ns.2 in
    let k = went_on (here n d.busiest) _ c r.2 in
    let b = went_on (here n d.bound) _ c k.2 in
    let first : r.0 ≡ rule.First = cc (r.1, ap (here n) plain.1) in
    let spread : is_spread r.0 ≡ false = ap is_spread first in
    let avoided : barred_by ns.0 d.spared ≡ said_in d.avoid = ap₂ barred_by (said_here d.avoid ns.0 ns.1) plain.0 in
    (cc (b.2, spread), cc (b.2, avoided))
  where
    said_here : (o : Option (List ℕ)) (ns : List ℕ) → here n o ≡ Ok ns → ns ≡ said_in o
    said_here None ns is = absurd (cc is)
    said_here (Some ms) ns is = cc is

untold : (n : ℕ) (ls : List (List ℕ)) (d : Said) (c : RoutingClaim) → IsPlain d.spared d.rule → lines_read n ls d ≡ Ok c → (k : ℕ) (e : List ℕ) → k < length ls → tells_of_options (slice_index_or ls k e) ≡ false
unfolding lines_read
untold n [] d c plain is k e less = absurd (omega arith)
untold n (l ∷ ls) d c plain is zero e less = let a = went_on (line n (words l) d) (λ f. lines_read (n + 1) ls f) c is in tells_of_none n d plain a.0 (words l) a.1
untold n (l ∷ ls) d c plain is (suc k) e less =
    let a = went_on (line n (words l) d) (λ f. lines_read (n + 1) ls f) c is in
    untold (n + 1) ls a.0 c (line_stays_plain n d a.0 (words l) plain a.1) a.2 k e (omega arith)

read_plain : (n : ℕ) (ls : List (List ℕ)) (d : Said) (c : RoutingClaim) → IsPlain d.spared d.rule → lines_read n ls d ≡ Ok c → (c.spread ≡ false) × (c.avoid ≡ said_in d.avoid ++ avoided_in ls)
unfolding lines_read
read_plain n [] d c plain is = let e = claimed_plain n d c plain is in (e.0, e.1 ∙ sym (append-nil (said_in d.avoid)))
read_plain n (l ∷ ls) d c plain is =
    let a = went_on (line n (words l) d) (λ f. lines_read (n + 1) ls f) c is in
    let rest = read_plain (n + 1) ls a.0 c (line_stays_plain n d a.0 (words l) plain a.1) a.2 in
    (rest.0, rest.1 ∙ ap (λ ns. ns ++ avoided_in ls) (line_avoids n d a.0 (words l) a.1) ∙ append_assoc (said_in d.avoid) (avoided_by (words l)) (avoided_in ls))

-- ---- texts

headed_1 : (ls : List (List ℕ)) → all_read (codes "acpiroute 1" ∷ ls) ≡ lines_read 2 ls (first_said version.One)
unfolding all_read heading expected ◌>>=◌
headed_1 ls = refl

headed_2 : (ls : List (List ℕ)) → all_read (codes "acpiroute 2" ∷ ls) ≡ lines_read 2 ls (first_said version.Two)
unfolding all_read heading expected ◌>>=◌
headed_2 ls = refl

-- the lines behind the first are read as those of a report that avoids nothing yet and says nothing of options
plain_lines : (text first : List ℕ) (ls : List (List ℕ)) (c : RoutingClaim) → IsEarlier first → lines text ≡ first ∷ ls → claim_of_text text ≡ Ok c → (d : Said) × IsPlain d.spared d.rule × (said_in d.avoid ≡ []) × (lines_read 2 ls d ≡ Ok c)
unfolding claim_of_text
plain_lines text first ls c (inl one) is e = (first_said version.One, (refl, refl), refl, sym (ap all_read is ∙ ap (λ f. all_read (f ∷ ls)) one ∙ headed_1 ls) ∙ e)
plain_lines text first ls c (inr two) is e = (first_said version.Two, (refl, refl), refl, sym (ap all_read is ∙ ap (λ f. all_read (f ∷ ls)) two ∙ headed_2 ls) ∙ e)

pub of_earlier_version : (text first : List ℕ) (ls : List (List ℕ)) (c : RoutingClaim) → IsEarlier first → lines text ≡ first ∷ ls → claim_of_text text ≡ Ok c → IsWithoutOptions ls c
of_earlier_version text first ls c earlier is e =
    let p = plain_lines text first ls c earlier is e in
    let claim = read_plain 2 ls p.0 c p.1 p.3 in
    record { untold = λ k l less. untold 2 ls p.0 c p.1 p.3 k l less; first = claim.0; avoided = claim.1 ∙ ap (λ ns. ns ++ avoided_in ls) p.2 }
