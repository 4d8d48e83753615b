-- A report of version 1 tells of no System Control Interrupt, and avoids nothing.
use Rattle.std.proofs.Common.{◌≡◌, ◌∙◌, ap, ap₂, sym, refl, ℕ, ◌+◌, List, [], ◌∷◌, Ok, Option, Some, None, codes}
use Rattle.std.specs.Prelude.{is_some}
use Rattle.ar_space.specs.Outcome.{◌>>=◌}
use Rattle.route_check.specs.Claims.{RoutingClaim}
use Rattle.text_words.specs.Words.{words}
use Rattle.route_report.specs.declared.version.Version.TheVariants as version
use Rattle.route_report.specs.Lines.{lines}
use Rattle.route_report.specs.Ordered.{barred_by}
use Rattle.route_report.specs.Reading.{Said, first_said, expected, here, claimed, line, heading, lines_read, all_read, claim_of_text}
use Rattle.route_report.proofs.Kept.{line_keeps}
use Rattle.route_report.proofs.Turns.{went_on}

-- as the first line of version 1 says it
abbrev IsBare : Option (Option ℕ) → Option (List ℕ) → Option (List ℕ) → Type 0
IsBare s ns ms = (s ≡ Some None) × (ns ≡ Some []) × (ms ≡ None)

line_stays_bare : (n : ℕ) (d e : Said) (ws : List (List ℕ)) → IsBare d.sci d.avoid d.spared → line n ws d ≡ Ok e → IsBare e.sci e.avoid e.spared
line_stays_bare n d e ws bare is = line_keeps (λ s ns ms r. IsBare s ns ms) n d bare ws (λ s none. absurd (cc (ap is_some bare.0, none))) (λ us ns _ _ none. absurd (cc (ap is_some bare.1, none))) (λ ms ns some. absurd (cc (bare.2, some))) (λ r _. bare) e is

claimed_bare : (n : ℕ) (d : Said) (c : RoutingClaim) → IsBare d.sci d.avoid d.spared → claimed n d ≡ Ok c → (c.sci ≡ None) × (c.avoid ≡ [])
unfolding claimed
claimed_bare n d c bare e =
    let s = went_on (here n d.sci) _ c e in
    let ns = went_on (here n d.avoid) _ c s.2 in
    let r = went_on (here n d.rule) _ c ns.2 in
    let k = went_on (here n d.busiest) _ c r.2 in
    let b = went_on (here n d.bound) _ c k.2 in
    let no_sci : s.0 ≡ None = cc (s.1, ap (here n) bare.0) in
    let none : ns.0 ≡ [] = cc (ns.1, ap (here n) bare.1) in
    let all : barred_by ns.0 d.spared ≡ [] = ap₂ barred_by none bare.2 in
    (cc (b.2, no_sci), cc (b.2, all))

read_bare : (n : ℕ) (ls : List (List ℕ)) (d : Said) (c : RoutingClaim) → IsBare d.sci d.avoid d.spared → lines_read n ls d ≡ Ok c → (c.sci ≡ None) × (c.avoid ≡ [])
unfolding lines_read
read_bare n [] d c bare e = claimed_bare n d c bare e
read_bare n (l ∷ ls) d c bare e =
    let a = went_on (line n (words l) d) (λ f. lines_read (n + 1) ls f) c e in
    read_bare (n + 1) ls a.0 c (line_stays_bare n d a.0 (words l) bare a.1) a.2

headed : (ls : List (List ℕ)) → all_read (codes "acpiroute 1" ∷ ls) ≡ lines_read 2 ls (first_said version.One)
unfolding all_read heading expected ◌>>=◌
headed ls = refl

pub of_version_1 : (text : List ℕ) (ls : List (List ℕ)) (c : RoutingClaim) → lines text ≡ codes "acpiroute 1" ∷ ls → claim_of_text text ≡ Ok c → (c.sci ≡ None) × (c.avoid ≡ [])
unfolding claim_of_text
of_version_1 text ls c is e = read_bare 2 ls (first_said version.One) c (refl, refl, refl) (sym (ap all_read is ∙ headed ls) ∙ e)
