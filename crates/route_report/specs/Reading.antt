-- What a report claims, read line by line.
use Rattle.std.specs.Prelude.{ℕ, ◌+◌, ◌||◌, nat_lt, Bool, true, List, [], ◌∷◌, ◌++◌, length, Option, Some, None, Ok, Err, codes, is_some, ok_or, if◌then◌else◌}
use Rattle.std.specs.Str.{bytes_eq}
use Rattle.ar_space.specs.Outcome.{Outcome, ◌>>=◌}
use Rattle.ar_space.specs.declared.refusal.Refusal.TheVariants.{Report}
use Rattle.ar_space.specs.declared.refusal.ReportFault.TheVariants.{BadLine}
use Rattle.aml_path.specs.declared.segment.Seg.{Seg}
use Rattle.aml_path.specs.Text.{text_of, path_of_text}
use Rattle.route_model.specs.Links.{OfferingLink}
use Rattle.route_check.specs.Claims.{BoundingSet, RoutingClaim}
use Rattle.text_words.specs.Words.{words}
use Rattle.route_report.specs.Lines.{lines, number}
use Rattle.route_report.specs.declared.version.Version.{Version}
use Rattle.route_report.specs.declared.version.Version.TheVariants as version
use Rattle.route_report.specs.declared.report.Rule.{Rule}
use Rattle.route_report.specs.declared.report.Rule.TheVariants as rule
use Rattle.route_report.specs.Ordered.{barred_by, claim_in_order}
use Rattle.route_report.specs.Reports.{is_spread}

-- what the lines have said so far; of a bound, and of the interrupt that the System Control Interrupt is wired to, that there is
-- none is said too; of devices whose interrupts are spared, that lines may tell of them
pub record Said : Type 0 where
  pub links : List OfferingLink
  pub wired : List (ℕ × ℕ)
  pub sci : Option (Option ℕ)
  pub avoid : Option (List ℕ)
  pub spared : Option (List ℕ)
  pub rule : Option Rule
  pub gives : List (List Seg × ℕ)
  pub busiest : Option ℕ
  pub bound : Option (Option BoundingSet)

-- what the first line says: in version 1 there is no System Control Interrupt, nothing is avoided, and no line tells of these; before
-- version 3 no line tells of interrupts that are spared, and the choice is the first
abbrev pub first_said : Version → Said
first_said version.One = record { links = []; wired = []; sci = Some None; avoid = Some []; spared = None; rule = Some rule.First; gives = []; busiest = None; bound = None }
first_said version.Two = record { links = []; wired = []; sci = None; avoid = None; spared = None; rule = Some rule.First; gives = []; busiest = None; bound = None }
first_said version.Three = record { links = []; wired = []; sci = None; avoid = None; spared = Some []; rule = None; gives = []; busiest = None; bound = None }

-- a number follows those before it
abbrev pub ascends : List ℕ → ℕ → Bool
ascends [] m = true
ascends (k ∷ []) m = nat_lt k m
ascends (k ∷ l ∷ ks) m = ascends (l ∷ ks) m

-- the first word of a line that claims nothing
abbrev pub is_passed_over : List ℕ → Bool
is_passed_over key =
    bytes_eq key (codes "mode") || bytes_eq key (codes "ioapic") || bytes_eq key (codes "override")
    || bytes_eq key (codes "pin") || bytes_eq key (codes "set") || bytes_eq key (codes "after")

-- n is the line's number
module _ (n : ℕ) where
  abbrev pub bad_line : {A : Type 0} → Outcome A
  bad_line = Err (Report (BadLine n))

  -- what is there, or the line is refused
  abbrev pub here : {A : Type 0} → Option A → Outcome A
  here found = ok_or found (Report (BadLine n))

  -- what was found, or the line is refused
  abbrev pub in_line : {A : Type 0} → Outcome A → Outcome A
  in_line (Ok a) = Ok a
  in_line (Err e) = bad_line

  -- the first of the words, and the others
  abbrev pub word : List (List ℕ) → Outcome (List ℕ × List (List ℕ))
  word [] = bad_line
  word (w ∷ ws) = Ok (w, ws)

  -- no word is left
  abbrev pub ended : List (List ℕ) → Outcome (Unit {0})
  ended [] = Ok tt
  ended (w ∷ ws) = bad_line

  -- the first of the words is this one; the others
  unfoldable pub expected : List ℕ → List (List ℕ) → Outcome (List (List ℕ))
  expected key ws = do
    w ← word ws
    if bytes_eq w.0 key then Ok w.1 else bad_line

  -- the first of the words is one of two; the others
  unfoldable pub one_of : List ℕ → List ℕ → List (List ℕ) → Outcome (List (List ℕ))
  one_of this that ws = do
    w ← word ws
    if bytes_eq w.0 this || bytes_eq w.0 that then Ok w.1 else bad_line

  -- the number that a word is
  abbrev pub number_here : List ℕ → Outcome ℕ
  number_here w = here (number w)

  -- the path that a word is: `\`, and segments of four characters
  unfoldable pub path_here : List ℕ → Outcome (List Seg)
  path_here w = do
    p ← in_line (path_of_text w)
    if bytes_eq (text_of p) w then Ok p else bad_line

  -- the first of the words as a number or as a path, and the others
  unfoldable pub numbered : List (List ℕ) → Outcome (ℕ × List (List ℕ))
  numbered ws = do
    w ← word ws
    a ← number_here w.0
    Ok (a, w.1)

  unfoldable pub named : List (List ℕ) → Outcome (List Seg × List (List ℕ))
  named ws = do
    w ← word ws
    p ← path_here w.0
    Ok (p, w.1)

  -- a number more, in ascending order
  unfoldable pub with_next : List ℕ → List ℕ → Outcome (List ℕ)
  with_next ns w = do
    m ← number_here w
    if ascends ns m then Ok (ns ++ m ∷ []) else bad_line

  -- what each word adds to what stands, up to a word that ends them, and the words behind it
  unfoldable pub until : {A : Type 0} → List ℕ → (List A → List ℕ → Outcome (List A)) → List A → List (List ℕ) → Outcome (List A × List (List ℕ))
  until key step xs [] = bad_line
  until key step xs (w ∷ ws) = if bytes_eq w key then Ok (xs, ws) else (do
    more ← step xs w
    until key step more ws)

  -- one number at least, up to the word `now`; what follows that doesn't count
  unfoldable pub offers : List (List ℕ) → Outcome (List ℕ)
  offers ws = do
    w ← word ws
    first ← with_next [] w.0
    all ← until (codes "now") with_next first w.1
    Ok all.0

  -- `small low offers N.. now V`, or `extended`, or `high`
  unfoldable pub offered : List (List ℕ) → Outcome (List ℕ)
  offered ws = do
    f ← one_of (codes "small") (codes "extended") ws
    p ← one_of (codes "low") (codes "high") f
    o ← expected (codes "offers") p
    offers o

  -- `P`, and what it offers
  unfoldable pub link : List (List ℕ) → Outcome OfferingLink
  link ws = do
    p ← named ws
    os ← offered p.1
    Ok (record { path = p.0; offers = os })

  -- `N C`
  unfoldable pub wired : List (List ℕ) → Outcome (ℕ × ℕ)
  wired ws = do
    a ← numbered ws
    c ← numbered a.1
    _ ← ended c.1
    Ok (a.0, c.0)

  -- `N` or `none`
  unfoldable pub sci : List (List ℕ) → Outcome (Option ℕ)
  sci ws = do
    w ← word ws
    _ ← ended w.1
    if bytes_eq w.0 (codes "none") then Ok None else (do
      a ← number_here w.0
      Ok (Some a))

  -- all words as numbers, after those before and in ascending order
  unfoldable pub ascending_after : List ℕ → List (List ℕ) → Outcome (List ℕ)
  ascending_after ns [] = Ok ns
  ascending_after ns (w ∷ ws) = do
    more ← with_next ns w
    ascending_after more ws

  -- `-` for none, or one number at least, in ascending order
  unfoldable pub avoid : List (List ℕ) → Outcome (List ℕ)
  avoid ws = do
    w ← word ws
    if bytes_eq w.0 (codes "-") then (do
      _ ← ended w.1
      Ok []) else (do
        first ← with_next [] w.0
        ascending_after first w.1)

  -- `P N`
  unfoldable pub give : List (List ℕ) → Outcome (List Seg × ℕ)
  give ws = do
    p ← named ws
    a ← numbered p.1
    _ ← ended a.1
    Ok (p.0, a.0)

  -- `K`
  unfoldable pub busiest : List (List ℕ) → Outcome ℕ
  busiest ws = do
    a ← numbered ws
    _ ← ended a.1
    Ok a.0

  -- a path more
  unfoldable pub with_path : List (List Seg) → List ℕ → Outcome (List (List Seg))
  with_path ps w = do
    p ← path_here w
    Ok (ps ++ p ∷ [])

  -- `-` for no path, or one at least, up to the word `over`; the words behind it
  unfoldable pub set_links : List ℕ → List (List ℕ) → Outcome (List (List Seg) × List (List ℕ))
  set_links w ws = if bytes_eq w (codes "-") then (do
    rest ← expected (codes "over") ws
    Ok ([], rest)) else (do
      first ← with_path [] w
      until (codes "over") with_path first ws)

  -- a number more, and all words as numbers, after those before
  unfoldable pub with_number : List ℕ → List ℕ → Outcome (List ℕ)
  with_number is w = do
    m ← number_here w
    Ok (is ++ m ∷ [])

  unfoldable pub numbers_after : List ℕ → List (List ℕ) → Outcome (List ℕ)
  numbers_after is [] = Ok is
  numbers_after is (w ∷ ws) = do
    more ← with_number is w
    numbers_after more ws

  -- one number at least
  unfoldable pub some_numbers : List (List ℕ) → Outcome (List ℕ)
  some_numbers ws = do
    w ← word ws
    first ← with_number [] w.0
    numbers_after first w.1

  -- `D N..`
  unfoldable pub spared : List (List ℕ) → Outcome (List ℕ)
  spared ws = do
    p ← named ws
    some_numbers p.1

  -- `D R`
  unfoldable pub unread : List (List ℕ) → Outcome (Unit {0})
  unread ws = do
    p ← named ws
    r ← numbered p.1
    ended r.1

  -- `level` or `edge`, and `low` or `high`
  unfoldable pub triggered : List (List ℕ) → Outcome (Unit {0})
  triggered ws = do
    t ← one_of (codes "level") (codes "edge") ws
    p ← one_of (codes "low") (codes "high") t
    ended p

  -- `link P`, `wired N` or `sci N`, and how that is triggered
  unfoldable pub link_triggered : List (List ℕ) → Outcome (Unit {0})
  link_triggered ws = do
    p ← named ws
    triggered p.1

  unfoldable pub number_triggered : List (List ℕ) → Outcome (Unit {0})
  number_triggered ws = do
    a ← numbered ws
    triggered a.1

  unfoldable pub source_triggered : List ℕ → List (List ℕ) → Outcome (Unit {0})
  source_triggered key ws =
      if bytes_eq key (codes "link") then link_triggered ws
      else if bytes_eq key (codes "wired") || bytes_eq key (codes "sci") then number_triggered ws
      else bad_line

  unfoldable pub trigger : List (List ℕ) → Outcome (Unit {0})
  trigger ws = do
    w ← word ws
    source_triggered w.0 w.1

  -- `S B`, or `refused R`
  unfoldable pub bus_refused : List (List ℕ) → Outcome (Unit {0})
  bus_refused ws = do
    r ← numbered ws
    ended r.1

  unfoldable pub bus_known : List ℕ → List (List ℕ) → Outcome (Unit {0})
  bus_known segment ws = do
    _ ← number_here segment
    b ← numbered ws
    ended b.1

  unfoldable pub bus_state : List (List ℕ) → Outcome (Unit {0})
  bus_state ws = do
    w ← word ws
    if bytes_eq w.0 (codes "refused") then bus_refused w.1 else bus_known w.0 w.1

  -- `D`, and its bus
  unfoldable pub bus : List (List ℕ) → Outcome (Unit {0})
  bus ws = do
    p ← named ws
    bus_state p.1

  -- `P.. over N..`
  unfoldable pub set : List ℕ → List (List ℕ) → Outcome BoundingSet
  set w ws = do
    ps ← set_links w ws
    is ← numbers_after [] ps.1
    Ok (record { links = ps.0; interrupts = is })

  -- `none`, or a set
  unfoldable pub bound : List (List ℕ) → Outcome (Option BoundingSet)
  bound ws = do
    w ← word ws
    if bytes_eq w.0 (codes "none") then (do
      _ ← ended w.1
      Ok None) else (do
        s ← set w.0 w.1
        Ok (Some s))

  -- what is said already, with a link more, a wired interrupt more and what a link is given more: at most 256 links and
  -- 4096 wired interrupts
  unfoldable pub with_link : OfferingLink → Said → Outcome Said
  with_link l d = if nat_lt (length d.links) 256 then Ok (record d { links = d.links ++ l ∷ [] }) else bad_line

  unfoldable pub with_wired : ℕ × ℕ → Said → Outcome Said
  with_wired w d = if nat_lt (length d.wired) 4096 then Ok (record d { wired = d.wired ++ w ∷ [] }) else bad_line

  unfoldable pub with_give : List Seg × ℕ → Said → Outcome Said
  with_give g d = Ok (record d { gives = d.gives ++ g ∷ [] })

  -- and with one interrupt that the System Control Interrupt is wired to, one list of what is avoided, one busiest interrupt and one
  -- bound
  unfoldable pub with_sci : Option ℕ → Said → Outcome Said
  with_sci s d = if is_some d.sci then bad_line else Ok (record d { sci = Some s })

  unfoldable pub with_avoid : List ℕ → Said → Outcome Said
  with_avoid ns d = if is_some d.avoid then bad_line else Ok (record d { avoid = Some ns })

  -- and with the interrupts of one device more, where lines may tell of options; the same with a line of options that claims nothing;
  -- and with one rule of the choice
  unfoldable pub with_spared : List ℕ → Said → Outcome Said
  with_spared ns d = do
    ms ← here d.spared
    Ok (record d { spared = Some (ms ++ ns) })

  unfoldable pub with_option : Said → Outcome Said
  with_option d = if is_some d.spared then Ok d else bad_line

  unfoldable pub with_rule : Rule → Said → Outcome Said
  with_rule r d = if is_some d.rule then bad_line else Ok (record d { rule = Some r })

  unfoldable pub with_busiest : ℕ → Said → Outcome Said
  with_busiest k d = if is_some d.busiest then bad_line else Ok (record d { busiest = Some k })

  unfoldable pub with_bound : Option BoundingSet → Said → Outcome Said
  with_bound b d = if is_some d.bound then bad_line else Ok (record d { bound = Some b })

  -- what the words behind the first one say
  unfoldable pub link_line : List (List ℕ) → Said → Outcome Said
  link_line ws d = do
    l ← link ws
    with_link l d

  unfoldable pub wired_line : List (List ℕ) → Said → Outcome Said
  wired_line ws d = do
    w ← wired ws
    with_wired w d

  unfoldable pub sci_line : List (List ℕ) → Said → Outcome Said
  sci_line ws d = do
    s ← sci ws
    with_sci s d

  unfoldable pub avoid_line : List (List ℕ) → Said → Outcome Said
  avoid_line ws d = do
    ns ← avoid ws
    with_avoid ns d

  unfoldable pub spared_line : List (List ℕ) → Said → Outcome Said
  spared_line ws d = do
    ns ← spared ws
    with_spared ns d

  unfoldable pub unread_line : List (List ℕ) → Said → Outcome Said
  unread_line ws d = do
    _ ← unread ws
    with_option d

  unfoldable pub trigger_line : List (List ℕ) → Said → Outcome Said
  trigger_line ws d = do
    _ ← trigger ws
    with_option d

  unfoldable pub bus_line : List (List ℕ) → Said → Outcome Said
  bus_line ws d = do
    _ ← bus ws
    with_option d

  unfoldable pub rule_line : Rule → List (List ℕ) → Said → Outcome Said
  rule_line r ws d = do
    _ ← ended ws
    with_rule r d

  unfoldable pub give_line : List (List ℕ) → Said → Outcome Said
  give_line ws d = do
    g ← give ws
    with_give g d

  unfoldable pub busiest_line : List (List ℕ) → Said → Outcome Said
  busiest_line ws d = do
    k ← busiest ws
    with_busiest k d

  unfoldable pub bound_line : List (List ℕ) → Said → Outcome Said
  bound_line ws d = do
    b ← bound ws
    with_bound b d

  -- a line by its first word: one that claims nothing
  unfoldable pub claimless : List ℕ → List (List ℕ) → Said → Outcome Said
  claimless key ws d =
      if bytes_eq key (codes "unread") then unread_line ws d
      else if bytes_eq key (codes "trigger") then trigger_line ws d
      else if bytes_eq key (codes "bus") then bus_line ws d
      else if is_passed_over key then Ok d
      else bad_line

  -- or one that may claim something
  unfoldable pub keyed : List ℕ → List (List ℕ) → Said → Outcome Said
  keyed key ws d =
      if bytes_eq key (codes "link") then link_line ws d
      else if bytes_eq key (codes "wired") then wired_line ws d
      else if bytes_eq key (codes "sci") then sci_line ws d
      else if bytes_eq key (codes "avoid") then avoid_line ws d
      else if bytes_eq key (codes "spared") then spared_line ws d
      else if bytes_eq key (codes "first") then rule_line rule.First ws d
      else if bytes_eq key (codes "spread") then rule_line rule.Spread ws d
      else if bytes_eq key (codes "give") then give_line ws d
      else if bytes_eq key (codes "busiest") then busiest_line ws d
      else if bytes_eq key (codes "bound") then bound_line ws d
      else claimless key ws d

  unfoldable pub line : List (List ℕ) → Said → Outcome Said
  line ws d = do
    w ← word ws
    keyed w.0 w.1 d

  -- `1`, `2` or `3`
  abbrev pub version_here : List ℕ → Outcome Version
  version_here w = if bytes_eq w (codes "1") then Ok version.One
      else (if bytes_eq w (codes "2") then Ok version.Two
      else (if bytes_eq w (codes "3") then Ok version.Three else bad_line))

  -- the first line: a report of version 1, 2 or 3
  unfoldable pub heading : List (List ℕ) → Outcome Version
  heading ws = do
    name ← expected (codes "acpiroute") ws
    w ← word name
    v ← version_here w.0
    _ ← ended w.1
    Ok v

  -- what all lines claim, each list in order: the interrupt that the System Control Interrupt is wired to, what is avoided, the rule of
  -- the choice, the busiest interrupt and the bound must be said
  unfoldable pub claimed : Said → Outcome RoutingClaim
  claimed d = do
    s ← here d.sci
    ns ← here d.avoid
    r ← here d.rule
    k ← here d.busiest
    b ← here d.bound
    Ok (claim_in_order (record { links = d.links; wired = d.wired; sci = s; avoid = barred_by ns d.spared; gives = d.gives; busiest = k; bound = b; spread = is_spread r }))

-- the lines from the n-th on, and what was said before them
unfoldable pub lines_read : ℕ → List (List ℕ) → Said → Outcome RoutingClaim
lines_read n [] d = claimed n d
lines_read n (l ∷ ls) d = do
  e ← line n (words l) d
  lines_read (n + 1) ls e

unfoldable pub all_read : List (List ℕ) → Outcome RoutingClaim
all_read [] = bad_line 1
all_read (l ∷ ls) = do
  v ← heading 1 (words l)
  lines_read 2 ls (first_said v)

-- what a report claims
unfoldable pub claim_of_text : List ℕ → Outcome RoutingClaim
claim_of_text text = all_read (lines text)
