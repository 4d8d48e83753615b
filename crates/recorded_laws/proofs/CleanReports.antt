-- A report that is refused, and the text of a path that is, are refused by no fault of the register space, and by none of a reader or a
-- writer.
use Rattle.std.specs.Prelude.{ℕ, ◌+◌, ◌==◌, ◌||◌, ◌&&◌, nat_le, nat_lt, List, [], ◌∷◌, length, Option, Ok, Err, codes, is_some}
use Rattle.std.specs.Str.{bytes_eq}
use Rattle.ar_space.specs.Outcome.{Outcome}
use Rattle.aml_path.specs.declared.segment.Seg.{Seg}
use Rattle.aml_path.specs.Text.{text_of, seg_of_text, segments_of_text, path_of_text}
use Rattle.text_words.specs.Words.{words}
use Rattle.route_report.specs.Lines.{lines}
use Rattle.route_report.specs.declared.report.Rule.{Rule}
use Rattle.route_report.specs.declared.report.Rule.TheVariants as rule
use Rattle.route_report.specs.Reading.{Said, first_said, ascends, is_passed_over, here, in_line, word, ended, expected, one_of, path_here, numbered, named, with_next, until, offers, offered, link, wired, sci, ascending_after, avoid, give, busiest, with_path, set_links, with_number, numbers_after, some_numbers, spared, unread, triggered, link_triggered, number_triggered, source_triggered, trigger, bus_refused, bus_known, bus_state, bus, set, bound, with_link, with_wired, with_give, with_sci, with_avoid, with_spared, with_option, with_rule, with_busiest, with_bound, link_line, wired_line, sci_line, avoid_line, spared_line, unread_line, trigger_line, bus_line, rule_line, give_line, busiest_line, bound_line, claimless, keyed, line, version_here, heading, claimed, lines_read, all_read, claim_of_text}
use Rattle.aml_laws.proofs.CleanOutcomes.{Clean, followed_clean, if_clean}
use Rattle.aml_laws.proofs.CleanValues.{seg_of_clean}
use Rattle.machine_laws.proofs.CleanLinks.{ok_or_clean}
use Rattle.recorded_laws.proofs.CleanTables.{each_clean}

-- ---- the text of a path

seg_of_text_clean : (cs : List ℕ) → Clean (seg_of_text cs)
unfolding seg_of_text
seg_of_text_clean cs = if_clean (nat_lt 0 (length cs) && nat_le (length cs) 4) _ _ (seg_of_clean _) tt

segments_of_text_clean : (cs : List ℕ) → Clean (segments_of_text cs)
segments_of_text_clean [] = tt
segments_of_text_clean (b ∷ bs) = each_clean _ seg_of_text_clean _

pub path_of_text_clean : (cs : List ℕ) → Clean (path_of_text cs)
unfolding path_of_text
path_of_text_clean [] = tt
path_of_text_clean (b ∷ bs) = if_clean (b == 92) _ _ (segments_of_text_clean bs) tt

-- ---- a line of a report

module _ (n : ℕ) where
  here_clean : {A : Type 0} (found : Option A) → Clean (here n found)
  here_clean found = ok_or_clean found _ tt

  in_line_clean : {A : Type 0} (found : Outcome A) → Clean (in_line n found)
  in_line_clean (Ok a) = tt
  in_line_clean (Err e) = tt

  word_clean : (ws : List (List ℕ)) → Clean (word n ws)
  word_clean [] = tt
  word_clean (w ∷ ws) = tt

  ended_clean : (ws : List (List ℕ)) → Clean (ended n ws)
  ended_clean [] = tt
  ended_clean (w ∷ ws) = tt

  expected_clean : (key : List ℕ) (ws : List (List ℕ)) → Clean (expected n key ws)
  unfolding expected
  expected_clean key ws = followed_clean _ _ (word_clean ws) (λ w. if_clean (bytes_eq w.0 key) _ _ tt tt)

  one_of_clean : (this that : List ℕ) (ws : List (List ℕ)) → Clean (one_of n this that ws)
  unfolding one_of
  one_of_clean this that ws = followed_clean _ _ (word_clean ws) (λ w. if_clean (bytes_eq w.0 this || bytes_eq w.0 that) _ _ tt tt)

  path_here_clean : (w : List ℕ) → Clean (path_here n w)
  unfolding path_here
  path_here_clean w = followed_clean _ _ (in_line_clean (path_of_text w)) (λ p. if_clean (bytes_eq (text_of p) w) _ _ tt tt)

  numbered_clean : (ws : List (List ℕ)) → Clean (numbered n ws)
  unfolding numbered
  numbered_clean ws = followed_clean _ _ (word_clean ws) (λ w. followed_clean _ _ (here_clean _) (λ a. tt))

  named_clean : (ws : List (List ℕ)) → Clean (named n ws)
  unfolding named
  named_clean ws = followed_clean _ _ (word_clean ws) (λ w. followed_clean _ _ (path_here_clean w.0) (λ p. tt))

  with_next_clean : (ns w : List ℕ) → Clean (with_next n ns w)
  unfolding with_next
  with_next_clean ns w = followed_clean _ _ (here_clean _) (λ m. if_clean (ascends ns m) _ _ tt tt)

  until_clean : {A : Type 0} (key : List ℕ) (step : List A → List ℕ → Outcome (List A)) → ((xs : List A) (w : List ℕ) → Clean (step xs w)) → (xs : List A) (ws : List (List ℕ)) → Clean (until n key step xs ws)
  unfolding until
  until_clean key step each xs [] = tt
  until_clean key step each xs (w ∷ ws) = if_clean (bytes_eq w key) _ _ tt (followed_clean _ _ (each xs w) (λ more. until_clean key step each more ws))

  offers_clean : (ws : List (List ℕ)) → Clean (offers n ws)
  unfolding offers
  offers_clean ws = followed_clean _ _ (word_clean ws) (λ w. followed_clean _ _ (with_next_clean [] w.0) (λ first. followed_clean _ _ (until_clean _ _ with_next_clean first w.1) (λ all. tt)))

  offered_clean : (ws : List (List ℕ)) → Clean (offered n ws)
  unfolding offered
  offered_clean ws = followed_clean _ _ (one_of_clean _ _ ws) (λ f. followed_clean _ _ (one_of_clean _ _ f) (λ p. followed_clean _ _ (expected_clean _ p) (λ o. offers_clean o)))

  link_clean : (ws : List (List ℕ)) → Clean (link n ws)
  unfolding link
  link_clean ws = followed_clean _ _ (named_clean ws) (λ p. followed_clean _ _ (offered_clean p.1) (λ os. tt))

  wired_clean : (ws : List (List ℕ)) → Clean (wired n ws)
  unfolding wired
  wired_clean ws = followed_clean _ _ (numbered_clean ws) (λ a. followed_clean _ _ (numbered_clean a.1) (λ c. followed_clean _ _ (ended_clean c.1) (λ u. tt)))

  sci_clean : (ws : List (List ℕ)) → Clean (sci n ws)
  unfolding sci
  sci_clean ws = followed_clean _ _ (word_clean ws) (λ w. followed_clean _ _ (ended_clean w.1) (λ u. if_clean (bytes_eq w.0 (codes "none")) _ _ tt (followed_clean _ _ (here_clean _) (λ a. tt))))

  ascending_after_clean : (ns : List ℕ) (ws : List (List ℕ)) → Clean (ascending_after n ns ws)
  unfolding ascending_after
  ascending_after_clean ns [] = tt
  ascending_after_clean ns (w ∷ ws) = followed_clean _ _ (with_next_clean ns w) (λ more. ascending_after_clean more ws)

  avoid_clean : (ws : List (List ℕ)) → Clean (avoid n ws)
  unfolding avoid
  avoid_clean ws =
      followed_clean _ _ (word_clean ws)
      (λ w. if_clean (bytes_eq w.0 (codes "-")) _ _ (followed_clean _ _ (ended_clean w.1) (λ u. tt)) (followed_clean _ _ (with_next_clean [] w.0) (λ first. ascending_after_clean first w.1)))

  give_clean : (ws : List (List ℕ)) → Clean (give n ws)
  unfolding give
  give_clean ws = followed_clean _ _ (named_clean ws) (λ p. followed_clean _ _ (numbered_clean p.1) (λ a. followed_clean _ _ (ended_clean a.1) (λ u. tt)))

  busiest_clean : (ws : List (List ℕ)) → Clean (busiest n ws)
  unfolding busiest
  busiest_clean ws = followed_clean _ _ (numbered_clean ws) (λ a. followed_clean _ _ (ended_clean a.1) (λ u. tt))

  with_path_clean : (ps : List (List Seg)) (w : List ℕ) → Clean (with_path n ps w)
  unfolding with_path
  with_path_clean ps w = followed_clean _ _ (path_here_clean w) (λ p. tt)

  set_links_clean : (w : List ℕ) (ws : List (List ℕ)) → Clean (set_links n w ws)
  unfolding set_links
  set_links_clean w ws =
      if_clean (bytes_eq w (codes "-")) _ _ (followed_clean _ _ (expected_clean _ ws) (λ rest. tt)) (followed_clean _ _ (with_path_clean [] w) (λ first. until_clean _ _ with_path_clean first ws))

  with_number_clean : (is w : List ℕ) → Clean (with_number n is w)
  unfolding with_number
  with_number_clean is w = followed_clean _ _ (here_clean _) (λ m. tt)

  numbers_after_clean : (is : List ℕ) (ws : List (List ℕ)) → Clean (numbers_after n is ws)
  unfolding numbers_after
  numbers_after_clean is [] = tt
  numbers_after_clean is (w ∷ ws) = followed_clean _ _ (with_number_clean is w) (λ more. numbers_after_clean more ws)

  some_numbers_clean : (ws : List (List ℕ)) → Clean (some_numbers n ws)
  unfolding some_numbers
  some_numbers_clean ws = followed_clean _ _ (word_clean ws) (λ w. followed_clean _ _ (with_number_clean [] w.0) (λ first. numbers_after_clean first w.1))

  spared_clean : (ws : List (List ℕ)) → Clean (spared n ws)
  unfolding spared
  spared_clean ws = followed_clean _ _ (named_clean ws) (λ p. some_numbers_clean p.1)

  unread_clean : (ws : List (List ℕ)) → Clean (unread n ws)
  unfolding unread
  unread_clean ws = followed_clean _ _ (named_clean ws) (λ p. followed_clean _ _ (numbered_clean p.1) (λ r. ended_clean r.1))

  triggered_clean : (ws : List (List ℕ)) → Clean (triggered n ws)
  unfolding triggered
  triggered_clean ws = followed_clean _ _ (one_of_clean _ _ ws) (λ t. followed_clean _ _ (one_of_clean _ _ t) (λ p. ended_clean p))

  link_triggered_clean : (ws : List (List ℕ)) → Clean (link_triggered n ws)
  unfolding link_triggered
  link_triggered_clean ws = followed_clean _ _ (named_clean ws) (λ p. triggered_clean p.1)

  number_triggered_clean : (ws : List (List ℕ)) → Clean (number_triggered n ws)
  unfolding number_triggered
  number_triggered_clean ws = followed_clean _ _ (numbered_clean ws) (λ a. triggered_clean a.1)

  source_triggered_clean : (key : List ℕ) (ws : List (List ℕ)) → Clean (source_triggered n key ws)
  unfolding source_triggered
  source_triggered_clean key ws =
      if_clean (bytes_eq key (codes "link")) _ _ (link_triggered_clean ws) (if_clean (bytes_eq key (codes "wired") || bytes_eq key (codes "sci")) _ _ (number_triggered_clean ws) tt)

  trigger_clean : (ws : List (List ℕ)) → Clean (trigger n ws)
  unfolding trigger
  trigger_clean ws = followed_clean _ _ (word_clean ws) (λ w. source_triggered_clean w.0 w.1)

  bus_refused_clean : (ws : List (List ℕ)) → Clean (bus_refused n ws)
  unfolding bus_refused
  bus_refused_clean ws = followed_clean _ _ (numbered_clean ws) (λ r. ended_clean r.1)

  bus_known_clean : (segment : List ℕ) (ws : List (List ℕ)) → Clean (bus_known n segment ws)
  unfolding bus_known
  bus_known_clean segment ws = followed_clean _ _ (here_clean _) (λ s. followed_clean _ _ (numbered_clean ws) (λ b. ended_clean b.1))

  bus_state_clean : (ws : List (List ℕ)) → Clean (bus_state n ws)
  unfolding bus_state
  bus_state_clean ws = followed_clean _ _ (word_clean ws) (λ w. if_clean (bytes_eq w.0 (codes "refused")) _ _ (bus_refused_clean w.1) (bus_known_clean w.0 w.1))

  bus_clean : (ws : List (List ℕ)) → Clean (bus n ws)
  unfolding bus
  bus_clean ws = followed_clean _ _ (named_clean ws) (λ p. bus_state_clean p.1)

  set_clean : (w : List ℕ) (ws : List (List ℕ)) → Clean (set n w ws)
  unfolding set
  set_clean w ws = followed_clean _ _ (set_links_clean w ws) (λ ps. followed_clean _ _ (numbers_after_clean [] ps.1) (λ is. tt))

  bound_clean : (ws : List (List ℕ)) → Clean (bound n ws)
  unfolding bound
  bound_clean ws =
      followed_clean _ _ (word_clean ws) (λ w. if_clean (bytes_eq w.0 (codes "none")) _ _ (followed_clean _ _ (ended_clean w.1) (λ u. tt)) (followed_clean _ _ (set_clean w.0 w.1) (λ s. tt)))

  -- ---- what a line says

  link_line_clean : (ws : List (List ℕ)) (d : Said) → Clean (link_line n ws d)
  unfolding link_line with_link
  link_line_clean ws d = followed_clean _ _ (link_clean ws) (λ l. if_clean (nat_lt (length d.links) 256) _ _ tt tt)

  wired_line_clean : (ws : List (List ℕ)) (d : Said) → Clean (wired_line n ws d)
  unfolding wired_line with_wired
  wired_line_clean ws d = followed_clean _ _ (wired_clean ws) (λ w. if_clean (nat_lt (length d.wired) 4096) _ _ tt tt)

  sci_line_clean : (ws : List (List ℕ)) (d : Said) → Clean (sci_line n ws d)
  unfolding sci_line with_sci
  sci_line_clean ws d = followed_clean _ _ (sci_clean ws) (λ s. if_clean (is_some d.sci) _ _ tt tt)

  avoid_line_clean : (ws : List (List ℕ)) (d : Said) → Clean (avoid_line n ws d)
  unfolding avoid_line with_avoid
  avoid_line_clean ws d = followed_clean _ _ (avoid_clean ws) (λ ns. if_clean (is_some d.avoid) _ _ tt tt)

  spared_line_clean : (ws : List (List ℕ)) (d : Said) → Clean (spared_line n ws d)
  unfolding spared_line with_spared
  spared_line_clean ws d = followed_clean _ _ (spared_clean ws) (λ ns. followed_clean _ _ (here_clean d.spared) (λ ms. tt))

  unread_line_clean : (ws : List (List ℕ)) (d : Said) → Clean (unread_line n ws d)
  unfolding unread_line with_option
  unread_line_clean ws d = followed_clean _ _ (unread_clean ws) (λ u. if_clean (is_some d.spared) _ _ tt tt)

  trigger_line_clean : (ws : List (List ℕ)) (d : Said) → Clean (trigger_line n ws d)
  unfolding trigger_line with_option
  trigger_line_clean ws d = followed_clean _ _ (trigger_clean ws) (λ u. if_clean (is_some d.spared) _ _ tt tt)

  bus_line_clean : (ws : List (List ℕ)) (d : Said) → Clean (bus_line n ws d)
  unfolding bus_line with_option
  bus_line_clean ws d = followed_clean _ _ (bus_clean ws) (λ u. if_clean (is_some d.spared) _ _ tt tt)

  rule_line_clean : (r : Rule) (ws : List (List ℕ)) (d : Said) → Clean (rule_line n r ws d)
  unfolding rule_line with_rule
  rule_line_clean r ws d = followed_clean _ _ (ended_clean ws) (λ u. if_clean (is_some d.rule) _ _ tt tt)

  give_line_clean : (ws : List (List ℕ)) (d : Said) → Clean (give_line n ws d)
  unfolding give_line with_give
  give_line_clean ws d = followed_clean _ _ (give_clean ws) (λ g. tt)

  busiest_line_clean : (ws : List (List ℕ)) (d : Said) → Clean (busiest_line n ws d)
  unfolding busiest_line with_busiest
  busiest_line_clean ws d = followed_clean _ _ (busiest_clean ws) (λ k. if_clean (is_some d.busiest) _ _ tt tt)

  bound_line_clean : (ws : List (List ℕ)) (d : Said) → Clean (bound_line n ws d)
  unfolding bound_line with_bound
  bound_line_clean ws d = followed_clean _ _ (bound_clean ws) (λ b. if_clean (is_some d.bound) _ _ tt tt)

  claimless_clean : (key : List ℕ) (ws : List (List ℕ)) (d : Said) → Clean (claimless n key ws d)
  unfolding claimless
  claimless_clean key ws d =
      if_clean (bytes_eq key (codes "unread")) _ _ (unread_line_clean ws d)
      (if_clean (bytes_eq key (codes "trigger")) _ _ (trigger_line_clean ws d)
      (if_clean (bytes_eq key (codes "bus")) _ _ (bus_line_clean ws d)
      (if_clean (is_passed_over key) _ _ tt tt)))

  keyed_clean : (key : List ℕ) (ws : List (List ℕ)) (d : Said) → Clean (keyed n key ws d)
  unfolding keyed
  keyed_clean key ws d =
      if_clean (bytes_eq key (codes "link")) _ _ (link_line_clean ws d)
      (if_clean (bytes_eq key (codes "wired")) _ _ (wired_line_clean ws d)
      (if_clean (bytes_eq key (codes "sci")) _ _ (sci_line_clean ws d)
      (if_clean (bytes_eq key (codes "avoid")) _ _ (avoid_line_clean ws d)
      (if_clean (bytes_eq key (codes "spared")) _ _ (spared_line_clean ws d)
      (if_clean (bytes_eq key (codes "first")) _ _ (rule_line_clean rule.First ws d)
      (if_clean (bytes_eq key (codes "spread")) _ _ (rule_line_clean rule.Spread ws d)
      (if_clean (bytes_eq key (codes "give")) _ _ (give_line_clean ws d)
      (if_clean (bytes_eq key (codes "busiest")) _ _ (busiest_line_clean ws d)
      (if_clean (bytes_eq key (codes "bound")) _ _ (bound_line_clean ws d)
      (claimless_clean key ws d))))))))))

  line_clean : (ws : List (List ℕ)) (d : Said) → Clean (line n ws d)
  unfolding line
  line_clean ws d = followed_clean _ _ (word_clean ws) (λ w. keyed_clean w.0 w.1 d)

  version_here_clean : (w : List ℕ) → Clean (version_here n w)
  version_here_clean w = if_clean (bytes_eq w (codes "1")) _ _ tt (if_clean (bytes_eq w (codes "2")) _ _ tt (if_clean (bytes_eq w (codes "3")) _ _ tt tt))

  heading_clean : (ws : List (List ℕ)) → Clean (heading n ws)
  unfolding heading
  heading_clean ws =
      followed_clean _ _ (expected_clean _ ws) (λ name. followed_clean _ _ (word_clean name) (λ w. followed_clean _ _ (version_here_clean w.0) (λ v. followed_clean _ _ (ended_clean w.1) (λ u. tt))))

  claimed_clean : (d : Said) → Clean (claimed n d)
  unfolding claimed
  claimed_clean d =
      followed_clean _ _ (here_clean d.sci) (λ s. followed_clean _ _ (here_clean d.avoid)
      (λ ns. followed_clean _ _ (here_clean d.rule) (λ r. followed_clean _ _ (here_clean d.busiest) (λ k. followed_clean _ _ (here_clean d.bound) (λ b. tt)))))

-- ---- a report

lines_read_clean : (n : ℕ) (ls : List (List ℕ)) (d : Said) → Clean (lines_read n ls d)
unfolding lines_read
lines_read_clean n [] d = claimed_clean n d
lines_read_clean n (l ∷ ls) d = followed_clean _ _ (line_clean n (words l) d) (λ e. lines_read_clean (n + 1) ls e)

all_read_clean : (ls : List (List ℕ)) → Clean (all_read ls)
unfolding all_read
all_read_clean [] = tt
all_read_clean (l ∷ ls) = followed_clean _ _ (heading_clean 1 (words l)) (λ v. lines_read_clean 2 ls (first_said v))

pub claim_of_text_clean : (text : List ℕ) → Clean (claim_of_text text)
unfolding claim_of_text
claim_of_text_clean text = all_read_clean (lines text)
