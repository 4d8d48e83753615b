-- What words say doesn't depend on the number of their line: only a refusal names it.
use Rattle.std.proofs.Common.{◌≡◌, refl, subst, ℕ, Bool, true, false, List, [], ◌∷◌, Ok, Err, Option, Some, None, codes, if◌then◌else◌, bytes_eq}
use Rattle.std.specs.Prelude.{◌||◌}
use Rattle.std.specs.Result.{result_ok}
use Rattle.ar_space.specs.Outcome.{Outcome, ◌>>=◌}
use Rattle.aml_path.specs.declared.segment.Seg.{Seg}
use Rattle.aml_path.specs.Text.{text_of, path_of_text}
use Rattle.route_report.specs.Lines.{number}
use Rattle.route_report.specs.Reading.{ascends, in_line, here, word, ended, expected, one_of, number_here, path_here, numbered, named, with_next, until, offers, offered, link, wired, sci, ascending_after, avoid, some_numbers, spared, unread, triggered, link_triggered, number_triggered, source_triggered, trigger, bus_refused, bus_known, bus_state, bus, give, busiest, with_path, set_links, with_number, numbers_after, set, bound}

-- two outcomes give the same value, or are both a refusal
abbrev pub Alike : {A : Type 0} → Outcome A → Outcome A → Type 0
Alike x y = result_ok x ≡ result_ok y

pub then_alike : {A B : Type 0} (x y : Outcome A) (k h : A → Outcome B) → Alike x y → ((a : A) → Alike (k a) (h a)) → Alike (x >>= k) (y >>= h)
unfolding ◌>>=◌
then_alike (Ok a) (Ok b) k h e on = let same : a ≡ b = cc e in subst (λ (c : _). Alike (k a) (h c)) same (on a)
then_alike (Ok a) (Err f) k h e on = absurd (cc e)
then_alike (Err d) (Ok b) k h e on = absurd (cc e)
then_alike (Err d) (Err f) k h e on = refl

pub if_alike : {A : Type 0} (b : Bool) (x y u v : Outcome A) → Alike x y → Alike u v → Alike (if b then x else u) (if b then y else v)
if_alike true x y u v e f = e
if_alike false x y u v e f = f

module _ (n m : ℕ) where
  word_alike : (ws : List (List ℕ)) → Alike (word n ws) (word m ws)
  word_alike [] = refl
  word_alike (w ∷ ws) = refl

  pub ended_alike : (ws : List (List ℕ)) → Alike (ended n ws) (ended m ws)
  ended_alike [] = refl
  ended_alike (w ∷ ws) = refl

  here_alike : {A : Type 0} (o : Option A) → Alike (here n o) (here m o)
  here_alike None = refl
  here_alike (Some a) = refl

  in_line_alike : {A : Type 0} (x : Outcome A) → Alike (in_line n x) (in_line m x)
  in_line_alike (Ok a) = refl
  in_line_alike (Err e) = refl

  expected_alike : (key : List ℕ) (ws : List (List ℕ)) → Alike (expected n key ws) (expected m key ws)
  unfolding expected
  expected_alike key ws = then_alike (word n ws) (word m ws) _ _ (word_alike ws) (λ w. if_alike (bytes_eq w.0 key) _ _ _ _ refl refl)

  one_of_alike : (this that : List ℕ) (ws : List (List ℕ)) → Alike (one_of n this that ws) (one_of m this that ws)
  unfolding one_of
  one_of_alike this that ws = then_alike (word n ws) (word m ws) _ _ (word_alike ws) (λ w. if_alike (bytes_eq w.0 this || bytes_eq w.0 that) _ _ _ _ refl refl)

  path_alike : (w : List ℕ) → Alike (path_here n w) (path_here m w)
  unfolding path_here
  path_alike w = then_alike (in_line n (path_of_text w)) (in_line m (path_of_text w)) _ _ (in_line_alike (path_of_text w)) (λ p. if_alike (bytes_eq (text_of p) w) _ _ _ _ refl refl)

  numbered_alike : (ws : List (List ℕ)) → Alike (numbered n ws) (numbered m ws)
  unfolding numbered
  numbered_alike ws = then_alike (word n ws) (word m ws) _ _ (word_alike ws) (λ w. then_alike (number_here n w.0) (number_here m w.0) _ _ (here_alike (number w.0)) (λ a. refl))

  named_alike : (ws : List (List ℕ)) → Alike (named n ws) (named m ws)
  unfolding named
  named_alike ws = then_alike (word n ws) (word m ws) _ _ (word_alike ws) (λ w. then_alike (path_here n w.0) (path_here m w.0) _ _ (path_alike w.0) (λ p. refl))

  next_alike : (os : List ℕ) (w : List ℕ) → Alike (with_next n os w) (with_next m os w)
  unfolding with_next
  next_alike os w = then_alike (number_here n w) (number_here m w) _ _ (here_alike (number w)) (λ k. if_alike (ascends os k) _ _ _ _ refl refl)

  until_alike : {A : Type 0} (key : List ℕ) (step other : List A → List ℕ → Outcome (List A)) → ((xs : List A) (w : List ℕ) → Alike (step xs w) (other xs w)) → (xs : List A) (ws : List (List ℕ)) → Alike (until n key step xs ws) (until m key other xs ws)
  unfolding until
  until_alike key step other same xs [] = refl
  until_alike key step other same xs (w ∷ ws) = if_alike (bytes_eq w key) _ _ _ _ refl (then_alike (step xs w) (other xs w) _ _ (same xs w) (λ more. until_alike key step other same more ws))

  offers_alike : (ws : List (List ℕ)) → Alike (offers n ws) (offers m ws)
  unfolding offers
  offers_alike ws =
      then_alike (word n ws) (word m ws) _ _ (word_alike ws)
      (λ w. then_alike (with_next n [] w.0) (with_next m [] w.0) _ _ (next_alike [] w.0)
      (λ first. then_alike (until n (codes "now") (with_next n) first w.1) (until m (codes "now") (with_next m) first w.1) _ _ (until_alike (codes "now") (with_next n) (with_next m) next_alike first w.1)
      (λ all. refl)))

  offered_alike : (ws : List (List ℕ)) → Alike (offered n ws) (offered m ws)
  unfolding offered
  offered_alike ws =
      then_alike (one_of n (codes "small") (codes "extended") ws) (one_of m (codes "small") (codes "extended") ws) _ _ (one_of_alike (codes "small") (codes "extended") ws)
      (λ f. then_alike (one_of n (codes "low") (codes "high") f) (one_of m (codes "low") (codes "high") f) _ _ (one_of_alike (codes "low") (codes "high") f)
      (λ p. then_alike (expected n (codes "offers") p) (expected m (codes "offers") p) _ _ (expected_alike (codes "offers") p) offers_alike))

  pub link_alike : (ws : List (List ℕ)) → Alike (link n ws) (link m ws)
  unfolding link
  link_alike ws = then_alike (named n ws) (named m ws) _ _ (named_alike ws) (λ p. then_alike (offered n p.1) (offered m p.1) _ _ (offered_alike p.1) (λ os. refl))

  pub wired_alike : (ws : List (List ℕ)) → Alike (wired n ws) (wired m ws)
  unfolding wired
  wired_alike ws =
      then_alike (numbered n ws) (numbered m ws) _ _ (numbered_alike ws)
      (λ a. then_alike (numbered n a.1) (numbered m a.1) _ _ (numbered_alike a.1)
      (λ c. then_alike (ended n c.1) (ended m c.1) _ _ (ended_alike c.1) (λ _. refl)))

  pub sci_alike : (ws : List (List ℕ)) → Alike (sci n ws) (sci m ws)
  unfolding sci
  sci_alike ws =
      then_alike (word n ws) (word m ws) _ _ (word_alike ws)
      (λ w. then_alike (ended n w.1) (ended m w.1) _ _ (ended_alike w.1)
      (λ _. if_alike (bytes_eq w.0 (codes "none")) _ _ _ _ refl
      (then_alike (number_here n w.0) (number_here m w.0) _ _ (here_alike (number w.0)) (λ a. refl))))

  ascending_alike : (os : List ℕ) (ws : List (List ℕ)) → Alike (ascending_after n os ws) (ascending_after m os ws)
  unfolding ascending_after
  ascending_alike os [] = refl
  ascending_alike os (w ∷ ws) = then_alike (with_next n os w) (with_next m os w) _ _ (next_alike os w) (λ more. ascending_alike more ws)

  pub avoid_alike : (ws : List (List ℕ)) → Alike (avoid n ws) (avoid m ws)
  unfolding avoid
  avoid_alike ws =
      then_alike (word n ws) (word m ws) _ _ (word_alike ws)
      (λ w. if_alike (bytes_eq w.0 (codes "-")) _ _ _ _
      (then_alike (ended n w.1) (ended m w.1) _ _ (ended_alike w.1) (λ _. refl))
      (then_alike (with_next n [] w.0) (with_next m [] w.0) _ _ (next_alike [] w.0) (λ first. ascending_alike first w.1)))

  pub give_alike : (ws : List (List ℕ)) → Alike (give n ws) (give m ws)
  unfolding give
  give_alike ws =
      then_alike (named n ws) (named m ws) _ _ (named_alike ws)
      (λ p. then_alike (numbered n p.1) (numbered m p.1) _ _ (numbered_alike p.1)
      (λ a. then_alike (ended n a.1) (ended m a.1) _ _ (ended_alike a.1) (λ _. refl)))

  pub busiest_alike : (ws : List (List ℕ)) → Alike (busiest n ws) (busiest m ws)
  unfolding busiest
  busiest_alike ws = then_alike (numbered n ws) (numbered m ws) _ _ (numbered_alike ws) (λ a. then_alike (ended n a.1) (ended m a.1) _ _ (ended_alike a.1) (λ _. refl))

  with_path_alike : (ps : List (List Seg)) (w : List ℕ) → Alike (with_path n ps w) (with_path m ps w)
  unfolding with_path
  with_path_alike ps w = then_alike (path_here n w) (path_here m w) _ _ (path_alike w) (λ p. refl)

  set_links_alike : (w : List ℕ) (ws : List (List ℕ)) → Alike (set_links n w ws) (set_links m w ws)
  unfolding set_links
  set_links_alike w ws =
      if_alike (bytes_eq w (codes "-")) _ _ _ _
      (then_alike (expected n (codes "over") ws) (expected m (codes "over") ws) _ _ (expected_alike (codes "over") ws) (λ rest. refl))
      (then_alike (with_path n [] w) (with_path m [] w) _ _ (with_path_alike [] w) (λ first. until_alike (codes "over") (with_path n) (with_path m) with_path_alike first ws))

  with_number_alike : (is : List ℕ) (w : List ℕ) → Alike (with_number n is w) (with_number m is w)
  unfolding with_number
  with_number_alike is w = then_alike (number_here n w) (number_here m w) _ _ (here_alike (number w)) (λ k. refl)

  numbers_alike : (is : List ℕ) (ws : List (List ℕ)) → Alike (numbers_after n is ws) (numbers_after m is ws)
  unfolding numbers_after
  numbers_alike is [] = refl
  numbers_alike is (w ∷ ws) = then_alike (with_number n is w) (with_number m is w) _ _ (with_number_alike is w) (λ more. numbers_alike more ws)

  some_alike : (ws : List (List ℕ)) → Alike (some_numbers n ws) (some_numbers m ws)
  unfolding some_numbers
  some_alike ws =
      then_alike (word n ws) (word m ws) _ _ (word_alike ws)
      (λ w. then_alike (with_number n [] w.0) (with_number m [] w.0) _ _ (with_number_alike [] w.0) (λ first. numbers_alike first w.1))

  pub spared_alike : (ws : List (List ℕ)) → Alike (spared n ws) (spared m ws)
  unfolding spared
  spared_alike ws = then_alike (named n ws) (named m ws) _ _ (named_alike ws) (λ p. some_alike p.1)

  pub unread_alike : (ws : List (List ℕ)) → Alike (unread n ws) (unread m ws)
  unfolding unread
  unread_alike ws = then_alike (named n ws) (named m ws) _ _ (named_alike ws) (λ p. then_alike (numbered n p.1) (numbered m p.1) _ _ (numbered_alike p.1) (λ r. ended_alike r.1))

  triggered_alike : (ws : List (List ℕ)) → Alike (triggered n ws) (triggered m ws)
  unfolding triggered
  triggered_alike ws =
      then_alike (one_of n (codes "level") (codes "edge") ws) (one_of m (codes "level") (codes "edge") ws) _ _ (one_of_alike (codes "level") (codes "edge") ws)
      (λ t. then_alike (one_of n (codes "low") (codes "high") t) (one_of m (codes "low") (codes "high") t) _ _ (one_of_alike (codes "low") (codes "high") t) (λ p. ended_alike p))

  link_triggered_alike : (ws : List (List ℕ)) → Alike (link_triggered n ws) (link_triggered m ws)
  unfolding link_triggered
  link_triggered_alike ws = then_alike (named n ws) (named m ws) _ _ (named_alike ws) (λ p. triggered_alike p.1)

  number_triggered_alike : (ws : List (List ℕ)) → Alike (number_triggered n ws) (number_triggered m ws)
  unfolding number_triggered
  number_triggered_alike ws = then_alike (numbered n ws) (numbered m ws) _ _ (numbered_alike ws) (λ a. triggered_alike a.1)

  source_triggered_alike : (w : List ℕ) (ws : List (List ℕ)) → Alike (source_triggered n w ws) (source_triggered m w ws)
  unfolding source_triggered
  source_triggered_alike w ws =
      if_alike (bytes_eq w (codes "link")) _ _ _ _ (link_triggered_alike ws)
      (if_alike (bytes_eq w (codes "wired") || bytes_eq w (codes "sci")) _ _ _ _ (number_triggered_alike ws) refl)

  pub trigger_alike : (ws : List (List ℕ)) → Alike (trigger n ws) (trigger m ws)
  unfolding trigger
  trigger_alike ws = then_alike (word n ws) (word m ws) _ _ (word_alike ws) (λ w. source_triggered_alike w.0 w.1)

  bus_refused_alike : (ws : List (List ℕ)) → Alike (bus_refused n ws) (bus_refused m ws)
  unfolding bus_refused
  bus_refused_alike ws = then_alike (numbered n ws) (numbered m ws) _ _ (numbered_alike ws) (λ r. ended_alike r.1)

  bus_known_alike : (w : List ℕ) (ws : List (List ℕ)) → Alike (bus_known n w ws) (bus_known m w ws)
  unfolding bus_known
  bus_known_alike w ws =
      then_alike (number_here n w) (number_here m w) _ _ (here_alike (number w))
      (λ _. then_alike (numbered n ws) (numbered m ws) _ _ (numbered_alike ws) (λ b. ended_alike b.1))

  bus_state_alike : (ws : List (List ℕ)) → Alike (bus_state n ws) (bus_state m ws)
  unfolding bus_state
  bus_state_alike ws = then_alike (word n ws) (word m ws) _ _ (word_alike ws) (λ w. if_alike (bytes_eq w.0 (codes "refused")) _ _ _ _ (bus_refused_alike w.1) (bus_known_alike w.0 w.1))

  pub bus_alike : (ws : List (List ℕ)) → Alike (bus n ws) (bus m ws)
  unfolding bus
  bus_alike ws = then_alike (named n ws) (named m ws) _ _ (named_alike ws) (λ p. bus_state_alike p.1)

  set_alike : (w : List ℕ) (ws : List (List ℕ)) → Alike (set n w ws) (set m w ws)
  unfolding set
  set_alike w ws = then_alike (set_links n w ws) (set_links m w ws) _ _ (set_links_alike w ws) (λ ps. then_alike (numbers_after n [] ps.1) (numbers_after m [] ps.1) _ _ (numbers_alike [] ps.1) (λ is. refl))

  pub bound_alike : (ws : List (List ℕ)) → Alike (bound n ws) (bound m ws)
  unfolding bound
  bound_alike ws =
      then_alike (word n ws) (word m ws) _ _ (word_alike ws)
      (λ w. if_alike (bytes_eq w.0 (codes "none")) _ _ _ _
      (then_alike (ended n w.1) (ended m w.1) _ _ (ended_alike w.1) (λ _. refl))
      (then_alike (set n w.0 w.1) (set m w.0 w.1) _ _ (set_alike w.0 w.1) (λ s. refl)))
