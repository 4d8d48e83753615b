-- What is said of the System Control Interrupt, of what is avoided, of what is spared and of the rule of the choice, from line to line.
use Rattle.std.proofs.Common.{◌≡◌, ◌∙◌, ap, subst, refl, ℕ, List, [], ◌∷◌, ◌++◌, Bool, true, false, Ok, Option, Some, None, codes, bytes_eq, if◌then◌else◌}
use Rattle.std.specs.Prelude.{is_some}
use Rattle.ar_space.specs.Outcome.{Outcome, ◌>>=◌}
use Rattle.route_report.specs.Reading.{Said, bad_line, here, ended, link, wired, sci, avoid, spared, unread, trigger, bus, give, busiest, bound, with_link, with_wired, with_sci, with_avoid, with_spared, with_option, with_rule, with_give, with_busiest, with_bound, link_line, wired_line, sci_line, avoid_line, spared_line, unread_line, trigger_line, bus_line, rule_line, give_line, busiest_line, bound_line, claimless, keyed, line}
use Rattle.route_report.specs.declared.report.Rule.{Rule}
use Rattle.route_report.specs.declared.report.Rule.TheVariants as rule
use Rattle.route_report.proofs.Decimals.{equal_bytes}
use Rattle.route_report.proofs.Turns.{went_on}

module _ (P : Option (Option ℕ) → Option (List ℕ) → Option (List ℕ) → Option Rule → Type 0) where
  abbrev Keeps : Outcome Said → Type 0
  Keeps x = (e : Said) → x ≡ Ok e → P e.sci e.avoid e.spared e.rule

  step_keeps : {A : Type 0} (x : Outcome A) (k : A → Outcome Said) → ((a : A) → x ≡ Ok a → Keeps (k a)) → Keeps (x >>= k)
  step_keeps x k on e is = let a = went_on x k e is in on a.0 a.1 e a.2

  if_keeps : (b : Bool) (x y : Outcome Said) → (b ≡ true → Keeps x) → (b ≡ false → Keeps y) → Keeps (if b then x else y)
  if_keeps true x y h i = h refl
  if_keeps false x y h i = i refl

  said_keeps : (d : Said) → P d.sci d.avoid d.spared d.rule → Keeps (Ok d)
  said_keeps d holds e is = let same : d ≡ e = cc is in subst (λ (f : Said). P f.sci f.avoid f.spared f.rule) same holds

  -- it holds of what was said, and still where a line of all these words tells of one of these for the first time, or of more that is spared
  module _ (n : ℕ) (d : Said) (holds : P d.sci d.avoid d.spared d.rule) (all : List (List ℕ)) (of_sci : (s : Option ℕ) → is_some d.sci ≡ false → P (Some s) d.avoid d.spared d.rule)
      (of_avoid : (ws : List (List ℕ)) (ns : List ℕ) → all ≡ codes "avoid" ∷ ws → avoid n ws ≡ Ok ns → is_some d.avoid ≡ false → P d.sci (Some ns) d.spared d.rule)
      (of_spared : (ms ns : List ℕ) → d.spared ≡ Some ms → P d.sci d.avoid (Some (ms ++ ns)) d.rule) (of_rule : (r : Rule) → is_some d.rule ≡ false → P d.sci d.avoid d.spared (Some r)) where
    refused_keeps : Keeps (bad_line n)
    refused_keeps e is = absurd (cc is)

    unless_keeps : (b : Bool) (e : Said) → (b ≡ false → P e.sci e.avoid e.spared e.rule) → Keeps (if b then bad_line n else Ok e)
    unless_keeps b e still = if_keeps b (bad_line n) (Ok e) (λ _. refused_keeps) (λ is. said_keeps e (still is))

    room_keeps : (b : Bool) (e : Said) → P e.sci e.avoid e.spared e.rule → Keeps (if b then Ok e else bad_line n)
    room_keeps b e still = if_keeps b (Ok e) (bad_line n) (λ _. said_keeps e still) (λ _. refused_keeps)

    -- where lines may tell of what is spared
    told_keeps : (o : Option (List ℕ)) (k : List ℕ → Outcome Said) → d.spared ≡ o → ((ms : List ℕ) → d.spared ≡ Some ms → Keeps (k ms)) → Keeps (here n o >>= k)
    unfolding ◌>>=◌
    told_keeps None k is on = refused_keeps
    told_keeps (Some ms) k is on = on ms is

    keyed_keeps : (key : List ℕ) (ws : List (List ℕ)) → all ≡ key ∷ ws → Keeps (keyed n key ws d)
    unfolding keyed claimless link_line wired_line sci_line avoid_line spared_line unread_line trigger_line bus_line rule_line give_line busiest_line bound_line with_link with_wired with_sci with_avoid with_spared with_option with_rule with_give with_busiest with_bound
    keyed_keeps key ws these =
        if_keeps (bytes_eq key (codes "link")) _ _ (λ _. step_keeps (link n ws) _ (λ l _. room_keeps _ _ holds))
        (λ _. if_keeps (bytes_eq key (codes "wired")) _ _ (λ _. step_keeps (wired n ws) _ (λ w _. room_keeps _ _ holds))
        (λ _. if_keeps (bytes_eq key (codes "sci")) _ _ (λ _. step_keeps (sci n ws) _ (λ s _. unless_keeps _ _ (of_sci s)))
        (λ _. if_keeps (bytes_eq key (codes "avoid")) _ _ (λ same. step_keeps (avoid n ws) _ (λ ns is. unless_keeps _ _ (of_avoid ws ns (these ∙ ap (λ w. w ∷ ws) (equal_bytes key (codes "avoid") same)) is)))
        (λ _. if_keeps (bytes_eq key (codes "spared")) _ _ (λ _. step_keeps (spared n ws) _ (λ ns _. told_keeps d.spared _ refl (λ ms is. said_keeps _ (of_spared ms ns is))))
        (λ _. if_keeps (bytes_eq key (codes "first")) _ _ (λ _. step_keeps (ended n ws) _ (λ _ _. unless_keeps _ _ (of_rule rule.First)))
        (λ _. if_keeps (bytes_eq key (codes "spread")) _ _ (λ _. step_keeps (ended n ws) _ (λ _ _. unless_keeps _ _ (of_rule rule.Spread)))
        (λ _. if_keeps (bytes_eq key (codes "give")) _ _ (λ _. step_keeps (give n ws) _ (λ g _. said_keeps _ holds))
        (λ _. if_keeps (bytes_eq key (codes "busiest")) _ _ (λ _. step_keeps (busiest n ws) _ (λ k _. unless_keeps _ _ (λ _. holds)))
        (λ _. if_keeps (bytes_eq key (codes "bound")) _ _ (λ _. step_keeps (bound n ws) _ (λ b _. unless_keeps _ _ (λ _. holds)))
        (λ _. if_keeps (bytes_eq key (codes "unread")) _ _ (λ _. step_keeps (unread n ws) _ (λ _ _. room_keeps _ d holds))
        (λ _. if_keeps (bytes_eq key (codes "trigger")) _ _ (λ _. step_keeps (trigger n ws) _ (λ _ _. room_keeps _ d holds))
        (λ _. if_keeps (bytes_eq key (codes "bus")) _ _ (λ _. step_keeps (bus n ws) _ (λ _ _. room_keeps _ d holds))
        (λ _. room_keeps _ d holds)))))))))))))

    words_keep : (ws : List (List ℕ)) → all ≡ ws → Keeps (line n ws d)
    unfolding line ◌>>=◌
    words_keep [] these = refused_keeps
    words_keep (w ∷ ws) these = keyed_keeps w ws these

    pub line_keeps : Keeps (line n all d)
    line_keeps = words_keep all refl
