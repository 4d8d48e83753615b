-- What a line does to what is said, whatever its number.
use Rattle.std.proofs.Common.{◌≡◌, refl, subst, ℕ, Bool, true, false, List, [], ◌∷◌, Ok, Err, Option, ◌||◌, not, ap, ◌∙◌, codes, if◌then◌else◌, bytes_eq}
use Rattle.std.proofs.lemmas.Bool.{not-false}
use Rattle.ar_space.specs.Outcome.{Outcome, ◌>>=◌}
use Rattle.aml_path.specs.declared.segment.Seg.{Seg}
use Rattle.route_model.specs.Links.{OfferingLink}
use Rattle.route_check.specs.Claims.{BoundingSet}
use Rattle.route_report.specs.Counting.{first_of}
use Rattle.route_report.specs.declared.report.Rule.{Rule}
use Rattle.route_report.specs.declared.report.Rule.TheVariants as rule
use Rattle.route_report.specs.Reading.{Said, is_passed_over, bad_line, ended, link, wired, sci, avoid, spared, unread, trigger, bus, give, busiest, bound, with_link, with_wired, with_sci, with_avoid, with_spared, with_option, with_rule, with_give, with_busiest, with_bound, link_line, wired_line, sci_line, avoid_line, spared_line, unread_line, trigger_line, bus_line, rule_line, give_line, busiest_line, bound_line, claimless, keyed, line}
use Rattle.route_report.proofs.Decimals.{equal_bytes}
use Rattle.route_report.proofs.Renumbered.{Alike, link_alike, wired_alike, sci_alike, avoid_alike, ended_alike, spared_alike, unread_alike, trigger_alike, bus_alike, give_alike, busiest_alike, bound_alike}

pub data Effect : Type 0 where
  refuses : Effect
  says_nothing : Effect
  says_link : OfferingLink → Effect
  says_wired : ℕ × ℕ → Effect
  says_sci : Option ℕ → Effect
  says_avoid : List ℕ → Effect
  says_spared : List ℕ → Effect
  says_option : Effect
  says_rule : Rule → Effect
  says_give : List Seg × ℕ → Effect
  says_busiest : ℕ → Effect
  says_bound : Option BoundingSet → Effect

-- what is said after a line of this effect, the n-th
abbrev pub after : ℕ → Effect → Said → Outcome Said
after n refuses d = bad_line n
after n says_nothing d = Ok d
after n (says_link l) d = with_link n l d
after n (says_wired w) d = with_wired n w d
after n (says_sci s) d = with_sci n s d
after n (says_avoid ns) d = with_avoid n ns d
after n (says_spared ns) d = with_spared n ns d
after n says_option d = with_option n d
after n (says_rule r) d = with_rule n r d
after n (says_give g) d = with_give n g d
after n (says_busiest k) d = with_busiest n k d
after n (says_bound b) d = with_bound n b d

-- what is read decides the effect, unless it is refused
abbrev pub read_as : {A : Type 0} → (A → Effect) → Outcome A → Effect
read_as says (Ok a) = says a
read_as says (Err e) = refuses

abbrev keyed_effect : List ℕ → List (List ℕ) → Effect
keyed_effect key ws =
    if bytes_eq key (codes "link") then read_as says_link (link 0 ws)
    else if bytes_eq key (codes "wired") then read_as says_wired (wired 0 ws)
    else if bytes_eq key (codes "sci") then read_as says_sci (sci 0 ws)
    else if bytes_eq key (codes "avoid") then read_as says_avoid (avoid 0 ws)
    else if bytes_eq key (codes "spared") then read_as says_spared (spared 0 ws)
    else if bytes_eq key (codes "first") then read_as (λ _. says_rule rule.First) (ended 0 ws)
    else if bytes_eq key (codes "spread") then read_as (λ _. says_rule rule.Spread) (ended 0 ws)
    else if bytes_eq key (codes "give") then read_as says_give (give 0 ws)
    else if bytes_eq key (codes "busiest") then read_as says_busiest (busiest 0 ws)
    else if bytes_eq key (codes "bound") then read_as says_bound (bound 0 ws)
    else if bytes_eq key (codes "unread") then read_as (λ _. says_option) (unread 0 ws)
    else if bytes_eq key (codes "trigger") then read_as (λ _. says_option) (trigger 0 ws)
    else if bytes_eq key (codes "bus") then read_as (λ _. says_option) (bus 0 ws)
    else if is_passed_over key then says_nothing
    else refuses

abbrev pub effect : List (List ℕ) → Effect
effect [] = refuses
effect (w ∷ ws) = keyed_effect w ws

module _ (n : ℕ) (d : Said) where
  read_gives : {A : Type 0} (says : A → Effect) (x y : Outcome A) → Alike x y → Alike (x >>= (λ a. after n (says a) d)) (after n (read_as says y) d)
  unfolding ◌>>=◌
  read_gives says (Ok a) (Ok b) e = let same : a ≡ b = cc e in subst (λ (c : _). Alike (after n (says a) d) (after n (says c) d)) same refl
  read_gives says (Ok a) (Err f) e = absurd (cc e)
  read_gives says (Err g) (Ok b) e = absurd (cc e)
  read_gives says (Err g) (Err f) e = refl

  either_gives : (b : Bool) (x y : Outcome Said) (f g : Effect) → Alike x (after n f d) → Alike y (after n g d) → Alike (if b then x else y) (after n (if b then f else g) d)
  either_gives true x y f g e i = e
  either_gives false x y f g e i = i

  keyed_gives : (key : List ℕ) (ws : List (List ℕ)) → Alike (keyed n key ws d) (after n (keyed_effect key ws) d)
  unfolding keyed claimless link_line wired_line sci_line avoid_line spared_line unread_line trigger_line bus_line rule_line give_line busiest_line bound_line
  keyed_gives key ws =
      either_gives (bytes_eq key (codes "link")) _ _ _ _ (read_gives says_link (link n ws) (link 0 ws) (link_alike n 0 ws))
      (either_gives (bytes_eq key (codes "wired")) _ _ _ _ (read_gives says_wired (wired n ws) (wired 0 ws) (wired_alike n 0 ws))
      (either_gives (bytes_eq key (codes "sci")) _ _ _ _ (read_gives says_sci (sci n ws) (sci 0 ws) (sci_alike n 0 ws))
      (either_gives (bytes_eq key (codes "avoid")) _ _ _ _ (read_gives says_avoid (avoid n ws) (avoid 0 ws) (avoid_alike n 0 ws))
      (either_gives (bytes_eq key (codes "spared")) _ _ _ _ (read_gives says_spared (spared n ws) (spared 0 ws) (spared_alike n 0 ws))
      (either_gives (bytes_eq key (codes "first")) _ _ _ _ (read_gives (λ _. says_rule rule.First) (ended n ws) (ended 0 ws) (ended_alike n 0 ws))
      (either_gives (bytes_eq key (codes "spread")) _ _ _ _ (read_gives (λ _. says_rule rule.Spread) (ended n ws) (ended 0 ws) (ended_alike n 0 ws))
      (either_gives (bytes_eq key (codes "give")) _ _ _ _ (read_gives says_give (give n ws) (give 0 ws) (give_alike n 0 ws))
      (either_gives (bytes_eq key (codes "busiest")) _ _ _ _ (read_gives says_busiest (busiest n ws) (busiest 0 ws) (busiest_alike n 0 ws))
      (either_gives (bytes_eq key (codes "bound")) _ _ _ _ (read_gives says_bound (bound n ws) (bound 0 ws) (bound_alike n 0 ws))
      (either_gives (bytes_eq key (codes "unread")) _ _ _ _ (read_gives (λ _. says_option) (unread n ws) (unread 0 ws) (unread_alike n 0 ws))
      (either_gives (bytes_eq key (codes "trigger")) _ _ _ _ (read_gives (λ _. says_option) (trigger n ws) (trigger 0 ws) (trigger_alike n 0 ws))
      (either_gives (bytes_eq key (codes "bus")) _ _ _ _ (read_gives (λ _. says_option) (bus n ws) (bus 0 ws) (bus_alike n 0 ws))
      (either_gives (is_passed_over key) _ _ _ _ refl refl)))))))))))))

  pub line_gives : (ws : List (List ℕ)) → Alike (line n ws d) (after n (effect ws) d)
  unfolding line ◌>>=◌
  line_gives [] = refl
  line_gives (w ∷ ws) = keyed_gives w ws

pub either_way : {P : Type 0} (a b : Bool) → a || b ≡ true → (a ≡ true → P) → (b ≡ true → P) → P
either_way true b e this that = this refl
either_way false b e this that = that e

passed_word : (key : List ℕ) (ws : List (List ℕ)) → is_passed_over key ≡ true → effect (key ∷ ws) ≡ says_nothing
passed_word key ws e =
    let is : (word : List ℕ) → effect (word ∷ ws) ≡ says_nothing → bytes_eq key word ≡ true → effect (key ∷ ws) ≡ says_nothing = λ word nothing same. ap (λ w. effect (w ∷ ws)) (equal_bytes key word same) ∙ nothing in
    either_way _ _ e (λ e. either_way _ _ e (λ e. either_way _ _ e (λ e. either_way _ _ e (λ e. either_way _ _ e (is (codes "mode") refl) (is (codes "ioapic") refl))
    (is (codes "override") refl)) (is (codes "pin") refl)) (is (codes "set") refl)) (is (codes "after") refl)

-- a line that is passed over says nothing
pub passed_line : (ws : List (List ℕ)) → not (is_passed_over (first_of ws)) ≡ false → effect ws ≡ says_nothing
passed_line [] e = absurd (cc e)
passed_line (w ∷ ws) e = passed_word w ws (not-false (is_passed_over w) e)
