-- The bridges above a function that are asked for the bus behind them: which they are, and in which order.
use Rattle.std.specs.Prelude.{◌≡◌, ◌⊎◌, ◌≤◌, ◌<◌, ◌+◌, ◌==◌, ℕ, zero, suc, Bool, true, false, List, [], ◌∷◌, ◌++◌, length, take, is_some, refl, if◌then◌else◌}
use Rattle.std.proofs.Common.{arith, ap, inl, inr, sym, subst, ◌∙◌, length-take-le}
use Rattle.std.proofs.lemmas.Bool.Decides.{nat_tests}
use Rattle.std.proofs.lemmas.List.{take_all}
use Rattle.aml_path.specs.declared.segment.Seg.{Seg}
use Rattle.aml_namespace.specs.Namespace.{Map}
use Rattle.aml_world.specs.fields.PciFunctions.{base_bus, has, is_bridge}
use Rattle.aml_world.specs.fields.Bridges.{bridges_over, bridges_to}
use Rattle.aml_laws.specs.PciScopes.{IsAskedBridge, IsAmong, GrowFrom}
use Rattle.aml_laws.proofs.PciScopes.{none_found, bridge_tested, bridge_is}

-- ---- lists that are longer by one

among_front : (q last : List Seg) (l : List (List Seg)) → IsAmong q l → IsAmong q (l ++ last ∷ [])
among_front q last [] h = absurd h
among_front q last (x ∷ xs) (inl same) = inl same
among_front q last (x ∷ xs) (inr h) = inr (among_front q last xs h)

among_last : (q last : List Seg) (l : List (List Seg)) → q ≡ last → IsAmong q (l ++ last ∷ [])
among_last q last [] same = inl same
among_last q last (x ∷ xs) same = inr (among_last q last xs same)

later_either : (q x : List Seg) (P Q : Type 0) → P ⊎ Q → ((q ≡ x) ⊎ P) ⊎ Q
later_either q x P Q (inl h) = inl (inr h)
later_either q x P Q (inr h) = inr h

among_either : (q last : List Seg) (l : List (List Seg)) → IsAmong q (l ++ last ∷ []) → IsAmong q l ⊎ (q ≡ last)
among_either q last [] (inl same) = inr same
among_either q last [] (inr h) = absurd h
among_either q last (x ∷ xs) (inl same) = inl (inl same)
among_either q last (x ∷ xs) (inr h) = later_either q x (IsAmong q xs) (q ≡ last) (among_either q last xs h)

-- all of them have fewer segments
abbrev AllShorter : ℕ → List (List Seg) → Type 0
AllShorter n [] = Unit {0}
AllShorter n (q ∷ qs) = (length q < n) × AllShorter n qs

shorter_still : (n : ℕ) (l : List (List Seg)) → AllShorter n l → AllShorter (suc n) l
shorter_still n [] h = tt
shorter_still n (q ∷ qs) h = (let less = h.0 in omega (arith, less), shorter_still n qs h.1)

shorter_pushed : (n : ℕ) (l : List (List Seg)) (q : List Seg) → AllShorter n l → length q ≡ n → AllShorter (suc n) (l ++ q ∷ [])
shorter_pushed n [] q h is = (omega (arith, is), tt)
shorter_pushed n (x ∷ xs) q h is = (let less = h.0 in omega (arith, less), shorter_pushed n xs q h.1 is)

grow_pushed : (m n : ℕ) (l : List (List Seg)) (q : List Seg) → GrowFrom m l → AllShorter n l → length q ≡ n → m ≤ n → GrowFrom m (l ++ q ∷ [])
grow_pushed m n [] q h short is le = (omega (arith, is, le), tt)
grow_pushed m n (x ∷ xs) q h short is le = let less = short.0 in (h.0, grow_pushed (length x + 1) n xs q h.1 short.1 is (omega (arith, less)))

module _ (names : Map) (p : List Seg) where
  -- a bridge among the scopes with fewer than so many segments, none of which from it on has a bus number
  record AskedOver (n : ℕ) (q : List Seg) : Type 0 where
    segments : ℕ
    less : segments < n
    is : q ≡ take segments p
    bridge : is_bridge names q ≡ true
    no_bus : (j : ℕ) → segments ≤ j → j < n → has names (take j p) base_bus ≡ false

  -- ---- those that are listed

  last_or : (b : Bool) (j n : ℕ) → (j == n) ≡ b → (j < n → has names (take j p) base_bus ≡ false) → has names (take n p) base_bus ≡ false → j < suc n → has names (take j p) base_bus ≡ false
  last_or true j n at before none below = let same : n ≡ j = grind (arith, nat_tests) in subst (λ k. has names (take k p) base_bus ≡ false) same none
  last_or false j n at before none below = before (grind (arith, nat_tests))

  one_more : (n : ℕ) (q : List Seg) → has names (take n p) base_bus ≡ false → AskedOver n q → AskedOver (suc n) q
  one_more n q none a = record {
    segments = a.segments;
    less = let less = a.less in omega (arith, less);
    is = a.is;
    bridge = a.bridge;
    no_bus = λ j from below. last_or (j == n) j n refl (λ few. a.no_bus j from few) none below;
  }

  this_one : (n : ℕ) (q : List Seg) → has names (take n p) base_bus ≡ false → is_bridge names (take n p) ≡ true → q ≡ take n p → AskedOver (suc n) q
  this_one n q none bridge same = record {
    segments = n;
    less = omega arith;
    is = same;
    bridge = ap (is_bridge names) same ∙ bridge;
    no_bus = λ j from below. let at : n ≡ j = omega (arith, from, below) in subst (λ k. has names (take k p) base_bus ≡ false) at none;
  }

  either_one : (n : ℕ) (q : List Seg) → has names (take n p) base_bus ≡ false → is_bridge names (take n p) ≡ true → AskedOver n q ⊎ (q ≡ take n p) → AskedOver (suc n) q
  either_one n q none bridge (inl a) = one_more n q none a
  either_one n q none bridge (inr same) = this_one n q none bridge same

  in_front : (n : ℕ) (q : List Seg) (l : List (List Seg)) → (IsAmong q l → AskedOver n q) → IsAmong q l ⊎ (q ≡ take n p) → AskedOver n q ⊎ (q ≡ take n p)
  in_front n q l before (inl h) = inl (before h)
  in_front n q l before (inr same) = inr same

  listed_by : (b c : Bool) (n : ℕ) (q : List Seg) (l : List (List Seg)) → has names (take n p) base_bus ≡ b → is_bridge names (take n p) ≡ c → (IsAmong q l → AskedOver n q) → IsAmong q (if b then [] else (if c then l ++ take n p ∷ [] else l)) → AskedOver (suc n) q
  listed_by true c n q l none bridge before h = absurd h
  listed_by false true n q l none bridge before h = either_one n q none bridge (in_front n q l before (among_either q (take n p) l h))
  listed_by false false n q l none bridge before h = one_more n q none (before h)

  listed : (n : ℕ) (q : List Seg) → IsAmong q (bridges_over names p n) → AskedOver n q
  unfolding bridges_over
  listed zero q h = absurd h
  listed (suc n) q h = listed_by (has names (take n p) base_bus) (is_bridge names (take n p)) n q (bridges_over names p n) refl refl (listed n q) h

  -- ---- all are listed

  fewer : (n : ℕ) (q : List Seg) (a : AskedOver (suc n) q) → a.segments < n → AskedOver n q
  fewer n q a less = record { segments = a.segments; less = less; is = a.is; bridge = a.bridge; no_bus = λ j from below. a.no_bus j from (omega (arith, below)) }

  kept_by : (b c : Bool) (n : ℕ) (q : List Seg) (l : List (List Seg)) → b ≡ false → IsAmong q l → IsAmong q (if b then [] else (if c then l ++ take n p ∷ [] else l))
  kept_by true c n q l none h = absurd (cc none)
  kept_by false true n q l none h = among_front q (take n p) l h
  kept_by false false n q l none h = h

  put_by : (b c : Bool) (n : ℕ) (q : List Seg) (l : List (List Seg)) → b ≡ false → c ≡ true → q ≡ take n p → IsAmong q (if b then [] else (if c then l ++ take n p ∷ [] else l))
  put_by true c n q l none bridge same = absurd (cc none)
  put_by false false n q l none bridge same = absurd (cc bridge)
  put_by false true n q l none bridge same = among_last q (take n p) l same

  all_by : (last : Bool) (n : ℕ) (q : List Seg) (a : AskedOver (suc n) q) → (a.segments == n) ≡ last → (AskedOver n q → IsAmong q (bridges_over names p n)) → IsAmong q (bridges_over names p (suc n))
  unfolding bridges_over
  all_by true n q a at before =
      let same : a.segments ≡ n = grind (arith, nat_tests) in
      let is = a.is ∙ ap (λ k. take k p) same in
      put_by (has names (take n p) base_bus) (is_bridge names (take n p)) n q (bridges_over names p n) (a.no_bus n (omega (arith, same)) (omega arith)) (ap (is_bridge names) (sym is) ∙ a.bridge) is
  all_by false n q a at before =
      let below = a.less in
      let less : a.segments < n = grind (arith, nat_tests) in
      kept_by (has names (take n p) base_bus) (is_bridge names (take n p)) n q (bridges_over names p n) (a.no_bus n (omega (arith, less)) (omega arith)) (before (fewer n q a less))

  all_listed : (n : ℕ) (q : List Seg) → AskedOver n q → IsAmong q (bridges_over names p n)
  all_listed zero q a = let less = a.less in absurd (omega (arith, less))
  all_listed (suc n) q a = all_by (a.segments == n) n q a refl (all_listed n q)

  -- ---- their order

  record Ordered (n : ℕ) (l : List (List Seg)) : Type 0 where
    grow : GrowFrom 0 l
    short : AllShorter n l

  ordered_by : (b c : Bool) (n : ℕ) (l : List (List Seg)) → n ≤ length p → Ordered n l → Ordered (suc n) (if b then [] else (if c then l ++ take n p ∷ [] else l))
  ordered_by true c n l le h = record { grow = tt; short = tt }
  ordered_by false false n l le h = record { grow = h.grow; short = shorter_still n l h.short }
  ordered_by false true n l le h =
      let long = length-take-le n p le in
      record { grow = grow_pushed 0 n l (take n p) h.grow h.short long (omega arith); short = shorter_pushed n l (take n p) h.short long }

  ordered : (n : ℕ) → n ≤ length p → Ordered n (bridges_over names p n)
  unfolding bridges_over
  ordered zero le = record { grow = tt; short = tt }
  ordered (suc n) le = ordered_by (has names (take n p) base_bus) (is_bridge names (take n p)) n (bridges_over names p n) (omega (arith, le)) (ordered n (omega (arith, le)))

  -- ---- the laws

  asked_at_last : (j : ℕ) (b : Bool) → (j == length p) ≡ b → j ≤ length p → has names p base_bus ≡ false → (j < length p → has names (take j p) base_bus ≡ false) → has names (take j p) base_bus ≡ false
  asked_at_last j true at le none before = let same : length p ≡ j = grind (arith, nat_tests) in ap (λ q. has names q base_bus) (ap (λ k. take k p) (sym same) ∙ take_all (length p) p (omega arith)) ∙ none
  asked_at_last j false at le none before = before (grind (arith, nat_tests))

  asked_by : (b : Bool) (q : List Seg) → has names p base_bus ≡ b → IsAmong q (if b then [] else bridges_over names p (length p)) → IsAskedBridge names p q
  asked_by true q none h = absurd h
  asked_by false q none h =
      let a = listed (length p) q h in
      record {
        segments = a.segments;
        above = a.less;
        is = a.is;
        stands = bridge_is names q a.bridge;
        no_bus = λ j from le. none_found _ (asked_at_last j (j == length p) refl le none (λ less. a.no_bus j from less));
      }

  pub each_is_asked : (q : List Seg) → IsAmong q (bridges_to names p) → IsAskedBridge names p q
  each_is_asked q h = asked_by (has names p base_bus) q refl h

  told_by : (b : Bool) (q : List Seg) → b ≡ false → IsAmong q (bridges_over names p (length p)) → IsAmong q (if b then [] else bridges_over names p (length p))
  told_by true q none h = absurd (cc none)
  told_by false q none h = h

  pub all_are_asked : (q : List Seg) → IsAskedBridge names p q → IsAmong q (bridges_to names p)
  all_are_asked q a =
      let none : has names p base_bus ≡ false = ap (λ x. has names x base_bus) (sym (take_all (length p) p (omega arith))) ∙ ap is_some (a.no_bus (length p) (let less = a.above in omega (arith, less)) (omega arith)) in
      told_by (has names p base_bus) q none
      (all_listed (length p) q (record { segments = a.segments; less = a.above; is = a.is; bridge = bridge_tested names q a.stands; no_bus = λ j from less. ap is_some (a.no_bus j from (omega (arith, less))) }))

  grown_by : (b : Bool) → GrowFrom 0 (if b then [] else bridges_over names p (length p))
  grown_by true = tt
  grown_by false = (ordered (length p) (omega arith)).grow

  pub asked_in_order : GrowFrom 0 (bridges_to names p)
  asked_in_order = grown_by (has names p base_bus)

pub ruleset bridges_above_a_function_are_asked_from_the_outermost_on = (each_is_asked, all_are_asked, asked_in_order)
