-- What all lines claim, whatever their order.
use Rattle.std.proofs.Common.{◌≡◌, ◌∙◌, refl, sym, ap, ℕ, suc, ◌+◌, ◌≤◌, Bool, true, false, cond, List, [], ◌∷◌, ◌++◌, length, length-append, arith, Ok, Err, Option, Some, None, filter, is_some, nat_lt, if◌then◌else◌, ◌↔◌, ◌&&◌, ◌==◌}
use Rattle.std.specs.declared.cmp.Ordering.{Ordering}
use Rattle.std.specs.Ordering.{is_gt, nat_cmp}
use Rattle.std.specs.FinMap.{nat_cmp-IsAntisymmetric}
use Rattle.std.specs.List.{dedup}
use Rattle.std.proofs.lemmas.Cmp.{nat_cmp_total}
use Rattle.std.specs.Result.{result_ok}
use Rattle.std.specs.List.Sorted.{IsPermutation}
use Rattle.std.proofs.lemmas.Bool.{ltb-true, ltb-false, lt-ltb, le-ltb}
use Rattle.ar_space.specs.Outcome.{Outcome, ◌>>=◌}
use Rattle.aml_path.specs.declared.segment.Seg.{Seg}
use Rattle.route_model.specs.Links.{OfferingLink}
use Rattle.route_check.specs.Claims.{BoundingSet, RoutingClaim}
use Rattle.text_words.specs.Words.{words}
use Rattle.route_report.specs.Lines.{lines}
use Rattle.route_report.specs.declared.version.Version.{Version}
use Rattle.route_report.specs.declared.version.Version.TheVariants as version
use Rattle.route_report.specs.Reports.{is_spread}
use Rattle.route_report.specs.Ordered.{among, in_order, barred, barred_by, link_order, wired_order, give_order, bound_in_order, claim_in_order}
use Rattle.route_report.specs.declared.report.Rule.{Rule}
use Rattle.route_report.specs.Counting.{counts}
use Rattle.route_report.specs.Reading.{Said, first_said, bad_line, here, with_link, with_wired, with_sci, with_avoid, with_spared, with_option, with_rule, with_give, with_busiest, with_bound, claimed, line, lines_read, heading, all_read, claim_of_text}
use Rattle.route_report.proofs.Effects.{Effect, refuses, says_nothing, says_link, says_wired, says_sci, says_avoid, says_spared, says_option, says_rule, says_give, says_busiest, says_bound, after, effect, line_gives, passed_line}
use Rattle.route_report.proofs.Orders.{link_exact, wired_exact, give_exact, link_total, wired_total, give_total}
use Rattle.route_report.proofs.Renumbered.{Alike, then_alike}
use Rattle.route_report.proofs.Shuffles.{shuffled}
use Rattle.route_report.proofs.Sorting.{commute, permuted, same_elements}

-- what may be said once
data Once (A : Type 0) : Type 0 where
  unsaid : Once A
  said : A → Once A
  said_twice : Once A

abbrev once_more : {A : Type 0} → A → Once A → Once A
once_more a unsaid = said a
once_more a (said b) = said_twice
once_more a said_twice = said_twice

-- what lines say together, each list in order
-- what lines tell of interrupts that are spared, and whether any does, adds up too
record Total : Type 0 where
  refused : Bool
  links : List OfferingLink
  wired : List (ℕ × ℕ)
  sci : Once (Option ℕ)
  avoid : Once (List ℕ)
  tells : Bool
  spared : List ℕ
  rule : Once Rule
  gives : List (List Seg × ℕ)
  busiest : Once ℕ
  bound : Once (Option BoundingSet)

-- those before, each among what the lines say
abbrev all_among : {X : Type 0} → (X → X → Ordering) → List X → List X → List X
all_among order [] ys = ys
all_among order (x ∷ xs) ys = among order x (all_among order xs ys)

abbrev with_effect : Effect → Total → Total
with_effect refuses t = record t { refused = true }
with_effect says_nothing t = t
with_effect (says_link l) t = record t { links = among link_order l t.links }
with_effect (says_wired w) t = record t { wired = among wired_order w t.wired }
with_effect (says_sci s) t = record t { sci = once_more s t.sci }
with_effect (says_avoid ns) t = record t { avoid = once_more ns t.avoid }
with_effect (says_spared ns) t = record t { tells = true; spared = all_among nat_cmp ns t.spared }
with_effect says_option t = record t { tells = true }
with_effect (says_rule r) t = record t { rule = once_more r t.rule }
with_effect (says_give g) t = record t { gives = among give_order g t.gives }
with_effect (says_busiest k) t = record t { busiest = once_more k t.busiest }
with_effect (says_bound b) t = record t { bound = once_more b t.bound }

abbrev with_line : List ℕ → Total → Total
with_line l t = with_effect (effect (words l)) t

abbrev total : List (List ℕ) → Total
total [] = record { refused = false; links = []; wired = []; sci = unsaid; avoid = unsaid; tells = false; spared = []; rule = unsaid; gives = []; busiest = unsaid; bound = unsaid }
total (l ∷ ls) = with_line l (total ls)

once_more_commutes : {A : Type 0} (a b : A) (o : Once A) → once_more a (once_more b o) ≡ once_more b (once_more a o)
once_more_commutes a b unsaid = refl
once_more_commutes a b (said c) = refl
once_more_commutes a b said_twice = refl

-- numbers may come in any order
one_among : (n : ℕ) (ms xs : List ℕ) → among nat_cmp n (all_among nat_cmp ms xs) ≡ all_among nat_cmp ms (among nat_cmp n xs)
one_among n [] xs = refl
one_among n (m ∷ ms) xs = commute nat_cmp nat_cmp_total nat_cmp-IsAntisymmetric n m (all_among nat_cmp ms xs) ∙ ap (among nat_cmp m) (one_among n ms xs)

numbers_commute : (ms ns xs : List ℕ) → all_among nat_cmp ms (all_among nat_cmp ns xs) ≡ all_among nat_cmp ns (all_among nat_cmp ms xs)
numbers_commute [] ns xs = refl
numbers_commute (m ∷ ms) ns xs = ap (among nat_cmp m) (numbers_commute ms ns xs) ∙ one_among m ns (all_among nat_cmp ms xs)

effects_commute : (f g : Effect) (t : Total) → with_effect f (with_effect g t) ≡ with_effect g (with_effect f t)
effects_commute (says_link k) (says_link l) t = ap (λ ls. record t { links = ls }) (commute link_order link_total link_exact k l t.links)
effects_commute (says_wired v) (says_wired w) t = ap (λ ws. record t { wired = ws }) (commute wired_order wired_total wired_exact v w t.wired)
effects_commute (says_sci r) (says_sci s) t = ap (λ o. record t { sci = o }) (once_more_commutes r s t.sci)
effects_commute (says_avoid ms) (says_avoid ns) t = ap (λ o. record t { avoid = o }) (once_more_commutes ms ns t.avoid)
effects_commute (says_spared ms) (says_spared ns) t = ap (λ ls. record t { tells = true; spared = ls }) (numbers_commute ms ns t.spared)
effects_commute (says_rule r) (says_rule s) t = ap (λ o. record t { rule = o }) (once_more_commutes r s t.rule)
effects_commute (says_give g) (says_give h) t = ap (λ gs. record t { gives = gs }) (commute give_order give_total give_exact g h t.gives)
effects_commute (says_busiest j) (says_busiest k) t = ap (λ o. record t { busiest = o }) (once_more_commutes j k t.busiest)
effects_commute (says_bound b) (says_bound c) t = ap (λ o. record t { bound = o }) (once_more_commutes b c t.bound)
effects_commute refuses refuses t = refl
effects_commute says_option says_option t = refl
effects_commute says_nothing g t = refl
effects_commute _ _ t = refl

same_total : (ls ms : List (List ℕ)) → IsPermutation ls ms → total ms ≡ total ls
same_total = shuffled total with_line (λ l ls. refl) (λ k l t. effects_commute (effect (words k)) (effect (words l)) t)

-- lines that are passed over add nothing
without_passed : (ls : List (List ℕ)) → total (filter counts ls) ≡ total ls
without_passed [] = refl
without_passed (l ∷ ls) = go (counts l) refl (without_passed ls)
  where
    go : (b : Bool) → counts l ≡ b → total (filter counts ls) ≡ total ls → total (cond b (l ∷ filter counts ls) (filter counts ls)) ≡ total (l ∷ ls)
    go true e rest = ap (with_line l) rest
    go false e rest = rest ∙ sym (ap (λ f. with_effect f (total ls)) (passed_line (words l) e))

among_none : {X : Type 0} (order : X → X → Ordering) (xs : List X) → all_among order xs [] ≡ in_order order xs
among_none order [] = refl
among_none order (x ∷ xs) = ap (among order x) (among_none order xs)

among_push : {X : Type 0} (order : X → X → Ordering) (xs ys : List X) (y : X) → all_among order (xs ++ y ∷ []) ys ≡ all_among order xs (among order y ys)
among_push order [] ys y = refl
among_push order (x ∷ xs) ys y = ap (among order x) (among_push order xs ys y)

length-among : {X : Type 0} (order : X → X → Ordering) (x : X) (ys : List X) → length (among order x ys) ≡ suc (length ys)
length-among order x [] = refl
length-among order x (y ∷ ys) = go (is_gt (order x y)) (length-among order x ys)
  where
    go : (b : Bool) → length (among order x ys) ≡ suc (length ys) → length (if b then y ∷ among order x ys else x ∷ y ∷ ys) ≡ suc (suc (length ys))
    go true e = ap suc e
    go false e = refl

lengths_push : {X : Type 0} (order : X → X → Ordering) (xs ys : List X) (y : X) → length (xs ++ y ∷ []) + length ys ≡ length xs + length (among order y ys)
lengths_push order xs ys y = let more = length-among order y ys in let long = length-append xs (y ∷ []) in omega arith

-- what was said, and what the lines say once
abbrev said_in_all : {A : Type 0} → Option A → Once A → Option A
said_in_all None unsaid = None
said_in_all None (said a) = Some a
said_in_all None said_twice = None
said_in_all (Some a) unsaid = Some a
said_in_all (Some a) (said b) = None
said_in_all (Some a) said_twice = None

said_before : {A : Type 0} (o : Option A) → said_in_all o unsaid ≡ o
said_before None = refl
said_before (Some a) = refl

said_first : {A : Type 0} (a : A) (o : Once A) → said_in_all (Some a) o ≡ said_in_all None (once_more a o)
said_first a unsaid = refl
said_first a (said b) = refl
said_first a said_twice = refl

said_again : {A : Type 0} (a b : A) (o : Once A) → said_in_all (Some a) (once_more b o) ≡ None
said_again a b unsaid = refl
said_again a b (said c) = refl
said_again a b said_twice = refl

abbrev unless : Bool → Option RoutingClaim → Option RoutingClaim
unless true o = None
unless false o = o

unless_none : (a e b c : Bool) → unless a (unless e (unless b (unless c None))) ≡ None
unless_none true e b c = refl
unless_none false true b c = refl
unless_none false false true c = refl
unless_none false false false true = refl
unless_none false false false false = refl

never : (a : Bool) → unless a None ≡ None
never true = refl
never false = refl

-- numbers that are spared, in order: those said before, and those of the lines
abbrev spared_in_all : Option (List ℕ) → List ℕ → Option (List ℕ)
spared_in_all None ns = None
spared_in_all (Some ms) ns = Some (all_among nat_cmp ms ns)

in_order_behind : (xs ys : List ℕ) → in_order nat_cmp (xs ++ ys) ≡ all_among nat_cmp xs (in_order nat_cmp ys)
in_order_behind [] ys = refl
in_order_behind (x ∷ xs) ys = ap (among nat_cmp x) (in_order_behind xs ys)

-- their order says nothing
barred_alike : (ns : List ℕ) (o : Option (List ℕ)) → barred_by ns o ≡ barred_by ns (spared_in_all o [])
barred_alike ns None = refl
barred_alike ns (Some ms) =
    let sorted = in_order nat_cmp ms in
    let twice = permuted nat_cmp nat_cmp_total nat_cmp-IsAntisymmetric ms sorted (same_elements nat_cmp nat_cmp_total nat_cmp-IsAntisymmetric ms) in
    ap (dedup ◌==◌) (in_order_behind ns ms ∙ (ap (all_among nat_cmp ns) (sym twice) ∙ sym (in_order_behind ns sorted))) ∙ ap (barred ns) (sym (among_none nat_cmp ms))

among_behind : (xs ys zs : List ℕ) → all_among nat_cmp (xs ++ ys) zs ≡ all_among nat_cmp xs (all_among nat_cmp ys zs)
among_behind [] ys zs = refl
among_behind (x ∷ xs) ys zs = ap (among nat_cmp x) (among_behind xs ys zs)

module _ (sp : Option (List ℕ)) (ls : List OfferingLink) (ws : List (ℕ × ℕ)) (gs : List (List Seg × ℕ)) where
  abbrev claim_from : Option (Option ℕ) → Option (List ℕ) → Option Rule → Option ℕ → Option (Option BoundingSet) → Option RoutingClaim
  claim_from None ns r k b = None
  claim_from (Some s) None r k b = None
  claim_from (Some s) (Some ns) None k b = None
  claim_from (Some s) (Some ns) (Some r) None b = None
  claim_from (Some s) (Some ns) (Some r) (Some k) None = None
  claim_from (Some s) (Some ns) (Some r) (Some k) (Some b) = Some (record { links = ls; wired = ws; sci = s; avoid = barred_by ns sp; gives = gs; busiest = k; bound = bound_in_order b; spread = is_spread r })

  no_avoid : (s : Option (Option ℕ)) (r : Option Rule) (k : Option ℕ) (b : Option (Option BoundingSet)) → claim_from s None r k b ≡ None
  no_avoid None r k b = refl
  no_avoid (Some s) r k b = refl

  no_rule : (s : Option (Option ℕ)) (ns : Option (List ℕ)) (k : Option ℕ) (b : Option (Option BoundingSet)) → claim_from s ns None k b ≡ None
  no_rule None ns k b = refl
  no_rule (Some s) None k b = refl
  no_rule (Some s) (Some ns) k b = refl

  no_busiest : (s : Option (Option ℕ)) (ns : Option (List ℕ)) (r : Option Rule) (b : Option (Option BoundingSet)) → claim_from s ns r None b ≡ None
  no_busiest None ns r b = refl
  no_busiest (Some s) None r b = refl
  no_busiest (Some s) (Some ns) None b = refl
  no_busiest (Some s) (Some ns) (Some r) b = refl

  no_bound : (s : Option (Option ℕ)) (ns : Option (List ℕ)) (r : Option Rule) (k : Option ℕ) → claim_from s ns r k None ≡ None
  no_bound None ns r k = refl
  no_bound (Some s) None r k = refl
  no_bound (Some s) (Some ns) None k = refl
  no_bound (Some s) (Some ns) (Some r) None = refl
  no_bound (Some s) (Some ns) (Some r) (Some k) = refl

-- lines may tell of interrupts that are spared, if they do
abbrev is_mute : Option (List ℕ) → Bool
is_mute None = true
is_mute (Some ms) = false

-- what is claimed where d is said already, and then what lines say together
abbrev finished : Said → Total → Option RoutingClaim
finished d t =
    unless t.refused (unless (is_mute d.spared && t.tells) (unless (nat_lt 256 (length d.links + length t.links)) (unless (nat_lt 4096 (length d.wired + length t.wired))
    (claim_from (spared_in_all d.spared t.spared) (all_among link_order d.links t.links) (all_among wired_order d.wired t.wired) (all_among give_order d.gives t.gives) (said_in_all d.sci t.sci) (said_in_all d.avoid t.avoid) (said_in_all d.rule t.rule) (said_in_all d.busiest t.busiest) (said_in_all d.bound t.bound)))))

record IsWithin (d : Said) : Type 0 where
  links : length d.links ≤ 256
  wired : length d.wired ≤ 4096

module _ (n : ℕ) (t : Total) (k : Said → Outcome RoutingClaim) (on : (e : Said) → IsWithin e → result_ok (k e) ≡ finished e t) (d : Said) (within : IsWithin d) where
  link_on : (l : OfferingLink) (b : Bool) → nat_lt (length d.links) 256 ≡ b → result_ok ((if b then Ok (record d { links = d.links ++ l ∷ [] }) else bad_line n) >>= k) ≡ finished d (with_effect (says_link l) t)
  unfolding ◌>>=◌
  link_on l true e =
      let less = ltb-true (length d.links) 256 e in
      let long = length-append d.links (l ∷ []) in
      on (record d { links = d.links ++ l ∷ [] }) (record { links = omega arith; wired = within.wired })
      ∙ (rw (lengths_push link_order d.links t.links l, among_push link_order d.links t.links l) refl)
  link_on l false e =
      let full = ltb-false (length d.links) 256 e in
      let more = length-among link_order l t.links in
      let over : nat_lt 256 (length d.links + length (among link_order l t.links)) ≡ true = lt-ltb 256 (length d.links + length (among link_order l t.links)) (omega arith) in
      sym (rw over (unless_none t.refused (is_mute d.spared && t.tells) true false))

  wired_on : (w : ℕ × ℕ) (b : Bool) → nat_lt (length d.wired) 4096 ≡ b → result_ok ((if b then Ok (record d { wired = d.wired ++ w ∷ [] }) else bad_line n) >>= k) ≡ finished d (with_effect (says_wired w) t)
  unfolding ◌>>=◌
  wired_on w true e =
      let less = ltb-true (length d.wired) 4096 e in
      let long = length-append d.wired (w ∷ []) in
      on (record d { wired = d.wired ++ w ∷ [] }) (record { links = within.links; wired = omega arith })
      ∙ (rw (lengths_push wired_order d.wired t.wired w, among_push wired_order d.wired t.wired w) refl)
  wired_on w false e =
      let full = ltb-false (length d.wired) 4096 e in
      let more = length-among wired_order w t.wired in
      let over : nat_lt 4096 (length d.wired + length (among wired_order w t.wired)) ≡ true = lt-ltb 4096 (length d.wired + length (among wired_order w t.wired)) (omega arith) in
      sym (rw over (unless_none t.refused (is_mute d.spared && t.tells) (nat_lt 256 (length d.links + length t.links)) true))

  sci_on : (s : Option ℕ) (o : Option (Option ℕ)) → d.sci ≡ o → result_ok ((if is_some o then bad_line n else Ok (record d { sci = Some s })) >>= k) ≡ finished d (with_effect (says_sci s) t)
  unfolding ◌>>=◌
  sci_on s None e = on (record d { sci = Some s }) (record { links = within.links; wired = within.wired }) ∙ (rw (e, said_first s t.sci) refl)
  sci_on s (Some r) e = sym (rw (e, said_again r s t.sci) (unless_none t.refused (is_mute d.spared && t.tells) (nat_lt 256 (length d.links + length t.links)) (nat_lt 4096 (length d.wired + length t.wired))))

  avoid_on : (ns : List ℕ) (o : Option (List ℕ)) → d.avoid ≡ o → result_ok ((if is_some o then bad_line n else Ok (record d { avoid = Some ns })) >>= k) ≡ finished d (with_effect (says_avoid ns) t)
  unfolding ◌>>=◌
  avoid_on ns None e = on (record d { avoid = Some ns }) (record { links = within.links; wired = within.wired }) ∙ (rw (e, said_first ns t.avoid) refl)
  avoid_on ns (Some ms) e = sym (rw (e, said_again ms ns t.avoid, no_avoid) (unless_none t.refused (is_mute d.spared && t.tells) (nat_lt 256 (length d.links + length t.links)) (nat_lt 4096 (length d.wired + length t.wired))))

  spared_on : (ns : List ℕ) (o : Option (List ℕ)) → d.spared ≡ o → result_ok ((here n o >>= (λ ms. Ok (record d { spared = Some (ms ++ ns) }))) >>= k) ≡ finished d (with_effect (says_spared ns) t)
  unfolding ◌>>=◌
  spared_on ns None e = sym (rw e (never t.refused))
  spared_on ns (Some ms) e = on (record d { spared = Some (ms ++ ns) }) (record { links = within.links; wired = within.wired }) ∙ (rw (e, among_behind ms ns t.spared) refl)

  unread_on : (o : Option (List ℕ)) → d.spared ≡ o → result_ok ((if is_some o then Ok d else bad_line n) >>= k) ≡ finished d (with_effect says_option t)
  unfolding ◌>>=◌
  unread_on None e = sym (rw e (never t.refused))
  unread_on (Some ms) e = on d within ∙ (rw e refl)

  rule_on : (r : Rule) (o : Option Rule) → d.rule ≡ o → result_ok ((if is_some o then bad_line n else Ok (record d { rule = Some r })) >>= k) ≡ finished d (with_effect (says_rule r) t)
  unfolding ◌>>=◌
  rule_on r None e = on (record d { rule = Some r }) (record { links = within.links; wired = within.wired }) ∙ (rw (e, said_first r t.rule) refl)
  rule_on r (Some q) e = sym (rw (e, said_again q r t.rule, no_rule) (unless_none t.refused (is_mute d.spared && t.tells) (nat_lt 256 (length d.links + length t.links)) (nat_lt 4096 (length d.wired + length t.wired))))

  busiest_on : (j : ℕ) (o : Option ℕ) → d.busiest ≡ o → result_ok ((if is_some o then bad_line n else Ok (record d { busiest = Some j })) >>= k) ≡ finished d (with_effect (says_busiest j) t)
  unfolding ◌>>=◌
  busiest_on j None e = on (record d { busiest = Some j }) (record { links = within.links; wired = within.wired }) ∙ (rw (e, said_first j t.busiest) refl)
  busiest_on j (Some i) e = sym (rw (e, said_again i j t.busiest, no_busiest) (unless_none t.refused (is_mute d.spared && t.tells) (nat_lt 256 (length d.links + length t.links)) (nat_lt 4096 (length d.wired + length t.wired))))

  bound_on : (b : Option BoundingSet) (o : Option (Option BoundingSet)) → d.bound ≡ o → result_ok ((if is_some o then bad_line n else Ok (record d { bound = Some b })) >>= k) ≡ finished d (with_effect (says_bound b) t)
  unfolding ◌>>=◌
  bound_on b None e = on (record d { bound = Some b }) (record { links = within.links; wired = within.wired }) ∙ (rw (e, said_first b t.bound) refl)
  bound_on b (Some c) e = sym (rw (e, said_again c b t.bound, no_bound) (unless_none t.refused (is_mute d.spared && t.tells) (nat_lt 256 (length d.links + length t.links)) (nat_lt 4096 (length d.wired + length t.wired))))

  -- a line, and then the others
  effect_on : (f : Effect) → result_ok (after n f d >>= k) ≡ finished d (with_effect f t)
  unfolding ◌>>=◌ with_link with_wired with_sci with_avoid with_spared with_option with_rule with_give with_busiest with_bound
  effect_on refuses = refl
  effect_on says_nothing = on d within
  effect_on (says_link l) = link_on l (nat_lt (length d.links) 256) refl
  effect_on (says_wired w) = wired_on w (nat_lt (length d.wired) 4096) refl
  effect_on (says_sci s) = sci_on s d.sci refl
  effect_on (says_avoid ns) = avoid_on ns d.avoid refl
  effect_on (says_spared ns) = spared_on ns d.spared refl
  effect_on says_option = unread_on d.spared refl
  effect_on (says_rule r) = rule_on r d.rule refl
  effect_on (says_give g) = on (record d { gives = d.gives ++ g ∷ [] }) (record { links = within.links; wired = within.wired }) ∙ (rw (among_push give_order d.gives t.gives g) refl)
  effect_on (says_busiest j) = busiest_on j d.busiest refl
  effect_on (says_bound b) = bound_on b d.bound refl

claimed_is : (n : ℕ) (d : Said) → result_ok (claimed n d) ≡ claim_from (spared_in_all d.spared []) (in_order link_order d.links) (in_order wired_order d.wired) (in_order give_order d.gives) d.sci d.avoid d.rule d.busiest d.bound
unfolding claimed ◌>>=◌
claimed_is n d = go d.sci d.avoid d.rule d.busiest d.bound
  where
    go : (q : Option (Option ℕ)) (r : Option (List ℕ)) (u : Option Rule) (o : Option ℕ) (p : Option (Option BoundingSet))
        → result_ok (here n q >>= (λ s. here n r >>= (λ ns. here n u >>= (λ v. here n o >>= (λ k. here n p >>= (λ b. Ok (claim_in_order (record { links = d.links; wired = d.wired; sci = s; avoid = barred_by ns d.spared; gives = d.gives; busiest = k; bound = b; spread = is_spread v }))))))))
        ≡ claim_from (spared_in_all d.spared []) (in_order link_order d.links) (in_order wired_order d.wired) (in_order give_order d.gives) q r u o p
    go None r u o p = refl
    go (Some s) None u o p = refl
    go (Some s) (Some ns) None o p = refl
    go (Some s) (Some ns) (Some v) None p = refl
    go (Some s) (Some ns) (Some v) (Some k) None = refl
    go (Some s) (Some ns) (Some v) (Some k) (Some b) =
        ap (λ (ms : List ℕ). Some (record { links = in_order link_order d.links; wired = in_order wired_order d.wired; sci = s; avoid = ms; gives = in_order give_order d.gives; busiest = k; bound = bound_in_order b; spread = is_spread v })) (barred_alike ns d.spared)

no_tale : (o : Option (List ℕ)) → is_mute o && false ≡ false
no_tale None = refl
no_tale (Some ms) = refl

claimed_at_last : (n : ℕ) (d : Said) → IsWithin d → result_ok (claimed n d) ≡ finished d (total [])
claimed_at_last n d within =
    let links : nat_lt 256 (length d.links + 0) ≡ false = le-ltb 256 (length d.links + 0) (let few = within.links in omega arith) in
    let wired : nat_lt 4096 (length d.wired + 0) ≡ false = le-ltb 4096 (length d.wired + 0) (let few = within.wired in omega arith) in
    claimed_is n d ∙ sym (rw (links, wired, no_tale d.spared, said_before d.sci, said_before d.avoid, said_before d.rule, said_before d.busiest, said_before d.bound, among_none link_order d.links, among_none wired_order d.wired, among_none give_order d.gives) refl)

lines_finished : (n : ℕ) (ls : List (List ℕ)) (d : Said) → IsWithin d → result_ok (lines_read n ls d) ≡ finished d (total ls)
unfolding lines_read
lines_finished n [] d within = claimed_at_last n d within
lines_finished n (l ∷ ls) d within =
    let k = λ (e : Said). lines_read (n + 1) ls e in
    then_alike (line n (words l) d) (after n (effect (words l)) d) k k (line_gives n d (words l)) (λ e. refl)
    ∙ effect_on n (total ls) k (λ e w. lines_finished (n + 1) ls e w) d within (effect (words l))

first_within : (v : Version) → IsWithin (first_said v)
first_within version.One = record { links = omega arith; wired = omega arith }
first_within version.Two = record { links = omega arith; wired = omega arith }
first_within version.Three = record { links = omega arith; wired = omega arith }

same_reading : (first : List ℕ) (ls ms : List (List ℕ)) → total ls ≡ total ms → Alike (all_read (first ∷ ls)) (all_read (first ∷ ms))
unfolding all_read
same_reading first ls ms same =
    then_alike (heading 1 (words first)) (heading 1 (words first)) (λ v. lines_read 2 ls (first_said v)) (λ v. lines_read 2 ms (first_said v)) refl
    (λ v. lines_finished 2 ls (first_said v) (first_within v) ∙ (ap (finished (first_said v)) same ∙ sym (lines_finished 2 ms (first_said v) (first_within v))))

ok_again : {A : Type 0} (x y : Outcome A) (a : A) → Alike x y → x ≡ Ok a → y ≡ Ok a
ok_again x (Ok b) a same e = let is : Some a ≡ Some b = ap result_ok (sym e) ∙ same in cc is
ok_again x (Err f) a same e = let is : Some a ≡ None = ap result_ok (sym e) ∙ same in absurd (cc is)

-- the same total, the same claim
same_claim : (text other first : List ℕ) (ls ms : List (List ℕ)) (claim : RoutingClaim) → lines text ≡ first ∷ ls → lines other ≡ first ∷ ms → total ls ≡ total ms → claim_of_text text ≡ Ok claim → claim_of_text other ≡ Ok claim
unfolding claim_of_text
same_claim text other first ls ms claim is so same e =
    ap all_read so ∙ ok_again (all_read (first ∷ ls)) (all_read (first ∷ ms)) claim (same_reading first ls ms same) (sym (ap all_read is) ∙ e)

both_claim : (text other first : List ℕ) (ls ms : List (List ℕ)) (claim : RoutingClaim) → lines text ≡ first ∷ ls → lines other ≡ first ∷ ms → total ls ≡ total ms → (claim_of_text text ≡ Ok claim) ↔ (claim_of_text other ≡ Ok claim)
both_claim text other first ls ms claim is so same = (same_claim text other first ls ms claim is so same, same_claim other text first ms ls claim so is (sym same))

pub any_order : (text other first : List ℕ) (ls ms : List (List ℕ)) (claim : RoutingClaim) → lines text ≡ first ∷ ls → lines other ≡ first ∷ ms → IsPermutation ls ms → (claim_of_text text ≡ Ok claim) ↔ (claim_of_text other ≡ Ok claim)
any_order text other first ls ms claim is so shuffled = both_claim text other first ls ms claim is so (sym (same_total ls ms shuffled))

pub counting_lines : (text other first : List ℕ) (ls ms : List (List ℕ)) (claim : RoutingClaim) → lines text ≡ first ∷ ls → lines other ≡ first ∷ ms → IsPermutation (filter counts ls) (filter counts ms) → (claim_of_text text ≡ Ok claim) ↔ (claim_of_text other ≡ Ok claim)
counting_lines text other first ls ms claim is so shuffled =
    both_claim text other first ls ms claim is so (sym (without_passed ls) ∙ (sym (same_total (filter counts ls) (filter counts ms) shuffled) ∙ without_passed ms))
