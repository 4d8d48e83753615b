-- The first links, and the others in the rooms that those leave.
use Rattle.std.proofs.Common.{◌≡◌, ◌≢◌, ℕ, zero, suc, ◌+◌, ◌-◌, ◌<◌, ◌≤◌, Bool, true, false, cond, List, [], ◌∷◌, ◌++◌, length, refl, sym, ◌∙◌, ap, subst, arith, Option, Some, None, get_or, set, take, drop, map, inl, inr, length-set}
use Rattle.std.specs.Prelude.{◌⊎◌, ◌&&◌, Contains, not}
use Rattle.std.proofs.lemmas.List.{length-drop, length-map, length-take-le, get_or-map, get_or-drop, get_or_default, get_or_past, take_more_set, take-set-le}
use Rattle.std.proofs.lemmas.List.Sums.{sum_by-take-drop}
use Rattle.std.proofs.lemmas.Bool.{cases_lt, cases_eq, true≢false, false≢true}
use Rattle.route_model.specs.Placement.{is_at, place_of, is_reached, Offers, taken, IsPlacement, CanPlace, IsStuck}
use Rattle.route_model.proofs.Counting.{one_if}
use Rattle.route_model.proofs.Hall.{counted_somewhere, zero_or_more, is_at_true, no_place}
use Rattle.route_solve.specs.First.{Completes}
use Rattle.route_solve.specs.Ready.{AreReady}
use Rattle.route_solve.proofs.Exchange.{taken-set, place_same, place_other}
use Rattle.route_solve.proofs.Handing.{not_both}
use Rattle.route_solve.proofs.Parts.{placed_within}

-- a number that no link has
pub none_at : (p : List (Option ℕ)) (n : ℕ) → ((k : ℕ) → place_of p k ≡ Some n → ⊥) → taken p n ≡ 0
none_at p n h = go (zero_or_more (taken p n))
  where
    go : (taken p n ≡ 0) ⊎ (0 < taken p n) → taken p n ≡ 0
    go (inl e) = e
    go (inr more) = let w = counted_somewhere (is_at n) None p more in absurd (h w.0 (is_at_true n (place_of p w.0) w.2))

taken-parts : (m : ℕ) (p : List (Option ℕ)) (n : ℕ) → taken (take m p) n + taken (drop m p) n ≡ taken p n
taken-parts m p n = sum_by-take-drop (λ o. cond (is_at n o) 1 0) p m

-- the links after the first ones, in the rooms that those leave
pub placement_drop : (m : ℕ) (offers : List (List ℕ)) (room : ℕ → ℕ) (p : List (Option ℕ)) → IsPlacement offers room p → IsPlacement (drop m offers) (λ n. room n - taken (take m p) n) (drop m p)
placement_drop m offers room p h =
    record {
      same_length = length-drop m p ∙ (ap (λ k. k - m) h.same_length ∙ sym (length-drop m offers));
      offered = λ k n e. subst (λ (o : List ℕ). Contains o n) (sym (get_or-drop m offers k [])) (h.offered (m + k) n (sym (get_or-drop m p k None) ∙ e));
      within = λ n. let a = taken-parts m p n in let b = h.within n in omega arith;
    }

-- whether none of some interrupts is ready
abbrev pub is_shut : List Bool → List ℕ → Bool
is_shut ready [] = true
is_shut ready (n ∷ ns) = not (is_reached ready n) && is_shut ready ns

both_true : (a b : Bool) → (a && b) ≡ true → (a ≡ true) × (b ≡ true)
both_true true b h = (refl, h)
both_true false b h = absurd (false≢true h)

not_true : (b : Bool) → not b ≡ true → b ≡ false
not_true true h = absurd (false≢true h)
not_true false h = refl

pub shut_none : (ready : List Bool) (ns : List ℕ) → is_shut ready ns ≡ true → (n : ℕ) → Contains ns n → is_reached ready n ≡ false
shut_none ready ns h n c = subst (λ m. is_reached ready m ≡ false) (get_or_default ns c.0 0 n c.1 ∙ c.2) (at ns h c.0 c.1)
  where
    at : (ns : List ℕ) → is_shut ready ns ≡ true → (k : ℕ) → k < length ns → is_reached ready (get_or ns k 0) ≡ false
    at [] h k b = absurd (omega arith)
    at (m ∷ ms) h zero b = not_true (is_reached ready m) (both_true (not (is_reached ready m)) (is_shut ready ms) h).0
    at (m ∷ ms) h (suc k) b = at ms (both_true (not (is_reached ready m)) (is_shut ready ms) h).1 k (omega arith)

pub none_shut : (ready : List Bool) (ns : List ℕ) → ((n : ℕ) → Contains ns n → is_reached ready n ≡ false) → is_shut ready ns ≡ true
none_shut ready [] h = refl
none_shut ready (m ∷ ms) h = rw (h m (0, omega arith, refl)) (none_shut ready ms (λ n c. h n (suc c.0, omega (arith, c.1), c.2)))

shut_at : (ready : List Bool) (offers : List (List ℕ)) (k : ℕ) → k < length offers → is_reached (map (is_shut ready) offers) k ≡ is_shut ready (get_or offers k [])
shut_at ready offers k b = get_or-map (is_shut ready) offers k [] false b

shut_from : (ready : List Bool) (offers : List (List ℕ)) (k : ℕ) → is_reached (map (is_shut ready) offers) k ≡ true → (k < length offers) × (is_shut ready (get_or offers k []) ≡ true)
shut_from ready offers k h = go (cases_lt k (length offers))
  where
    long : length (map (is_shut ready) offers) ≡ length offers
    long = length-map offers (is_shut ready)

    go : (k < length offers) ⊎ (length offers ≤ k) → (k < length offers) × (is_shut ready (get_or offers k []) ≡ true)
    go (inl b) = (b, sym (shut_at ready offers k b) ∙ h)
    go (inr past) = absurd (false≢true (sym (get_or_past (map (is_shut ready) offers) k false (let l = long in omega arith)) ∙ h))

module _ (offers : List (List ℕ)) (room : ℕ → ℕ) (p : List (Option ℕ)) (low : ℕ) (ready : List Bool) (r : AreReady offers room p low ready) (known : (k n : ℕ) → Offers offers k n → n < length ready) (placed : IsPlacement offers room p) where
  -- what isn't ready is full, and the links there offer nothing that is ready
  unready_full : (k n : ℕ) → Offers offers k n → is_reached ready n ≡ false → room n ≤ taken p n
  unready_full k n o out = go (cases_lt (taken p n) (room n))
    where
      go : (taken p n < room n) ⊎ (room n ≤ taken p n) → room n ≤ taken p n
      go (inl less) = absurd (true≢false (sym (r.rooms n (known k n o) less) ∙ out))
      go (inr full) = full

  unready_held : (j n : ℕ) → low ≤ j → is_reached ready n ≡ false → place_of p j ≡ Some n → is_shut ready (get_or offers j []) ≡ true
  unready_held j n le out h = none_shut ready (get_or offers j []) (λ i o. go i o (is_reached ready i) refl)
    where
      go : (i : ℕ) → Offers offers j i → (b : Bool) → is_reached ready i ≡ b → is_reached ready i ≡ false
      go i o true e = absurd (true≢false (sym (r.held j i n le o e h) ∙ out))
      go i o false e = e

  module _ (l : ℕ) (after : low ≡ l + 1) (b : l < length p) (none : place_of p l ≡ None) (n : ℕ) (offered : Offers offers l n) (out : is_reached ready n ≡ false) where
    -- n for link l, and link j without it
    module _ (j : ℕ) (later : l + 1 ≤ j) (held : place_of p j ≡ Some n) where
      apart : j ≢ l
      apart e = absurd (omega arith)

      bj : j < length p
      bj = placed_within p j n held

      bj1 : j < length (set p l (Some n))
      bj1 = let e = length-set p l (Some n) in let f = bj in omega arith

      held1 : place_of (set p l (Some n)) j ≡ Some n
      held1 = place_other offers room p p l j (Some n) apart ∙ held

      same_taken : (m : ℕ) → taken (set (set p l (Some n)) j None) m ≡ taken p m
      same_taken m =
          let e = taken-set p l (Some n) m b in
          let f = taken-set (set p l (Some n)) j None m bj1 in
          let g = ap (λ o. one_if (is_at m o)) none in
          let h = ap (λ o. one_if (is_at m o)) held1 in
          omega arith

      front_is : take (l + 1) (set (set p l (Some n)) j None) ≡ take l p ++ Some n ∷ []
      front_is = take-set-le (l + 1) (set p l (Some n)) j None later ∙ take_more_set p l (Some n) b

      there : (m : ℕ) → l + 1 ≤ m → (x : ℕ) → place_of (set (set p l (Some n)) j None) m ≡ Some x → place_of p m ≡ Some x
      there m le x h = go (cases_eq m j)
        where
          go : (m ≡ j) ⊎ (m ≡ j → ⊥) → place_of p m ≡ Some x
          go (inl e) = not_both (place_of (set (set p l (Some n)) j None) m) x (ap (place_of (set (set p l (Some n)) j None)) e ∙ place_same offers room p (set p l (Some n)) j None bj1) h
          go (inr ne) = sym (place_other offers room p (set p l (Some n)) j m None ne ∙ place_other offers room p p l m (Some n) (λ e. absurd (omega arith))) ∙ h

      long : length (drop (l + 1) (set (set p l (Some n)) j None)) ≡ length (drop (l + 1) offers)
      long =
          let a = length-drop (l + 1) (set (set p l (Some n)) j None) in
          let c = length-drop (l + 1) offers in
          let d = length-set (set p l (Some n)) j None in
          let e = length-set p l (Some n) in
          let f = placed.same_length in
          omega arith

      rest_full : (k m : ℕ) → is_reached (map (is_shut ready) (drop (l + 1) offers)) k ≡ true → Offers (drop (l + 1) offers) k m → is_reached ready m ≡ false
      rest_full k m s o = shut_none ready (get_or (drop (l + 1) offers) k []) (shut_from ready (drop (l + 1) offers) k s).1 m o

      whole_offer : (k m : ℕ) → Offers (drop (l + 1) offers) k m → Offers offers ((l + 1) + k) m
      whole_offer k m o = subst (λ (xs : List ℕ). Contains xs m) (get_or-drop (l + 1) offers k []) o

      rest_shut : (k x : ℕ) → l + 1 ≤ k → place_of p k ≡ Some x → is_reached ready x ≡ false → is_reached (map (is_shut ready) (drop (l + 1) offers)) (k - (l + 1)) ≡ true
      rest_shut k x le h off =
          let w = placed_within p k x h in
          let e = placed.same_length in
          let c = length-drop (l + 1) offers in
          let is : (l + 1) + (k - (l + 1)) ≡ k = omega arith in
          shut_at ready (drop (l + 1) offers) (k - (l + 1)) (omega arith) ∙ (ap (is_shut ready) (get_or-drop (l + 1) offers (k - (l + 1)) [] ∙ ap (λ i. get_or offers i []) is) ∙ unready_held k x (omega arith) off h)

      stuck : IsStuck (drop (l + 1) offers) (λ m. room m - taken (take (l + 1) (set (set p l (Some n)) j None)) m) (drop (l + 1) (set (set p l (Some n)) j None)) (map (is_shut ready) (drop (l + 1) offers)) (j - (l + 1))
      stuck = record {
        within_links = let e = length-drop (l + 1) (set (set p l (Some n)) j None) in let f = length-set (set p l (Some n)) j None in let g = bj1 in omega arith;
        begins = rest_shut j n later held out;
        unplaced = get_or-drop (l + 1) (set (set p l (Some n)) j None) (j - (l + 1)) None ∙ (ap (place_of (set (set p l (Some n)) j None)) (let g = later in let is : (l + 1) + (j - (l + 1)) ≡ j = omega arith in is) ∙ place_same offers room p (set p l (Some n)) j None bj1);
        full = λ k m s o.
            let f = unready_full ((l + 1) + k) m (whole_offer k m o) (rest_full k m s o) in
            let a = taken-parts (l + 1) (set (set p l (Some n)) j None) m in
            let t = same_taken m in
            omega arith;
        holders = λ k i m s o h.
            let t = there ((l + 1) + i) (omega arith) m (sym (get_or-drop (l + 1) (set (set p l (Some n)) j None) i None) ∙ h) in
            let is : ((l + 1) + i) - (l + 1) ≡ i = omega arith in
            subst (λ x. is_reached (map (is_shut ready) (drop (l + 1) offers)) x ≡ true) is (rest_shut ((l + 1) + i) m (omega arith) t (rest_full k m s o));
      }

      pub not_beside : Completes offers room (take l p) n → ⊥
      not_beside completes =
          let cut = length-take-le l p (omega arith) in
          let others : CanPlace (drop (l + 1) offers) (λ m. room m - taken (take l p ++ Some n ∷ []) m) = subst (λ k. CanPlace (drop (k + 1) offers) (λ m. room m - taken (take l p ++ Some n ∷ []) m)) cut completes.others in
          no_place (drop (l + 1) offers) (λ m. room m - taken (take (l + 1) (set (set p l (Some n)) j None)) m) (drop (l + 1) (set (set p l (Some n)) j None)) (map (is_shut ready) (drop (l + 1) offers)) (j - (l + 1)) stuck (rw front_is others) long

    -- an interrupt that isn't ready won't do for link l
    pub unready_closed : Completes offers room (take l p) n → ⊥
    unready_closed completes = go (zero_or_more (taken (drop l p) n))
      where
        go : (taken (drop l p) n ≡ 0) ⊎ (0 < taken (drop l p) n) → ⊥
        go (inl e) =
            let f = unready_full l n offered out in
            let a = taken-parts l p n in
            let g = completes.free in
            absurd (omega arith)
        go (inr more) =
            let w = counted_somewhere (is_at n) None (drop l p) more in
            let h : place_of p (l + w.0) ≡ Some n = sym (get_or-drop l p w.0 None) ∙ is_at_true n (place_of (drop l p) w.0) w.2 in
            at (l + w.0) h (cases_eq (l + w.0) l) (omega arith)
          where
            at : (m : ℕ) → place_of p m ≡ Some n → (m ≡ l) ⊎ (m ≡ l → ⊥) → l ≤ m → ⊥
            at m h (inl e) le = not_both (place_of p m) n (ap (place_of p) e ∙ none) h
            at m h (inr ne) le = not_beside m (let d : l < m = le_apart m le ne in omega arith) h completes
              where
                le_apart : (m : ℕ) → l ≤ m → (m ≡ l → ⊥) → l < m
                le_apart m le ne = go2 (cases_lt l m)
                  where
                    go2 : (l < m) ⊎ (m ≤ l) → l < m
                    go2 (inl less) = less
                    go2 (inr more) = absurd (ne (omega arith))
