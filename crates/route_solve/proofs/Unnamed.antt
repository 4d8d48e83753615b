-- Numbers as places again.
use Rattle.std.proofs.Common.{◌≡◌, ℕ, zero, suc, ◌+◌, ◌-◌, ◌<◌, ◌≤◌, cond, List, [], ◌∷◌, ◌++◌, length, refl, sym, ◌∙◌, ap, subst, arith, Option, Some, None, map, take, drop, get_or, inl, inr}
use Rattle.std.specs.Prelude.{◌⊎◌, ◌==◌, is_some, IsSome, Contains, AllPairs}
use Rattle.std.specs.List.Sorted.{IsStrictlyIncreasing}
use Rattle.std.proofs.lemmas.Bool.{cases_eq, cases_order, eq-eqb, ne_eqb}
use Rattle.std.proofs.lemmas.List.{length-map, drop-map, take-map, map-append, get_or-map, get_or-drop}
use Rattle.std.proofs.lemmas.List.Elements.{Contains-get_or}
use Rattle.std.proofs.lemmas.List.Kept.{AllPairs-from_increasing}
use Rattle.std.proofs.Math.ListN as list_n
use Rattle.route_model.specs.Placement.{is_at, place_of, Offers, taken, IsPlacement, CanPlace}
use Rattle.route_model.proofs.Hall.{counted_somewhere, zero_or_more, is_at_true, count_pointwise}
use Rattle.route_solve.specs.First.{Completes, IsLeastAt}
use Rattle.route_solve.specs.Named.{name_of, named}
use Rattle.route_numbers.specs.Numbers.{number_at}
use Rattle.route_solve.proofs.Names.{length-named, place_named, unnamed, at_is}
use Rattle.route_numbers.proofs.Numbered.{offers_unnamed, one_place}

-- the place of a number
abbrev place_in : List ℕ → ℕ → ℕ
place_in [] n = 0
place_in (m ∷ ms) n = cond (m == n) 0 (suc (place_in ms n))

place_is : (numbers : List ℕ) (n i : ℕ) → i < length numbers → number_at numbers i ≡ n → (place_in numbers n < length numbers) × (number_at numbers (place_in numbers n) ≡ n)
place_is [] n i b e = absurd (omega arith)
place_is (m ∷ ms) n zero b e = rw (eq-eqb m n e) (omega arith, e)
place_is (m ∷ ms) n (suc i) b e = go (cases_eq m n) (place_is ms n i (omega arith) e)
  where
    go : (m ≡ n) ⊎ (m ≡ n → ⊥) → (place_in ms n < length ms) × (number_at ms (place_in ms n) ≡ n) → (cond (m == n) 0 (suc (place_in ms n)) < length (m ∷ ms)) × (number_at (m ∷ ms) (cond (m == n) 0 (suc (place_in ms n))) ≡ n)
    go (inl f) ih = rw (eq-eqb m n f) (omega arith, f)
    go (inr ne) ih = rw (ne_eqb m n ne) (let b = ih.0 in omega arith, ih.1)

abbrev place_of_name : List ℕ → Option ℕ → Option ℕ
place_of_name numbers None = None
place_of_name numbers (Some n) = Some (place_in numbers n)

again_at : (numbers : List ℕ) (q : List (Option ℕ)) (k : ℕ) → place_of (map (place_of_name numbers) q) k ≡ place_of_name numbers (place_of q k)
again_at numbers q k = list_n.get_or-map (place_of_name numbers) q k None

again_from : (numbers : List ℕ) (o : Option ℕ) (i : ℕ) → place_of_name numbers o ≡ Some i → (n : ℕ) × (o ≡ Some n) × (place_in numbers n ≡ i)
again_from numbers None i h = none h
  where
    none : {A : Type 0} → None ≡ Some i → A
    none e = cc
again_from numbers (Some n) i h = (n, refl, some h)
  where
    some : Some (place_in numbers n) ≡ Some i → place_in numbers n ≡ i
    some e = cc

again_some : (numbers : List ℕ) (o : Option ℕ) → IsSome o → IsSome (place_of_name numbers o)
again_some numbers None s = s
again_some numbers (Some n) s = refl

-- places are at most as often taken as their numbers
pub taken_named : (numbers : List ℕ) (p : List (Option ℕ)) (i : ℕ) → taken p i ≤ taken (named numbers p) (number_at numbers i)
taken_named numbers p i =
    count_pointwise (is_at i) (is_at (number_at numbers i)) None None p (named numbers p) (sym (length-named numbers p))
    (λ k bk h. at_is (number_at numbers i) (place_of (named numbers p) k) (place_named numbers p k ∙ ap (name_of numbers) (is_at_true i (place_of p k) h)))

module _ (numbers : List ℕ) (up : IsStrictlyIncreasing numbers) where
  module _ (offers : List (List ℕ)) (below : (l i : ℕ) → Offers offers l i → i < length numbers) (room room' : ℕ → ℕ) (same : (i : ℕ) → i < length numbers → room' (number_at numbers i) ≤ room i) where
    module _ (q : List (Option ℕ)) (placed : IsPlacement (map (map (number_at numbers)) offers) room' q) where
      -- where a link is placed, it has the number of that place
      again : (k i : ℕ) → place_of (map (place_of_name numbers) q) k ≡ Some i → Offers offers k i × (place_of q k ≡ Some (number_at numbers i))
      again k i h =
          let w = again_from numbers (place_of q k) i (sym (again_at numbers q k) ∙ h) in
          let v = offers_unnamed (number_at numbers) offers k w.0 (placed.offered k w.0 w.1) in
          let b = below k v.0 v.1 in
          let is = place_is numbers w.0 v.0 b v.2 in
          let e : v.0 ≡ i = one_place numbers up v.0 (place_in numbers w.0) b is.0 (v.2 ∙ sym is.1) ∙ w.2 in
          (subst (Offers offers k) e v.1, w.1 ∙ ap (λ n. Some n) (sym v.2 ∙ ap (number_at numbers) e))

      again_taken : (i : ℕ) → taken (map (place_of_name numbers) q) i ≤ taken q (number_at numbers i)
      again_taken i =
          count_pointwise (is_at i) (is_at (number_at numbers i)) None None (map (place_of_name numbers) q) q (length-map q (place_of_name numbers))
          (λ k bk h. at_is (number_at numbers i) (place_of q k) (again k i (is_at_true i (place_of (map (place_of_name numbers) q) k) h)).1)

      again_placed : IsPlacement offers room (map (place_of_name numbers) q)
      again_placed =
          record {
            same_length = length-map q (place_of_name numbers) ∙ (placed.same_length ∙ length-map offers (map (number_at numbers)));
            offered = λ k i h. (again k i h).0;
            within = λ i. go i (zero_or_more (taken (map (place_of_name numbers) q) i));
          }
        where
          go : (i : ℕ) → (taken (map (place_of_name numbers) q) i ≡ 0) ⊎ (0 < taken (map (place_of_name numbers) q) i) → taken (map (place_of_name numbers) q) i ≤ room i
          go i (inl none) = omega arith
          go i (inr more) =
              let c = counted_somewhere (is_at i) None (map (place_of_name numbers) q) more in
              let o = (again c.0 i (is_at_true i (place_of (map (place_of_name numbers) q) c.0) c.2)).0 in
              let s = same i (below c.0 i o) in
              let t = again_taken i in
              let w = placed.within (number_at numbers i) in
              omega arith

    pub can_again : CanPlace (map (map (number_at numbers)) offers) room' → CanPlace offers room
    can_again c = (map (place_of_name numbers) c.0, again_placed c.0 c.1, λ k b. ap is_some (again_at numbers c.0 k) ∙ again_some numbers (place_of c.0 k) (c.2 k (let e = length-map c.0 (place_of_name numbers) in omega arith)))

  module _ (offers : List (List ℕ)) (below : (l i : ℕ) → Offers offers l i → i < length numbers) (room room' : ℕ → ℕ) (same : (i : ℕ) → i < length numbers → room i ≡ room' (number_at numbers i)) (p : List (Option ℕ)) where
    offers_from_drop : (m l i : ℕ) → Offers (drop m offers) l i → Offers offers (m + l) i
    offers_from_drop m l i o = subst (λ (xs : List ℕ). Contains xs i) (get_or-drop m offers l []) o

    completes_again : (l k : ℕ) → k < length numbers → Completes (map (map (number_at numbers)) offers) room' (take l (named numbers p)) (number_at numbers k) → Completes offers room (take l p) k
    completes_again l k b c =
        let fixed = take l p in
        let is : take l (named numbers p) ≡ named numbers (take l p) = take-map (name_of numbers) l p in
        let m = length (take l p) + 1 in
        let long : length (take l (named numbers p)) ≡ length (take l p) = ap length is ∙ length-named numbers (take l p) in
        let more : named numbers (take l p ++ Some k ∷ []) ≡ take l (named numbers p) ++ Some (number_at numbers k) ∷ [] = map-append (name_of numbers) (take l p) (Some k ∷ []) ∙ ap (λ (r : List (Option ℕ)). r ++ Some (number_at numbers k) ∷ []) (sym is) in
        record {
          free =
              let f = c.free in
              let t = taken_named numbers (take l p) k in
              let e = ap (λ (r : List (Option ℕ)). taken r (number_at numbers k)) is in
              let s = same k b in
              omega arith;
          others =
              can_again (drop m offers) (λ l i o. below (m + l) i (offers_from_drop m l i o)) (λ i. room i - taken (take l p ++ Some k ∷ []) i) (λ n. room' n - taken (take l (named numbers p) ++ Some (number_at numbers k) ∷ []) n)
              (λ i bi.
              let s = same i bi in
              let t = taken_named numbers (take l p ++ Some k ∷ []) i in
              let e = ap (λ (r : List (Option ℕ)). taken r (number_at numbers i)) more in
              omega arith)
              (subst (λ (os : List (List ℕ)). CanPlace os (λ n. room' n - taken (take l (named numbers p) ++ Some (number_at numbers k) ∷ []) n)) (ap (λ j. drop (j + 1) (map (map (number_at numbers)) offers)) long ∙ drop-map (map (number_at numbers)) m offers) c.others);
        }

    less_place : (i k : ℕ) → i < length numbers → k < length numbers → number_at numbers k < number_at numbers i → k < i
    less_place i k bi bk less = go (cases_order k i)
      where
        go : (k ≡ i) ⊎ ((k < i) ⊎ (i < k)) → k < i
        go (inl e) = absurd (let f = ap (number_at numbers) e in omega arith)
        go (inr (inl lt)) = lt
        go (inr (inr gt)) = absurd (let f = AllPairs-from_increasing numbers up i k 0 gt bk in omega arith)

    pub least_named : IsPlacement offers room p → (l : ℕ) → IsLeastAt offers room p l → IsLeastAt (map (map (number_at numbers)) offers) room' (named numbers p) l
    least_named placed l least x n e o less completes =
        let w = unnamed numbers p l x e in
        let v = offers_unnamed (number_at numbers) offers l n o in
        let bw = below l w.0 (placed.offered l w.0 w.1) in
        let bv = below l v.0 v.1 in
        let lt = less_place w.0 v.0 bw bv (let a = w.2 in let b = v.2 in omega arith) in
        least w.0 v.0 w.1 v.1 lt (completes_again l v.0 bv (subst (Completes (map (map (number_at numbers)) offers) room' (take l (named numbers p))) (sym v.2) completes))

-- what ascends by number ascends by place
pub places_ascend : (numbers : List ℕ) → IsStrictlyIncreasing numbers → (places : List ℕ) → ((i : ℕ) → Contains places i → i < length numbers) → IsStrictlyIncreasing (map (number_at numbers) places) → AllPairs (λ m n. m < n) places
places_ascend numbers up places below ascending i j d lt b =
    let long = length-map places (number_at numbers) in
    let f = AllPairs-from_increasing (map (number_at numbers) places) ascending i j 0 lt (omega arith) in
    let e = get_or-map (number_at numbers) places i d 0 (omega arith) in
    let g = get_or-map (number_at numbers) places j d 0 b in
    less (get_or places i d) (get_or places j d) (below (get_or places i d) (Contains-get_or places i d (omega arith))) (below (get_or places j d) (Contains-get_or places j d b)) (omega arith)
  where
    less : (m n : ℕ) → m < length numbers → n < length numbers → number_at numbers m < number_at numbers n → m < n
    less m n bm bn h = go (cases_order m n)
      where
        go : (m ≡ n) ⊎ ((m < n) ⊎ (n < m)) → m < n
        go (inl e) = absurd (let f = ap (number_at numbers) e in omega arith)
        go (inr (inl lt)) = lt
        go (inr (inr gt)) = absurd (let f = AllPairs-from_increasing numbers up n m 0 gt bm in omega arith)
