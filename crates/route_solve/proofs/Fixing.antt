-- A link is freed and gets the first of its offers that is ready.
use Rattle.std.proofs.Common.{◌≡◌, ℕ, ◌+◌, ◌<◌, Bool, true, false, List, [], length, refl, sym, ◌∙◌, ap, subst, arith, Option, Some, None, get_or, set, take, inl, inr, length-set}
use Rattle.std.specs.Prelude.{◌⊎◌, ⊤, is_some, IsSome, Contains, AllPairs, MatchOption}
use Rattle.std.proofs.lemmas.Bool.{cases_eq, true≢false}
use Rattle.std.proofs.lemmas.List.{ext_get_or, get_or-take, length-take-le, take-set-le}
use Rattle.std.proofs.lemmas.List.Elements.{Contains-get_or}
use Rattle.route_model.specs.Placement.{is_at, place_of, is_reached, Offers, taken, IsPlacement, IsWhole}
use Rattle.route_model.proofs.Counting.{one_if}
use Rattle.route_solve.specs.First.{Completes, IsFirstOpen, IsLeastAt}
use Rattle.route_solve.specs.Capacities.{at, IsCounted}
use Rattle.route_solve.specs.Ready.{AreReady, IsAugmented}
use Rattle.route_solve.proofs.Counts.{one_at}
use Rattle.route_solve.proofs.Exchange.{moved_directly, taken-set, place_same, place_other, place_cases, none_is_some}
use Rattle.route_solve.proofs.Firsts.{least_from}
use Rattle.route_solve.proofs.Shifts.{unready_closed}

module _ (offers : List (List ℕ)) (room : ℕ → ℕ) (p : List (Option ℕ)) (l : ℕ) where
  pub freed_placed : l < length p → IsPlacement offers room p → IsPlacement offers room (set p l None)
  freed_placed b placed = record {
    same_length = length-set p l None ∙ placed.same_length;
    offered = λ k m. place_cases offers room p (λ o. o ≡ Some m → Offers offers k m) p l None k b (λ _ is. none_is_some offers room p is) (λ _ is. placed.offered k m is);
    within = λ n. let e = taken-set p l None n b in let w = placed.within n in omega arith;
  }

  module _ (x : ℕ) (b : l < length p) (placed : IsPlacement offers room p) (whole : IsWhole p) (held : place_of p l ≡ Some x) (ready : List Bool) (known : (k n : ℕ) → Offers offers k n → n < length ready) (r : AreReady offers room (set p l None) (l + 1) ready) (q : List (Option ℕ)) (same : length q ≡ length p) (o : Option ℕ) (first : MatchOption o ((i : ℕ) → Offers offers l i → is_reached ready i ≡ false) (λ k. (j : ℕ) → j < k → is_reached ready (at (get_or offers l []) j) ≡ false)) (augmented : MatchOption o ⊤ (λ k. IsAugmented (l + 1) (set p l None) l q)) where
    -- what it had is ready once it is free
    had_ready : is_reached ready x ≡ true
    had_ready =
        let e = taken-set p l None x b in
        let f = ap (λ s. one_if (is_at x s)) held in
        let g = one_at x in
        let w = placed.within x in
        r.rooms x (known l x (placed.offered l x held)) (omega arith)

    is_augmented : IsAugmented (l + 1) (set p l None) l q
    is_augmented = go o first augmented
      where
        go : (o : Option ℕ) → MatchOption o ((i : ℕ) → Offers offers l i → is_reached ready i ≡ false) (λ k. (j : ℕ) → j < k → is_reached ready (at (get_or offers l []) j) ≡ false) → MatchOption o ⊤ (λ k. IsAugmented (l + 1) (set p l None) l q) → IsAugmented (l + 1) (set p l None) l q
        go None f s = absurd (true≢false (sym had_ready ∙ f x (placed.offered l x held)))
        go (Some k) f s = s

    pub fixed_whole : IsWhole q
    fixed_whole k bk = go (cases_eq k l)
      where
        go : (k ≡ l) ⊎ (k ≡ l → ⊥) → IsSome (place_of q k)
        go (inl e) = ap (λ m. is_some (place_of q m)) e ∙ is_augmented.here
        go (inr ne) = is_augmented.whole k (ap is_some (place_other offers room p p l k None ne) ∙ whole k (let e = same in omega arith))

    pub fixed_front : take l q ≡ take l p
    fixed_front =
        let a = length-take-le l p (omega arith) in
        let c = length-take-le l q (let e = same in omega arith) in
        ext_get_or None (take l q) (take l p) (omega arith)
        (λ i bi. get_or-take l q i None (omega arith) ∙ ((is_augmented.kept i (omega arith) (λ e. absurd (omega arith)) ∙ place_other offers room p p l i None (λ e. absurd (omega arith))) ∙ sym (get_or-take l p i None (omega arith))))

    freed_front : take l (set p l None) ≡ take l p
    freed_front =
        let d = length-set p l None in
        let a = length-take-le l p (omega arith) in
        let c = length-take-le l (set p l None) (omega arith) in
        ext_get_or None (take l (set p l None)) (take l p) (omega arith)
        (λ i bi. get_or-take l (set p l None) i None (omega arith) ∙ (place_other offers room p p l i None (λ e. absurd (omega arith)) ∙ sym (get_or-take l p i None (omega arith))))

    pub fixed_least : AllPairs (λ m n. m < n) (get_or offers l []) → MatchOption o (q ≡ set p l None) (λ k. (k < length (get_or offers l [])) × (place_of q l ≡ Some (at (get_or offers l []) k))) → IsLeastAt offers room q l
    fixed_least up given = go o first given
      where
        front : take l (set p l None) ≡ take l q
        front = freed_front ∙ sym fixed_front

        go : (o : Option ℕ) → MatchOption o ((i : ℕ) → Offers offers l i → is_reached ready i ≡ false) (λ k. (j : ℕ) → j < k → is_reached ready (at (get_or offers l []) j) ≡ false) → MatchOption o (q ≡ set p l None) (λ k. (k < length (get_or offers l [])) × (place_of q l ≡ Some (at (get_or offers l []) k))) → IsLeastAt offers room q l
        go None f g = absurd (true≢false (sym had_ready ∙ f x (placed.offered l x held)))
        go (Some k) f g =
            least_from offers room q l k (get_or offers l []) refl up g.0 g.1
            (λ j bj.
            subst (λ (t : List (Option ℕ)). Completes offers room t (get_or (get_or offers l []) j 0) → ⊥) front
            (unready_closed offers room (set p l None) (l + 1) ready r known (freed_placed b placed) l refl (let e = length-set p l None in omega arith) (place_same offers room p p l None b) (get_or (get_or offers l []) j 0) (Contains-get_or (get_or offers l []) j 0 (let h = g.0 in omega arith)) (f j bj)))

-- a link that has an interrupt gets one that has room
module _ (offers : List (List ℕ)) (room : ℕ → ℕ) (p : List (Option ℕ)) (l i : ℕ) where
  pub shifted_placed : l < length p → IsPlacement offers room p → Offers offers l i → taken p i < room i → IsPlacement offers room (set (set p l None) l (Some i))
  shifted_placed b placed o free =
      let e = length-set p l None in
      let f = taken-set p l None i b in
      (moved_directly offers room (set p l None) [] l i (omega arith) (freed_placed offers room p l b placed) o (omega arith)).placed

  pub shifted_whole : l < length p → IsWhole p → IsWhole (set (set p l None) l (Some i))
  shifted_whole b whole k bk =
      let e = length-set p l None in
      let f = length-set (set p l None) l (Some i) in
      place_cases offers room p (λ o. IsSome o) (set p l None) l (Some i) k (omega arith) (λ _. refl) (λ ne. ap is_some (place_other offers room p p l k None ne) ∙ whole k (omega arith))

  pub shifted_front : take l (set (set p l None) l (Some i)) ≡ take l p
  shifted_front = take-set-le l (set p l None) l (Some i) (omega arith) ∙ take-set-le l p l None (omega arith)

  pub shifted_there : l < length p → place_of (set (set p l None) l (Some i)) l ≡ Some i
  shifted_there b = let e = length-set p l None in place_same offers room p (set p l None) l (Some i) (omega arith)

-- the first interrupt of a link that the links before have not filled
module _ (offers : List (List ℕ)) (room : ℕ → ℕ) (kept : List ℕ) where
  pub open_offered : (l i : ℕ) → IsFirstOpen room kept (get_or offers l []) i → Offers offers l i
  open_offered l i w = subst (Contains (get_or offers l [])) w.here (Contains-get_or (get_or offers l []) w.place 0 w.within)

  pub open_least : (p q : List (Option ℕ)) (l i : ℕ) → IsFirstOpen room kept (get_or offers l []) i → IsCounted kept (take l p) → ((n : ℕ) → Offers offers l n → n < length kept) → take l q ≡ take l p → AllPairs (λ m n. m < n) (get_or offers l []) → place_of q l ≡ Some i → IsLeastAt offers room q l
  open_least p q l i w counted known same up given =
      least_from offers room q l w.place (get_or offers l []) refl up w.within (given ∙ ap (λ (n : ℕ). Some n) (sym w.here)) filled
    where
      filled : (j : ℕ) → j < w.place → Completes offers room (take l q) (get_or (get_or offers l []) j 0) → ⊥
      filled j bj completes =
          let n : ℕ = get_or (get_or offers l []) j 0 in
          let b = w.within in
          let f = w.full j bj in
          let e = counted n (known n (Contains-get_or (get_or offers l []) j 0 (omega arith))) in
          let g = ap (λ t. taken t n) same in
          let h = completes.free in
          omega arith
