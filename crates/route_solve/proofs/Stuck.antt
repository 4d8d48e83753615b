-- What a search that found nothing says.
use Rattle.std.proofs.Common.{◌≡◌, ◌≢◌, ℕ, zero, suc, ◌+◌, ◌<◌, Bool, true, false, List, length, refl, sym, ◌∙◌, subst, arith, Option, Some, None, set, replicate, inl, inr, get_or-set_same, get_or-set_other}
use Rattle.std.specs.Prelude.{◌⊎◌, IsSome}
use Rattle.std.proofs.lemmas.Bool.{cases_eq, true≢false}
use Rattle.std.proofs.lemmas.List.{length-replicate}
use Rattle.route_model.specs.Placement.{place_of, is_reached, Offers, IsPlacement, IsWholeBut, CanPlaceBut, IsStuck}
use Rattle.route_solve.specs.Search.{Spares}
use Rattle.route_solve.specs.Capacities.{at}
use Rattle.route_solve.specs.Levels.{IsTrail, IsQueue, AreClosed, AreDone}
use Rattle.route_solve.proofs.Exchange.{spares_step, none_reached}

module _ (offers : List (List ℕ)) (room : ℕ → ℕ) (p : List (Option ℕ)) (queue : List ℕ) (tail : ℕ) (reached seen : List Bool) (trail : IsTrail offers p 0 queue tail) (listed : IsQueue reached queue tail) (closed : AreClosed room p 0 reached seen) (done : AreDone offers seen queue 0 tail) (some : 0 < tail) (unplaced : place_of p (at queue 0) ≡ None) where
  seen_all : (k n : ℕ) → is_reached reached k ≡ true → Offers offers k n → is_reached seen n ≡ true
  seen_all k n r o = let w = listed.listed k r in done w.0 n (omega arith) w.1 (subst (λ l. Offers offers l n) (sym w.2) o)

  pub stuck_at_root : IsStuck offers room p reached (at queue 0)
  stuck_at_root = record {
    within_links = trail.known 0 some;
    begins = listed.marked 0 some;
    unplaced = unplaced;
    full = λ k n r o. (closed n (seen_all k n r o)).full;
    holders = λ k j n r o h. (closed n (seen_all k n r o)).holders j (omega arith) h;
  }

  -- the others can be placed without the link at place k of the queue, and later links stay where they are
  record IsSpared (k : ℕ) : Type 0 where
    others : List (Option ℕ)
    placed : IsPlacement offers room others
    left_out : place_of others (at queue k) ≡ None
    whole : (m : ℕ) → m < length offers → m ≢ at queue k → IsSome (place_of others m)
    later : (j : ℕ) → k < j → j < tail → place_of others (at queue j) ≡ place_of p (at queue j)

  module _ (placed : IsPlacement offers room p) (but : IsWholeBut (at queue 0) p) where
    only : ℕ → List Bool
    only l = set (replicate (l + 1) false) l true

    only_itself : (l : ℕ) → is_reached (set (replicate (l + 1) false) l true) l ≡ true
    only_itself l = get_or-set_same (replicate (l + 1) false) l true false (let e = length-replicate (l + 1) false in omega arith)

    only_other : (l j : ℕ) → j ≢ l → is_reached (set (replicate (l + 1) false) l true) j ≡ false
    only_other l j ne = get_or-set_other (replicate (l + 1) false) l j true false ne ∙ none_reached (l + 1) j

    at_the_root : (k : ℕ) → place_of p (at queue k) ≡ None → k < tail → (at queue k ≡ at queue 0) ⊎ (at queue k ≡ at queue 0 → ⊥) → IsSpared k
    at_the_root k e b (inl is) = record { others = p; placed = placed; left_out = e; whole = λ m bm ne. but m (let s = placed.same_length in omega arith) (λ f. ne (f ∙ sym is)); later = λ j lt bj. refl }
    at_the_root k e b (inr ne) = absurd (no_some (place_of p (at queue k)) e (but (at queue k) (trail.known k b) ne))
      where
        no_some : (o : Option ℕ) → o ≡ None → IsSome o → ⊥
        no_some None e s = true≢false (sym s)
        no_some (Some n) e s = none e
          where
            none : Some n ≡ None → ⊥
            none e = cc

    step : (k n f : ℕ) → k < tail → place_of p (at queue k) ≡ Some n → f < k → Offers offers (at queue f) n → IsSpared f → IsSpared k
    step k n f b held less offered s =
        let l = at queue f in
        let j = at queue k in
        let apart : j ≢ l = λ e. trail.once f k less b (sym e) in
        let long = placed.same_length in
        let bl = trail.known f (omega arith) in
        let bj = trail.known k b in
        let before : Spares offers room s.others (set (replicate (l + 1) false) l true) l = record {
          others = s.others;
          placed = s.placed;
          left_out = s.left_out;
          whole = s.whole;
          kept = λ m _ _. refl;
        } in
        let after = spares_step offers room s.others (set (replicate (l + 1) false) l true) l j n (omega arith) (omega arith) before (only_itself l) (only_other l j apart) offered (s.later k less b ∙ held) in
        record {
          others = after.others;
          placed = after.placed;
          left_out = after.left_out;
          whole = after.whole;
          later = λ m lt bm.
              after.kept (at queue m) (only_other l (at queue m) (λ e. trail.once f m (omega arith) bm (sym e))) (λ e. trail.once k m lt bm (sym e)) ∙ s.later m (omega arith) bm;
        }

    spared_from : (m k : ℕ) → k < m → k < tail → IsSpared k
    spared_from zero k lt b = absurd (omega arith)
    spared_from (suc m) k lt b = go (place_of p (at queue k)) refl (λ f less bf. spared_from m f less bf)
      where
        go : (o : Option ℕ) → place_of p (at queue k) ≡ o → ((f : ℕ) → f < m → f < tail → IsSpared f) → IsSpared k
        go None e ih = at_the_root k e b (cases_eq (at queue k) (at queue 0))
        go (Some n) e ih =
            let w = trail.linked k n b e in
            let less = w.1 in
            step k n w.0 b e less w.2 (ih w.0 (omega arith) (omega arith))

    pub spared_all : (l : ℕ) → is_reached reached l ≡ true → CanPlaceBut offers room l
    spared_all l r =
        let w = listed.listed l r in
        let s = spared_from (w.0 + 1) w.0 (omega arith) w.1 in
        let long = s.placed.same_length in
        subst (CanPlaceBut offers room) w.2 (s.others, s.placed, s.left_out, λ m b ne. s.whole m (omega arith) ne)
