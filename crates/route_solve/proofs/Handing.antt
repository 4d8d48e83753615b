-- A link gets the interrupt of a way, and the link that had it is to be placed.
use Rattle.std.proofs.Common.{◌≡◌, ◌≢◌, ℕ, ◌+◌, ◌<◌, ◌≤◌, List, [], length, refl, sym, ◌∙◌, ap, subst, arith, Option, Some, None, set, inl, inr, length-set}
use Rattle.std.specs.Prelude.{◌⊎◌, is_some, IsSome}
use Rattle.std.proofs.lemmas.Bool.{cases_eq, cases_lt, true≢false}
use Rattle.route_model.specs.Placement.{is_at, place_of, taken, Offers, IsPlacement}
use Rattle.route_model.proofs.Counting.{one_if}
use Rattle.route_solve.specs.declared.ways.Way.{Way}
use Rattle.route_solve.specs.Ready.{way_at, ready_at, IsWay, IsPassing, AreWays, IsAugmented}
use Rattle.route_solve.proofs.Exchange.{taken-set, moved_directly, offered-set, none_is_some, place_same, place_other, place_cases}
use Rattle.route_solve.proofs.Parts.{placed_within}

pub not_both : {A : Type 0} (o : Option ℕ) (x : ℕ) → o ≡ None → o ≡ Some x → A
not_both o x e f = cc

same_number : {m n : ℕ} → Some m ≡ Some n → m ≡ n
same_number e = cc

-- link j gives its number to link k
module _ (offers : List (List ℕ)) (room : ℕ → ℕ) (q : List (Option ℕ)) (k j x : ℕ) (placed : IsPlacement offers room q) (bk : k < length q) (none : place_of q k ≡ None) (held : place_of q j ≡ Some x) (offered : Offers offers k x) where
  apart : k ≢ j
  apart e = not_both (place_of q j) x (ap (place_of q) (sym e) ∙ none) held

  bj : j < length q
  bj = placed_within q j x held

  bk' : k < length (set q j None)
  bk' = let e = length-set q j None in let b = bk in omega arith

  none' : place_of (set q j None) k ≡ None
  none' = place_other offers room q q j k None apart ∙ none

  pub handed_taken : (n : ℕ) → taken (set (set q j None) k (Some x)) n ≡ taken q n
  handed_taken n =
      let a = taken-set q j None n bj in
      let b = taken-set (set q j None) k (Some x) n bk' in
      let c = ap (λ o. one_if (is_at n o)) held in
      let d = ap (λ o. one_if (is_at n o)) none' in
      omega arith

  pub handed_there : place_of (set (set q j None) k (Some x)) k ≡ Some x
  handed_there = place_same offers room q (set q j None) k (Some x) bk'

  pub handed_gone : place_of (set (set q j None) k (Some x)) j ≡ None
  handed_gone = place_other offers room q (set q j None) k j (Some x) (λ e. apart (sym e)) ∙ place_same offers room q q j None bj

  pub handed_other : (m : ℕ) → m ≢ k → m ≢ j → place_of (set (set q j None) k (Some x)) m ≡ place_of q m
  handed_other m nk nj = place_other offers room q (set q j None) k m (Some x) nk ∙ place_other offers room q q j m None nj

  pub handed_placed : IsPlacement offers room (set (set q j None) k (Some x))
  handed_placed = record {
    same_length = length-set (set q j None) k (Some x) ∙ (length-set q j None ∙ placed.same_length);
    offered = offered-set offers room q (set q j None) k x bk' offered (λ l m. place_cases offers room q (λ o. o ≡ Some m → Offers offers l m) q j None l bj (λ e is. none_is_some offers room q is) (λ ne is. placed.offered l m is));
    within = λ n. let e = handed_taken n in let w = placed.within n in omega arith;
  }

-- how far links were moved: link k is to get the interrupt of the way at pos
pub record IsHanded (offers : List (List ℕ)) (room : ℕ → ℕ) (low : ℕ) (p : List (Option ℕ)) (ways : List Way) (link start : ℕ) (q : List (Option ℕ)) (k pos : ℕ) : Type 0 where
  pub placed : IsPlacement offers room q
  pub within : k < length q
  pub unplaced : place_of q k ≡ None
  pub offered : Offers offers k (ready_at ways pos)
  pub same : (n : ℕ) → taken q n ≡ taken p n
  pub still : (v r : ℕ) → r ≤ pos → place_of p v ≡ Some (ready_at ways r) → place_of q v ≡ Some (ready_at ways r)
  pub whole : (m : ℕ) → IsSome (place_of p m) → m ≢ k → IsSome (place_of q m)
  pub given : ((k ≡ link) × (pos ≡ start)) ⊎ ((k ≢ link) × (low ≤ k) × IsSome (place_of p k) × (place_of q link ≡ Some (ready_at ways start)))
  pub kept : (m : ℕ) → m < low → m ≢ link → place_of q m ≡ place_of p m
  pub others : (m : ℕ) → place_of p m ≡ None → m ≢ link → place_of q m ≡ None

module _ (offers : List (List ℕ)) (room : ℕ → ℕ) (low : ℕ) (p : List (Option ℕ)) (ways : List Way) (tail link start : ℕ) (root : place_of p link ≡ None) (all : AreWays offers room p low ways tail) where
  pub handed_none : IsPlacement offers room p → link < length p → Offers offers link (ready_at ways start) → IsHanded offers room low p ways link start p link start
  handed_none placed b o = record {
    placed = placed;
    within = b;
    unplaced = root;
    offered = o;
    same = λ n. refl;
    still = λ v r le h. h;
    whole = λ m s ne. s;
    given = inl (refl, refl);
    kept = λ m lt ne. refl;
    others = λ m e ne. e;
  }

  module _ (q : List (Option ℕ)) (k pos : ℕ) (h : IsHanded offers room low p ways link start q k pos) where
    -- the link to be placed is the first one, or had a number
    not_lower : (m : ℕ) → m < low → m ≢ link → m ≢ k
    not_lower m lt ne e = go h.given
      where
        go : ((k ≡ link) × (pos ≡ start)) ⊎ ((k ≢ link) × (low ≤ k) × IsSome (place_of p k) × (place_of q link ≡ Some (ready_at ways start))) → ⊥
        go (inl g) = ne (e ∙ g.0)
        go (inr g) = let le = g.1 in absurd (omega arith)

    not_none : (m : ℕ) → place_of p m ≡ None → m ≢ link → m ≢ k
    not_none m none ne e = go h.given
      where
        go : ((k ≡ link) × (pos ≡ start)) ⊎ ((k ≢ link) × (low ≤ k) × IsSome (place_of p k) × (place_of q link ≡ Some (ready_at ways start))) → ⊥
        go (inl g) = ne (e ∙ g.0)
        go (inr g) = true≢false (sym g.2 ∙ (ap (λ m. is_some (place_of p m)) (sym e) ∙ ap is_some none))

    module _ (b : pos < tail) (full : room (ready_at ways pos) ≤ taken q (ready_at ways pos)) where
      pub passing : IsPassing offers p low ways pos (way_at ways pos)
      passing = go (all.each pos b)
        where
          go : IsWay offers room p low ways pos (way_at ways pos) → IsPassing offers p low ways pos (way_at ways pos)
          go (inl free) = let e = h.same (ready_at ways pos) in absurd (omega arith)
          go (inr w) = w

      pub held_still : place_of q (way_at ways pos).link ≡ Some (ready_at ways pos)
      held_still = h.still (way_at ways pos).link pos (omega arith) passing.held

      pub handed_on : IsHanded offers room low p ways link start (set (set q (way_at ways pos).link None) k (Some (ready_at ways pos))) (way_at ways pos).link (way_at ways pos).next
      handed_on =
          let j = (way_at ways pos).link in
          let w = passing in
          let less = w.before in
          let held = held_still in
          let there = handed_there offers room q k j (ready_at ways pos) h.placed h.within h.unplaced held h.offered in
          let other = handed_other offers room q k j (ready_at ways pos) h.placed h.within h.unplaced held h.offered in
          let apart : (m : ℕ) → place_of p m ≡ None → m ≢ j = λ m none e. not_both (place_of p m) (ready_at ways pos) none (ap (place_of p) e ∙ w.held) in
          record {
            placed = handed_placed offers room q k j (ready_at ways pos) h.placed h.within h.unplaced held h.offered;
            within = let a = placed_within q j (ready_at ways pos) held in let e = length-set (set q j None) k (Some (ready_at ways pos)) in let f = length-set q j None in omega arith;
            unplaced = handed_gone offers room q k j (ready_at ways pos) h.placed h.within h.unplaced held h.offered;
            offered = w.offered;
            same = λ n. handed_taken offers room q k j (ready_at ways pos) h.placed h.within h.unplaced held h.offered n ∙ h.same n;
            still = λ v r le e.
                let f = h.still v r (omega arith) e in
                other v (λ g. not_both (place_of q v) (ready_at ways r) (ap (place_of q) g ∙ h.unplaced) f) (λ g. all.once r pos (omega arith) b (same_number (sym e ∙ (ap (place_of p) g ∙ w.held)))) ∙ f;
            whole = λ m s ne. whole m s ne (cases_eq m k) there other;
            given = inr (λ e. apart link root (sym e), w.movable, ap is_some w.held, given h.given there other (apart link root));
            kept = λ m lt ne. other m (not_lower m lt ne) (λ e. let le = w.movable in absurd (omega arith)) ∙ h.kept m lt ne;
            others = λ m none ne. other m (not_none m none ne) (apart m none) ∙ h.others m none ne;
          }
        where
          whole : (m : ℕ) → IsSome (place_of p m) → m ≢ (way_at ways pos).link → (m ≡ k) ⊎ (m ≡ k → ⊥) → place_of (set (set q (way_at ways pos).link None) k (Some (ready_at ways pos))) k ≡ Some (ready_at ways pos) → ((m : ℕ) → m ≢ k → m ≢ (way_at ways pos).link → place_of (set (set q (way_at ways pos).link None) k (Some (ready_at ways pos))) m ≡ place_of q m) → IsSome (place_of (set (set q (way_at ways pos).link None) k (Some (ready_at ways pos))) m)
          whole m s ne (inl e) there other = ap is_some (ap (place_of (set (set q (way_at ways pos).link None) k (Some (ready_at ways pos)))) e ∙ there)
          whole m s ne (inr nk) there other = ap is_some (other m nk ne) ∙ h.whole m s nk

          given : ((k ≡ link) × (pos ≡ start)) ⊎ ((k ≢ link) × (low ≤ k) × IsSome (place_of p k) × (place_of q link ≡ Some (ready_at ways start))) → place_of (set (set q (way_at ways pos).link None) k (Some (ready_at ways pos))) k ≡ Some (ready_at ways pos) → ((m : ℕ) → m ≢ k → m ≢ (way_at ways pos).link → place_of (set (set q (way_at ways pos).link None) k (Some (ready_at ways pos))) m ≡ place_of q m) → link ≢ (way_at ways pos).link → place_of (set (set q (way_at ways pos).link None) k (Some (ready_at ways pos))) link ≡ Some (ready_at ways start)
          given (inl g) there other nj = ap (place_of (set (set q (way_at ways pos).link None) k (Some (ready_at ways pos)))) (sym g.0) ∙ (there ∙ ap (λ m. Some (ready_at ways m)) g.1)
          given (inr g) there other nj = other link (λ e. g.0 (sym e)) nj ∙ g.3

    module _ (free : taken q (ready_at ways pos) < room (ready_at ways pos)) where
      pub last_placed : IsPlacement offers room (set q k (Some (ready_at ways pos)))
      last_placed = (moved_directly offers room q [] k (ready_at ways pos) h.within h.placed h.offered free).placed

      pub last_given : place_of (set q k (Some (ready_at ways pos))) link ≡ Some (ready_at ways start)
      last_given = go h.given
        where
          go : ((k ≡ link) × (pos ≡ start)) ⊎ ((k ≢ link) × (low ≤ k) × IsSome (place_of p k) × (place_of q link ≡ Some (ready_at ways start))) → place_of (set q k (Some (ready_at ways pos))) link ≡ Some (ready_at ways start)
          go (inl g) = ap (place_of (set q k (Some (ready_at ways pos)))) (sym g.0) ∙ (place_same offers room q q k (Some (ready_at ways pos)) h.within ∙ ap (λ m. Some (ready_at ways m)) g.1)
          go (inr g) = place_other offers room q q k link (Some (ready_at ways pos)) (λ e. g.0 (sym e)) ∙ g.3

      pub last_augmented : IsAugmented low p link (set q k (Some (ready_at ways pos)))
      last_augmented = record {
        here = ap is_some last_given;
        whole = λ m s. place_cases offers room q (λ o. IsSome o) q k (Some (ready_at ways pos)) m h.within (λ _. refl) (λ ne. h.whole m s ne);
        kept = λ m lt ne. place_other offers room q q k m (Some (ready_at ways pos)) (not_lower m lt ne) ∙ h.kept m lt ne;
        others = λ m none ne. place_other offers room q q k m (Some (ready_at ways pos)) (not_none m none ne) ∙ h.others m none ne;
      }

-- a link takes an interrupt
pub augmented_directly : (offers : List (List ℕ)) (room : ℕ → ℕ) (low : ℕ) (p : List (Option ℕ)) (link i : ℕ) → link < length p → IsAugmented low p link (set p link (Some i))
augmented_directly offers room low p link i b = record {
  here = ap is_some (place_same offers room p p link (Some i) b);
  whole = λ m s. place_cases offers room p (λ o. IsSome o) p link (Some i) m b (λ _. refl) (λ _. s);
  kept = λ m lt ne. place_other offers room p p link m (Some i) ne;
  others = λ m none ne. place_other offers room p p link m (Some i) ne ∙ none;
}

-- one link more has an interrupt, and those after it have none
pub augmented_whole : (low : ℕ) (p : List (Option ℕ)) (link : ℕ) (q : List (Option ℕ)) → IsAugmented low p link q → ((k : ℕ) → k < link → IsSome (place_of p k)) → (k : ℕ) → k < link + 1 → IsSome (place_of q k)
augmented_whole low p link q s whole k b = go (cases_lt k link)
  where
    go : (k < link) ⊎ (link ≤ k) → IsSome (place_of q k)
    go (inl before) = s.whole k (whole k before)
    go (inr past) = let e : link ≡ k = omega arith in subst (λ m. IsSome (place_of q m)) e s.here

pub augmented_unplaced : (low : ℕ) (p : List (Option ℕ)) (link : ℕ) (q : List (Option ℕ)) → IsAugmented low p link q → ((k : ℕ) → link ≤ k → place_of p k ≡ None) → (k : ℕ) → link + 1 ≤ k → place_of q k ≡ None
augmented_unplaced low p link q s none k le = s.others k (none k (omega arith)) (λ e. absurd (omega arith))
