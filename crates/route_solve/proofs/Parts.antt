use Rattle.std.proofs.Common.{◌≡◌, ℕ, ◌+◌, ◌-◌, ◌<◌, ◌≤◌, Bool, false, cond, List, [], ◌++◌, length, sym, ◌∙◌, ap, subst, arith, Option, Some, None, take, drop, inl, inr, min}
use Rattle.std.specs.Prelude.{◌⊎◌, Contains}
use Rattle.std.proofs.lemmas.List.{length-take, length-append, get_or-take, get_or_append_left, get_or-append_right, get_or_past, take-map, drop-map}
use Rattle.std.proofs.lemmas.List.Sums.{sum_by-append, sum_by-take-le}
use Rattle.std.proofs.lemmas.Bool.{cases_lt}
use Rattle.route_model.specs.Placement.{is_at, place_of, is_reached, Offers, taken, IsPlacement, IsStuck}
use Rattle.route_model.proofs.Hall.{counted_somewhere, zero_or_more, is_at_true}
use Rattle.route_model.specs.Links.{OfferingLink, offers_of}

pub offers_take : (m : ℕ) (links : List OfferingLink) → offers_of (take m links) ≡ take m (offers_of links)
offers_take m links = sym (take-map (λ (l : OfferingLink). l.offers) m links)

pub offers_drop : (m : ℕ) (links : List OfferingLink) → offers_of (drop m links) ≡ drop m (offers_of links)
offers_drop m links = sym (drop-map (λ (l : OfferingLink). l.offers) m links)

no_some : {A : Type 0} → {n : ℕ} (o : Option ℕ) → o ≡ None → o ≡ Some n → A
no_some o e f = cc

pub taken-append : (p q : List (Option ℕ)) (n : ℕ) → taken (p ++ q) n ≡ taken p n + taken q n
taken-append p q n = sum_by-append (λ o. cond (is_at n o) 1 0) p q

-- where no link has a number, none is taken
pub none_taken : (p : List (Option ℕ)) (n : ℕ) → ((k : ℕ) → place_of p k ≡ None) → taken p n ≡ 0
none_taken p n h = go (zero_or_more (taken p n))
  where
    go : (taken p n ≡ 0) ⊎ (0 < taken p n) → taken p n ≡ 0
    go (inl e) = e
    go (inr more) = let w = counted_somewhere (is_at n) None p more in no_some (place_of p w.0) (h w.0) (is_at_true n (place_of p w.0) w.2)

pub place-take : (m : ℕ) (p : List (Option ℕ)) (k n : ℕ) → place_of (take m p) k ≡ Some n → (k < m) × (place_of p k ≡ Some n)
place-take m p k n e = go (cases_lt k m)
  where
    go : (k < m) ⊎ (m ≤ k) → (k < m) × (place_of p k ≡ Some n)
    go (inl b) = (b, sym (get_or-take m p k None b) ∙ e)
    go (inr past) = let l = length-take m p in no_some (place_of (take m p) k) (get_or_past (take m p) k None (omega arith)) e

pub placement_take : (m : ℕ) (offers : List (List ℕ)) (room : ℕ → ℕ) (p : List (Option ℕ)) → IsPlacement offers room p → IsPlacement (take m offers) room (take m p)
placement_take m offers room p h =
    record {
      same_length = length-take m p ∙ (ap (min m) h.same_length ∙ sym (length-take m offers));
      offered = λ k n e. let w = place-take m p k n e in subst (λ (o : List ℕ). Contains o n) (sym (get_or-take m offers k [] w.0)) (h.offered k n w.1);
      within = λ n. let a = sum_by-take-le (λ o. cond (is_at n o) 1 0) p m in let b = h.within n in omega arith;
    }

pub placement_append : (m : ℕ) (offers : List (List ℕ)) (room : ℕ → ℕ) (q rest : List (Option ℕ)) → IsPlacement (take m offers) room q → length rest + m ≡ length offers → ((k : ℕ) → place_of rest k ≡ None) → IsPlacement offers room (q ++ rest)
placement_append m offers room q rest h long none =
    record {
      same_length = omega (arith, length-append q rest, lq);
      offered = λ k n e. go k n e (cases_lt k m);
      within = λ n. let a = taken-append q rest n in let b = none_taken rest n none in let c = h.within n in omega arith;
    }
  where
    lq : length q ≡ m
    lq = let a = length-take m offers in let b = h.same_length in omega arith

    go : (k n : ℕ) → place_of (q ++ rest) k ≡ Some n → (k < m) ⊎ (m ≤ k) → Offers offers k n
    go k n e (inl b) = subst (λ (o : List ℕ). Contains o n) (get_or-take m offers k [] b) (h.offered k n (sym (get_or_append_left q rest None k (let l = lq in omega arith)) ∙ e))
    go k n e (inr past) = no_some (place_of (q ++ rest) k) (get_or-append_right q rest m k None lq past ∙ none (k - m)) e

-- only what is reached matters
pub stuck_same : (offers : List (List ℕ)) (room : ℕ → ℕ) (p : List (Option ℕ)) (r s : List Bool) (l : ℕ) → ((k : ℕ) → is_reached r k ≡ is_reached s k) → IsStuck offers room p r l → IsStuck offers room p s l
stuck_same offers room p r s l same h =
    record {
      within_links = h.within_links;
      begins = sym (same l) ∙ h.begins;
      unplaced = h.unplaced;
      full = λ k n e o. h.full k n (same k ∙ e) o;
      holders = λ k j n e o at. sym (same j) ∙ h.holders k j n (same k ∙ e) o at;
    }

-- what was reached among the first links, with the others after them
pub reached_front : (m : ℕ) (r s : List Bool) → length r ≡ m → ((k : ℕ) → is_reached s k ≡ false) → (k : ℕ) → is_reached r k ≡ is_reached (r ++ s) k
reached_front m r s long none k = go (cases_lt k m)
  where
    go : (k < m) ⊎ (m ≤ k) → is_reached r k ≡ is_reached (r ++ s) k
    go (inl b) = sym (get_or_append_left r s false k (omega arith))
    go (inr past) = get_or_past r k false (omega arith) ∙ sym (get_or-append_right r s m k false long past ∙ none (k - m))

pub placed_within : (p : List (Option ℕ)) (i n : ℕ) → place_of p i ≡ Some n → i < length p
placed_within p i n e = go (cases_lt i (length p))
  where
    go : (i < length p) ⊎ (length p ≤ i) → i < length p
    go (inl b) = b
    go (inr past) = no_some (place_of p i) (get_or_past p i None past) e
