-- How many links have each interrupt, as one link gets another.
use Rattle.std.proofs.Common.{◌≡◌, ◌≢◌, ℕ, ◌+◌, ◌-◌, ◌<◌, ◌≤◌, List, length, refl, sym, ◌∙◌, ap, arith, Option, Some, None, set, take, inl, inr, get_or-set_same, get_or-set_other, length-set}
use Rattle.std.specs.Prelude.{◌⊎◌}
use Rattle.std.proofs.lemmas.Bool.{cases_eq, eq-eqb, ne_eqb}
use Rattle.std.proofs.lemmas.List.Sums.{count_by-le-length, sum_by_more}
use Rattle.route_model.specs.Placement.{is_at, place_of, taken}
use Rattle.route_model.proofs.Counting.{one_if}
use Rattle.route_solve.specs.Capacities.{at, IsCounted}
use Rattle.route_solve.proofs.Exchange.{taken-set}

pub one_at : (n : ℕ) → one_if (is_at n (Some n)) ≡ 1
one_at n = ap one_if (eq-eqb n n refl)

pub none_at_other : (n m : ℕ) → n ≢ m → one_if (is_at m (Some n)) ≡ 0
none_at_other n m ne = ap one_if (ne_eqb n m ne)

-- a link that has an interrupt is counted there
pub held_counted : (p : List (Option ℕ)) (l x : ℕ) → l < length p → place_of p l ≡ Some x → 0 < taken p x
held_counted p l x b h =
    let e = taken-set p l None x b in
    let f = ap (λ o. one_if (is_at x o)) h in
    let g = one_at x in
    omega arith

-- counts that are right stay right
pub counted_less : (counts : List ℕ) (p : List (Option ℕ)) (l x : ℕ) → l < length p → x < length counts → place_of p l ≡ Some x → IsCounted counts p → IsCounted (set counts x (at counts x - 1)) (set p l None)
counted_less counts p l x bl bx held counted m bm = go (cases_eq m x)
  where
    few : m < length counts
    few = let e = length-set counts x (at counts x - 1) in omega arith

    was : one_if (is_at m (place_of p l)) ≡ one_if (is_at m (Some x))
    was = ap (λ o. one_if (is_at m o)) held

    some : 0 < taken p x
    some = held_counted p l x bl held

    go : (m ≡ x) ⊎ (m ≡ x → ⊥) → at (set counts x (at counts x - 1)) m ≡ taken (set p l None) m
    go (inl e) =
        let f : at (set counts x (at counts x - 1)) m ≡ at counts x - 1 = ap (at (set counts x (at counts x - 1))) e ∙ get_or-set_same counts x (at counts x - 1) 0 bx in
        let g : one_if (is_at m (Some x)) ≡ 1 = ap (λ k. one_if (is_at k (Some x))) e ∙ one_at x in
        let t = taken-set p l None m bl in
        let b : at counts m ≡ taken p m = counted m few in
        let c : at counts m ≡ at counts x = ap (at counts) e in
        let w = was in
        let s : taken p m ≡ taken p x = ap (taken p) e in
        let z = some in
        omega arith
    go (inr ne) =
        let f = get_or-set_other counts x m (at counts x - 1) 0 ne in
        let g = none_at_other x m (λ e. ne (sym e)) in
        let t = taken-set p l None m bl in
        let b : at counts m ≡ taken p m = counted m few in
        let w = was in
        omega arith

pub counted_more : (counts : List ℕ) (p : List (Option ℕ)) (l i : ℕ) → l < length p → i < length counts → place_of p l ≡ None → IsCounted counts p → IsCounted (set counts i (at counts i + 1)) (set p l (Some i))
counted_more counts p l i bl bi none counted m bm = go (cases_eq m i)
  where
    few : m < length counts
    few = let e = length-set counts i (at counts i + 1) in omega arith

    was : one_if (is_at m (place_of p l)) ≡ 0
    was = ap (λ o. one_if (is_at m o)) none

    go : (m ≡ i) ⊎ (m ≡ i → ⊥) → at (set counts i (at counts i + 1)) m ≡ taken (set p l (Some i)) m
    go (inl e) =
        let f : at (set counts i (at counts i + 1)) m ≡ at counts i + 1 = ap (at (set counts i (at counts i + 1))) e ∙ get_or-set_same counts i (at counts i + 1) 0 bi in
        let g : one_if (is_at m (Some i)) ≡ 1 = ap (λ k. one_if (is_at k (Some i))) e ∙ one_at i in
        let t = taken-set p l (Some i) m bl in
        let b : at counts m ≡ taken p m = counted m few in
        let c : at counts m ≡ at counts i = ap (at counts) e in
        let w = was in
        omega arith
    go (inr ne) =
        let f = get_or-set_other counts i m (at counts i + 1) 0 ne in
        let g = none_at_other i m (λ e. ne (sym e)) in
        let t = taken-set p l (Some i) m bl in
        let b : at counts m ≡ taken p m = counted m few in
        let w = was in
        omega arith

pub taken_few : (p : List (Option ℕ)) (n : ℕ) → taken p n ≤ length p
taken_few p n = count_by-le-length (is_at n) p

-- the next link is counted too
pub counted_next : (kept : List ℕ) (p : List (Option ℕ)) (l x : ℕ) → l < length p → x < length kept → place_of p l ≡ Some x → IsCounted kept (take l p) → IsCounted (set kept x (at kept x + 1)) (take (l + 1) p)
counted_next kept p l x bl bx held counted m bm = go (cases_eq m x)
  where
    few : m < length kept
    few = let e = length-set kept x (at kept x + 1) in omega arith

    more : taken (take (l + 1) p) m ≡ taken (take l p) m + one_if (is_at m (place_of p l))
    more = sum_by_more (λ o. one_if (is_at m o)) p l None bl

    was : one_if (is_at m (place_of p l)) ≡ one_if (is_at m (Some x))
    was = ap (λ o. one_if (is_at m o)) held

    go : (m ≡ x) ⊎ (m ≡ x → ⊥) → at (set kept x (at kept x + 1)) m ≡ taken (take (l + 1) p) m
    go (inl e) =
        let f : at (set kept x (at kept x + 1)) m ≡ at kept x + 1 = ap (at (set kept x (at kept x + 1))) e ∙ get_or-set_same kept x (at kept x + 1) 0 bx in
        let g : one_if (is_at m (Some x)) ≡ 1 = ap (λ k. one_if (is_at k (Some x))) e ∙ one_at x in
        let b : at kept m ≡ taken (take l p) m = counted m few in
        let c : at kept m ≡ at kept x = ap (at kept) e in
        let w = was in
        let t = more in
        omega arith
    go (inr ne) =
        let f = get_or-set_other kept x m (at kept x + 1) 0 ne in
        let g = none_at_other x m (λ e. ne (sym e)) in
        let b : at kept m ≡ taken (take l p) m = counted m few in
        let w = was in
        let t = more in
        omega arith
