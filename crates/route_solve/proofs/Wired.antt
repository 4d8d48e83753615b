-- Wired interrupts in ascending order.
use Rattle.std.proofs.Common.{◌≡◌, ℕ, zero, suc, ◌<◌, ◌≤◌, Bool, true, false, List, [], ◌∷◌, length, map, refl, sym, ap, ◌∙◌, ◌+◌, arith, get_or, inl, inr}
use Rattle.std.specs.Prelude.{◌⊎◌, ◌==◌, if◌then◌else◌, sum_by}
use Rattle.std.specs.List.Sorted.{IsStrictlyIncreasing}
use Rattle.std.proofs.lemmas.List.{length-map, get_or-map}
use Rattle.std.proofs.lemmas.List.Kept.{AllPairs-from_increasing}
use Rattle.std.proofs.lemmas.Bool.{cases_order}
use Rattle.std.proofs.lemmas.List.Sums.{sum_by-cons, sum_by-le-sum_by}
use Rattle.std.proofs.lemmas.Bool.{eq-eqb, ne_eqb}
use Rattle.route_model.specs.Routing.{wired_to}
use Rattle.route_model.proofs.Hall.{zero_or_more}
use Rattle.route_model.proofs.Loads.{wired_somewhere}

-- no interrupt of the list is wired twice
pub once : (wired : List (ℕ × ℕ)) → IsStrictlyIncreasing (map (λ w. w.0) wired) → (i j : ℕ) → i < j → j < length wired → (get_or wired i (0, 0)).0 < (get_or wired j (0, 0)).0
once wired up i j lt b =
    let l = length-map wired (λ (w : ℕ × ℕ). w.0) in
    let f = AllPairs-from_increasing (map (λ (w : ℕ × ℕ). w.0) wired) up i j 0 lt (omega arith) in
    let a = get_or-map (λ (w : ℕ × ℕ). w.0) wired i (0, 0) 0 (omega arith) in
    let d = get_or-map (λ (w : ℕ × ℕ). w.0) wired j (0, 0) 0 b in
    omega arith

-- the count of each stands beside it
pub wired_at : (wired : List (ℕ × ℕ)) → ((i j : ℕ) → i < j → j < length wired → (get_or wired i (0, 0)).0 < (get_or wired j (0, 0)).0) → (k : ℕ) → k < length wired → wired_to wired (get_or wired k (0, 0)).0 ≡ (get_or wired k (0, 0)).1
wired_at [] up k b = absurd (omega arith)
wired_at (w ∷ ws) up zero b =
    let whole = sum_by-cons (λ (v : ℕ × ℕ). if v.0 == w.0 then v.1 else 0) w ws in
    let here = ap (λ b. if b then w.1 else 0) (eq-eqb w.0 w.0 refl) in
    let none = rest (zero_or_more (wired_to ws w.0)) in
    omega arith
  where
    rest : (wired_to ws w.0 ≡ 0) ⊎ (0 < wired_to ws w.0) → wired_to ws w.0 ≡ 0
    rest (inl z) = z
    rest (inr more) =
        let at = wired_somewhere ws w.0 more in
        let u = up 0 (suc at.0) (omega arith) (let c = at.1 in omega arith) in
        let e = at.2 in
        absurd (omega arith)
wired_at (w ∷ ws) up (suc k) b =
    let n = (get_or ws k (0, 0)).0 in
    let whole = sum_by-cons (λ (v : ℕ × ℕ). if v.0 == n then v.1 else 0) w ws in
    let u = up 0 (suc k) (omega arith) b in
    let here = ap (λ b. if b then w.1 else 0) (ne_eqb w.0 n (λ e. omega arith)) in
    let ih = wired_at ws (λ i j lt c. up (suc i) (suc j) (omega arith) (omega arith)) k (omega arith) in
    omega arith

part : (b : Bool) (n : ℕ) → (if b then n else 0) ≤ n
part true n = omega arith
part false n = omega arith

-- no count is above the sum of all
pub wired_small : (wired : List (ℕ × ℕ)) (i : ℕ) → wired_to wired i ≤ sum_by (λ w. w.1) wired
wired_small wired i = sum_by-le-sum_by (λ w. if w.0 == i then w.1 else 0) (λ w. w.1) wired (λ w. part (w.0 == i) w.1)

-- ---- an interrupt looked for by halves

module _ (wired : List (ℕ × ℕ)) (up : IsStrictlyIncreasing (map (λ w. w.0) wired)) (n : ℕ) where
  pub earlier_wired : (i : ℕ) → i < length wired → (get_or wired i (0, 0)).0 < n → (k : ℕ) → k < i + 1 → (get_or wired k (0, 0)).0 < n
  earlier_wired i b less k lt = go (cases_order k i)
    where
      go : (k ≡ i) ⊎ ((k < i) ⊎ (i < k)) → (get_or wired k (0, 0)).0 < n
      go (inl e) = rw e less
      go (inr (inl before)) = let f = once wired up k i before b in omega arith
      go (inr (inr after)) = absurd (omega arith)

  pub later_wired : (i : ℕ) → n < (get_or wired i (0, 0)).0 → (k : ℕ) → i ≤ k → k < length wired → n < (get_or wired k (0, 0)).0
  later_wired i more k le b = go (cases_order k i)
    where
      go : (k ≡ i) ⊎ ((k < i) ⊎ (i < k)) → n < (get_or wired k (0, 0)).0
      go (inl e) = rw e more
      go (inr (inl before)) = absurd (omega arith)
      go (inr (inr after)) = let f = once wired up i k after b in omega arith

  pub count_there : (i : ℕ) → i < length wired → (get_or wired i (0, 0)).0 ≡ n → wired_to wired n ≡ (get_or wired i (0, 0)).1
  count_there i b is = ap (wired_to wired) (sym is) ∙ wired_at wired (once wired up) i b

  pub none_wired : (m : ℕ) → ((k : ℕ) → k < m → (get_or wired k (0, 0)).0 < n) → ((k : ℕ) → m ≤ k → k < length wired → n < (get_or wired k (0, 0)).0) → wired_to wired n ≡ 0
  none_wired m below above = go (zero_or_more (wired_to wired n))
    where
      at : (k : ℕ) → k < length wired → (get_or wired k (0, 0)).0 ≡ n → (k ≡ m) ⊎ ((k < m) ⊎ (m < k)) → wired_to wired n ≡ 0
      at k b is (inl e) = let f = above k (omega arith) b in absurd (omega arith)
      at k b is (inr (inl less)) = let f = below k less in absurd (omega arith)
      at k b is (inr (inr more)) = let f = above k (omega arith) b in absurd (omega arith)

      go : (wired_to wired n ≡ 0) ⊎ (0 < wired_to wired n) → wired_to wired n ≡ 0
      go (inl z) = z
      go (inr more) = let w = wired_somewhere wired n more in at w.0 w.1 w.2 (cases_order w.0 m)
