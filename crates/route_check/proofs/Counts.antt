-- Counts of sources: of pins, each interrupt with one, and of the System Control Interrupt.
use Rattle.std.proofs.Common.{◌≡◌, ℕ, zero, suc, ◌+◌, ◌<◌, Bool, true, false, List, [], ◌∷◌, ◌++◌, Option, Some, None, length, refl, sym, ◌∙◌, ap, arith, get_or, eqb-true, inl, inr}
use Rattle.std.specs.Prelude.{◌==◌, ◌⊎◌, Contains, option_to_list, if◌then◌else◌}
use Rattle.std.proofs.lemmas.Bool.{eq-eqb}
use Rattle.std.proofs.lemmas.List.{length-map, get_or-map}
use Rattle.std.proofs.lemmas.List.Sums.{sum_by-cons}
use Rattle.route_model.specs.Bound.{IsDistinct}
use Rattle.route_model.specs.Routing.{wired_to}
use Rattle.route_model.proofs.Hall.{zero_or_more}
use Rattle.route_model.proofs.Loads.{wired_somewhere}
use Rattle.route_check.specs.Valid.{keys_of, sci_counts}

wired_cons : (w : ℕ × ℕ) (ws : List (ℕ × ℕ)) (n : ℕ) → wired_to (w ∷ ws) n ≡ (if w.0 == n then w.1 else 0) + wired_to ws n
wired_cons w ws n = sum_by-cons (λ (v : ℕ × ℕ). if v.0 == n then v.1 else 0) w ws

key_at : (wired : List (ℕ × ℕ)) (k n : ℕ) → k < length wired → get_or (keys_of wired) k n ≡ (get_or wired k (0, 0)).0
key_at wired k n b = get_or-map (λ (w : ℕ × ℕ). w.0) wired k (0, 0) n b

pub none_wired : (wired : List (ℕ × ℕ)) (n : ℕ) → (Contains (keys_of wired) n → ⊥) → wired_to wired n ≡ 0
none_wired wired n none = go (zero_or_more (wired_to wired n))
  where
    go : (wired_to wired n ≡ 0) ⊎ (0 < wired_to wired n) → wired_to wired n ≡ 0
    go (inl e) = e
    go (inr more) =
        let w = wired_somewhere wired n more in
        let long = length-map wired (λ (v : ℕ × ℕ). v.0) in
        let b = w.1 in
        absurd (none (w.0, omega arith, key_at wired w.0 n w.1 ∙ w.2))

pub wired_at : (wired : List (ℕ × ℕ)) (i n : ℕ) → IsDistinct (keys_of wired) → i < length wired → (get_or wired i (0, 0)).0 ≡ n → wired_to wired n ≡ (get_or wired i (0, 0)).1
wired_at [] i n distinct b at = absurd (omega arith)
wired_at (w ∷ ws) zero n distinct b at =
    let long = length-map ws (λ (v : ℕ × ℕ). v.0) in
    let none : wired_to ws n ≡ 0 = none_wired ws n (λ c. let in' = c.1 in distinct 0 (suc c.0) n (omega arith) (omega arith) (at ∙ sym c.2)) in
    let one : (if w.0 == n then w.1 else 0) ≡ w.1 = ap (λ t. if t then w.1 else 0) (eq-eqb w.0 n at) in
    let all = wired_cons w ws n in
    omega arith
wired_at (w ∷ ws) (suc i) n distinct b at =
    let long = length-map ws (λ (v : ℕ × ℕ). v.0) in
    let rest = wired_at ws i n (λ j k d lt in'. distinct (suc j) (suc k) d (omega arith) (omega arith)) (omega arith) at in
    let all = wired_cons w ws n in
    go (w.0 == n) refl rest all
  where
    go : (t : Bool) → (w.0 == n) ≡ t → wired_to ws n ≡ (get_or ws i (0, 0)).1 → wired_to (w ∷ ws) n ≡ (if w.0 == n then w.1 else 0) + wired_to ws n → wired_to (w ∷ ws) n ≡ (get_or ws i (0, 0)).1
    go true e rest all =
        let long = length-map ws (λ (v : ℕ × ℕ). v.0) in absurd (distinct 0 (suc i) n (omega arith) (omega arith) (eqb-true w.0 n e ∙ sym (key_at ws i n (omega arith) ∙ at)))
    go false e rest all = let none : (if w.0 == n then w.1 else 0) ≡ 0 = ap (λ t. if t then w.1 else 0) e in omega arith

-- the interrupts with counts: that of the System Control Interrupt, and those of the pins
pub keys_counted : (sci : Option ℕ) (wired : List (ℕ × ℕ)) → option_to_list sci ++ keys_of wired ≡ keys_of (sci_counts sci ++ wired)
keys_counted None wired = refl
keys_counted (Some n) wired = refl
