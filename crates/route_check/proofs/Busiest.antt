-- Links are counted at the interrupts that are given, and wired sources alone at all others.
use Rattle.std.proofs.Common.{◌≡◌, ℕ, ◌<◌, ◌≤◌, List, [], ◌∷◌, ◌++◌, map, max, refl, ◌∙◌, ap, arith, get_or, eqb-true, inl, inr}
use Rattle.std.specs.Prelude.{◌==◌, ◌⊎◌}
use Rattle.std.proofs.lemmas.List.{get_or-map}
use Rattle.route_model.specs.Routing.{greatest, wired_to, given, load}
use Rattle.route_model.proofs.Hall.{counted_somewhere, zero_or_more}
use Rattle.route_model.proofs.Loads.{le-greatest}
use Rattle.route_check.proofs.Sums.{greatest_both}

-- a load is that of an interrupt that is given, or all of it is wired
within : (wired : List (ℕ × ℕ)) (a : List ℕ) (n : ℕ) → load wired a n ≤ max (greatest (map (load wired a) a)) (wired_to wired n)
within wired a n = go (zero_or_more (given a n))
  where
    go : (given a n ≡ 0) ⊎ (0 < given a n) → load wired a n ≤ max (greatest (map (load wired a) a)) (wired_to wired n)
    go (inl none) = omega arith
    go (inr some) =
        let at = counted_somewhere (λ m. m == n) 0 a some in
        let below = le-greatest (map (load wired a) a) at.0 in
        let there = get_or-map (load wired a) a at.0 0 0 at.1 in
        let same = ap (load wired a) (eqb-true (get_or a at.0 0) n at.2) in
        omega arith

pub given_or_wired : (wired : List (ℕ × ℕ)) (a ns : List ℕ) → greatest (map (load wired a) (a ++ ns)) ≡ max (greatest (map (load wired a) a)) (greatest (map (wired_to wired) ns))
given_or_wired wired a ns = greatest_both (load wired a) a ns ∙ rest ns
  where
    rest : (ms : List ℕ) → max (greatest (map (load wired a) a)) (greatest (map (load wired a) ms)) ≡ max (greatest (map (load wired a) a)) (greatest (map (wired_to wired) ms))
    rest [] = refl
    rest (m ∷ ms) = let ih = rest ms in let one = within wired a m in omega arith
