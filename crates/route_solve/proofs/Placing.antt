-- One link more has an interrupt.
use Rattle.std.proofs.Common.{◌≡◌, ℕ, ◌+◌, ◌<◌, ◌≤◌, List, [], length, arith, Option, Some, None, set, replicate, inl, inr}
use Rattle.std.specs.Prelude.{◌⊎◌}
use Rattle.std.proofs.lemmas.Bool.{cases_lt}
use Rattle.std.proofs.lemmas.List.{get_or-replicate, length-replicate, get_or_past}
use Rattle.route_model.specs.Placement.{place_of, Offers, IsPlacement}
use Rattle.route_solve.specs.Capacities.{at, capacity_at}
use Rattle.route_solve.proofs.Exchange.{moved_directly}
use Rattle.route_solve.proofs.Parts.{none_taken}

none_is : {A : Type 0} {x : ℕ} (o : Option ℕ) → o ≡ None → o ≡ Some x → A
none_is o e f = cc

-- no link has one
pub placed_none : (offers : List (List ℕ)) (room : ℕ → ℕ) (p : List (Option ℕ)) → length p ≡ length offers → ((k : ℕ) → place_of p k ≡ None) → IsPlacement offers room p
placed_none offers room p long none = record { same_length = long; offered = λ k n e. none_is (place_of p k) (none k) e; within = λ n. let e = none_taken p n none in omega arith }

-- within a limit of one more each number that links have has room for one more
pub raised : (offers : List (List ℕ)) (sources : List ℕ) (limit : ℕ) (p : List (Option ℕ)) (l i : ℕ) → ((j : ℕ) → at sources j ≤ limit) → l < length p → IsPlacement offers (capacity_at limit sources) p → Offers offers l i → IsPlacement offers (capacity_at (limit + 1) sources) (set p l (Some i))
raised offers sources limit p l i below b placed offered =
    let wider : IsPlacement offers (capacity_at (limit + 1) sources) p = record { same_length = placed.same_length; offered = placed.offered; within = λ n. let w = placed.within n in omega arith } in
    (moved_directly offers (capacity_at (limit + 1) sources) p [] l i b wider offered (let w = placed.within i in let s = below i in omega arith)).placed

pub zero_there : (n k : ℕ) → at (replicate n 0) k ≡ 0
zero_there n k = go (cases_lt k n)
  where
    zeros : List ℕ
    zeros = replicate n 0

    go : (k < n) ⊎ (n ≤ k) → at (replicate n 0) k ≡ 0
    go (inl b) = get_or-replicate n k 0 0 b
    go (inr past) = get_or_past (replicate n 0) k 0 (let e : length zeros ≡ n = length-replicate n 0 in omega arith)
