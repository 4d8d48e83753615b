-- Links share interrupts as little as they can, as a whole.
use Rattle.std.specs.Prelude.{◌≡◌, ℕ, ◌+◌, ◌-◌, ◌<◌, ◌≤◌, Bool, List, length, cond, ltb, sum_by, count_by, slice_index_or}
use Rattle.route_model.specs.Routing.{given, load, IsAssignment}
use Rattle.route_model.specs.Placement.{Offers}

-- the sum over some interrupts of max(0, load - k): their sources above k
abbrev pub excess : List (ℕ × ℕ) → List ℕ → List ℕ → ℕ → ℕ
excess wired numbers a k = sum_by (λ n. load wired a n - k) numbers

-- each offered interrupt stands once among some numbers
abbrev pub HasOffered : List (List ℕ) → List ℕ → Type 0
HasOffered offers numbers = (l n : ℕ) → Offers offers l n → given numbers n ≡ 1

-- For each k, the sum over interrupts of max(0, load - k) is the least of any assignment: over all that are offered,
-- and any others.
pub record IsLeastShared (offers : List (List ℕ)) (wired : List (ℕ × ℕ)) (a : List ℕ) : Type 0 where
  pub offered : IsAssignment offers a
  pub least : (numbers b : List ℕ) (k : ℕ) → HasOffered offers numbers → IsAssignment offers b → excess wired numbers a k ≤ excess wired numbers b k

-- how many interrupts have more than k sources
abbrev pub busier : List (ℕ × ℕ) → List ℕ → List ℕ → ℕ → ℕ
busier wired numbers a k = count_by (λ n. ltb k (load wired a n)) numbers

-- The loads of one assignment, sorted from the greatest down, don't come after those of another: where as many interrupts have
-- more than m sources for every m above k, no more have more than k.
abbrev pub NotBusier : List (ℕ × ℕ) → List ℕ → List ℕ → List ℕ → Type 0
NotBusier wired numbers a b = (k : ℕ) → ((m : ℕ) → k < m → busier wired numbers a m ≡ busier wired numbers b m) → busier wired numbers a k ≤ busier wired numbers b k

-- the load of an interrupt, and one more where it is raised
abbrev pub height : List (ℕ × ℕ) → (ℕ → Bool) → List ℕ → ℕ → ℕ
height wired raised a n = load wired a n + cond (raised n) 1 0

-- No link offers an interrupt that is lower, with some raised by one, than the one that it is given.
pub record IsLevelled (offers : List (List ℕ)) (wired : List (ℕ × ℕ)) (raised : ℕ → Bool) (a : List ℕ) : Type 0 where
  pub offered : IsAssignment offers a
  pub not_lower : (l n : ℕ) → l < length a → Offers offers l n → height wired raised a (slice_index_or a l 0) ≤ height wired raised a n
