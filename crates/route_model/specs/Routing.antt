-- An assignment gives each link one of the interrupts that it offers; the busiest interrupt of one serves the most sources.
use Rattle.std.specs.Prelude.{◌≡◌, ◌==◌, ℕ, ◌+◌, ◌<◌, ◌≤◌, ◌⊎◌, List, [], ◌∷◌, ◌++◌, map, max, sum_by, count_by, Contains, if◌then◌else◌}
use Rattle.std.specs.List.{AllZip}
use Rattle.std.specs.Prelude.{⊤}

-- the greatest of some numbers, 0 where there is none
abbrev pub greatest : List ℕ → ℕ
greatest [] = 0
greatest (x ∷ xs) = max x (greatest xs)

-- the sources wired to an interrupt
abbrev pub wired_to : List (ℕ × ℕ) → ℕ → ℕ
wired_to wired i = sum_by (λ w. if w.0 == i then w.1 else 0) wired

-- the links that are given an interrupt
abbrev pub given : List ℕ → ℕ → ℕ
given a i = count_by (λ n. n == i) a

abbrev pub load : List (ℕ × ℕ) → List ℕ → ℕ → ℕ
load wired a i = given a i + wired_to wired i

-- the greatest load of an interrupt that is given or wired
abbrev pub busiest : List (ℕ × ℕ) → List ℕ → ℕ
busiest wired a = greatest (map (load wired a) (a ++ map (λ w. w.0) wired))

-- one offered number for each link
abbrev pub IsAssignment : List (List ℕ) → List ℕ → Type 0
IsAssignment offers a = AllZip Contains offers a

-- compared link by link, smaller number first, the first comes before the second or is it
abbrev pub NotAfter : List ℕ → List ℕ → Type 0
NotAfter (x ∷ xs) (y ∷ ys) = (x < y) ⊎ ((x ≡ y) × NotAfter xs ys)
NotAfter _ _ = ⊤

pub record IsLeast (offers : List (List ℕ)) (wired : List (ℕ × ℕ)) (a : List ℕ) : Type 0 where
  pub offered : IsAssignment offers a
  pub least : (b : List ℕ) → IsAssignment offers b → busiest wired a ≤ busiest wired b

pub record IsFirstLeast (offers : List (List ℕ)) (wired : List (ℕ × ℕ)) (a : List ℕ) : Type 0 where
  pub is_least : IsLeast offers wired a
  pub first : (b : List ℕ) → IsLeast offers wired b → NotAfter a b
