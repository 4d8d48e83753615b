-- Interrupts that no link is to be given.
use Rattle.std.specs.Prelude.{ℕ, ◌==◌, not, Bool, List, filter}
use Rattle.std.specs.List.{list_any, list_all}

abbrev pub is_avoided : List ℕ → ℕ → Bool
is_avoided avoid n = list_any (λ m. m == n) avoid

-- the other ones of some interrupts
unfoldable pub without : List ℕ → List ℕ → List ℕ
without avoid numbers = filter (λ n. not (is_avoided avoid n)) numbers

abbrev pub are_all_avoided : List ℕ → List ℕ → Bool
are_all_avoided avoid numbers = list_all (is_avoided avoid) numbers
