-- What is left of some interrupts without those that are avoided.
use Rattle.std.proofs.Common.{◌≡◌, ℕ, Bool, true, false, List, refl, sym, ◌∙◌, ap, get_or}
use Rattle.std.specs.Prelude.{◌↔◌, ◌==◌, not, IsTrue, Contains, All, filter}
use Rattle.std.specs.List.{list_any}
use Rattle.std.proofs.lemmas.Bool.{false≢true}
use Rattle.std.proofs.lemmas.List.Elements.{All-contains, Contains-get_or}
use Rattle.route_model.specs.Avoided.{is_avoided, without}
use Rattle.route_model.proofs.Filtered.{in_filter, from_filter, passes, any_contains, contains_any}

-- the answer of another test of the avoided interrupts
pub avoided_is : (avoid : List ℕ) (n : ℕ) (b : Bool) → IsTrue b ↔ Contains avoid n → b ≡ is_avoided avoid n
avoided_is avoid n true h = sym (contains_any n avoid (h.0 refl))
avoided_is avoid n false h = go (is_avoided avoid n) refl
  where
    go : (a : Bool) → is_avoided avoid n ≡ a → false ≡ a
    go true e = h.1 (any_contains n avoid e)
    go false e = refl

not_true : (b : Bool) → not b ≡ true → b ≡ false
not_true true e = absurd (false≢true e)
not_true false e = refl

pub is_left : (avoid numbers : List ℕ) (n : ℕ) → Contains numbers n → is_avoided avoid n ≡ false → Contains (without avoid numbers) n
unfolding without
is_left avoid numbers n c f = in_filter (λ m. not (is_avoided avoid m)) numbers n c (ap not f)

pub left_from : (avoid numbers : List ℕ) (n : ℕ) → Contains (without avoid numbers) n → Contains numbers n × (is_avoided avoid n ≡ false)
unfolding without
left_from avoid numbers n c =
    let p = λ (m : ℕ). not (is_avoided avoid m) in
    (from_filter p numbers n c, not_true (is_avoided avoid n) (passes p numbers n c))

pub left_tells : (avoid numbers : List ℕ) (n : ℕ) → Contains numbers n → IsTrue (not (is_avoided avoid n)) ↔ Contains (without avoid numbers) n
left_tells avoid numbers n c = (λ t. is_left avoid numbers n c (not_true (is_avoided avoid n) t), λ d. ap not (left_from avoid numbers n d).1)

-- what holds of all that is left holds of each interrupt that isn't avoided
pub all_left : (P : ℕ → Type 0) (avoid numbers : List ℕ) → All (λ n. is_avoided avoid n ≡ false → P n) numbers → All P (without avoid numbers)
all_left P avoid numbers h i d b =
    let n = get_or (without avoid numbers) i d in
    let from = left_from avoid numbers n (Contains-get_or (without avoid numbers) i d b) in
    All-contains (λ m. is_avoided avoid m ≡ false → P m) numbers n h from.0 from.1

pub from_left : (P : ℕ → Type 0) (avoid numbers : List ℕ) → All P (without avoid numbers) → All (λ n. is_avoided avoid n ≡ false → P n) numbers
from_left P avoid numbers h i d b f =
    let n = get_or numbers i d in
    All-contains P (without avoid numbers) n h (is_left avoid numbers n (Contains-get_or numbers i d b) f)
