-- Maps by numbers.
use Rattle.std.proofs.Common.{◌≡◌, ℕ, true, false, cond, Some, None, refl, ap, ◌∙◌}
use Rattle.std.proofs.lemmas.Bool.{eq-eqb, ne_eqb}
use Rattle.std.specs.FinMap.{FinMap, get, insert, remove, get-insert, get-remove, same_map, nat_cmp-IsAntisymmetric}
use Rattle.std.specs.Ordering.{nat_cmp, eq_by_cmp}
use Rattle.std.specs.Cmp.{nat_cmp_total, unsigned_tied}

pub here : (q : ℕ) → eq_by_cmp nat_cmp q q ≡ true
here q = unsigned_tied q q ∙ eq-eqb q q refl

pub apart : (q k : ℕ) → (q ≡ k → ⊥) → eq_by_cmp nat_cmp q k ≡ false
apart q k ne = unsigned_tied q k ∙ ne_eqb q k ne

module _ {X : Type 0} (m : FinMap nat_cmp X) where
  pub insert_here : (k : ℕ) (x : X) → get (insert m k x) k ≡ Some x
  insert_here k x = get-insert nat_cmp_total m k x k ∙ ap (λ b. cond b (Some x) (get m k)) (here k)

  pub insert_apart : (k : ℕ) (x : X) (q : ℕ) → (q ≡ k → ⊥) → get (insert m k x) q ≡ get m q
  insert_apart k x q ne = get-insert nat_cmp_total m k x q ∙ ap (λ b. cond b (Some x) (get m q)) (apart q k ne)

  pub remove_here : (k : ℕ) → get (remove m k) k ≡ None
  remove_here k = get-remove nat_cmp_total m k k ∙ ap (λ b. cond b None (get m k)) (here k)

  pub remove_apart : (k q : ℕ) → (q ≡ k → ⊥) → get (remove m k) q ≡ get m q
  remove_apart k q ne = get-remove nat_cmp_total m k q ∙ ap (λ b. cond b None (get m q)) (apart q k ne)

  pub same_numbers : (n : FinMap nat_cmp X) → ((q : ℕ) → get m q ≡ get n q) → m ≡ n
  same_numbers n h = same_map nat_cmp_total nat_cmp-IsAntisymmetric m n h
