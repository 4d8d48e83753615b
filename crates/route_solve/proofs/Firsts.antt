use Rattle.std.proofs.Common.{◌≡◌, ℕ, ◌<◌, List, [], length, sym, ◌∙◌, ap, subst, arith, Option, Some, None, get_or, take, inl, inr}
use Rattle.std.specs.Prelude.{◌⊎◌, Contains, AllPairs}
use Rattle.std.proofs.lemmas.List.{get_or-take, take-take, get_or_default}
use Rattle.std.proofs.lemmas.Bool.{cases_order}
use Rattle.route_model.specs.Placement.{place_of}
use Rattle.route_solve.specs.First.{Completes, IsLeastAt}

some_is : {m n : ℕ} → Some m ≡ Some n → m ≡ n
some_is e = cc

module _ (offers : List (List ℕ)) (room : ℕ → ℕ) where
  -- no number before the one at i can be completed, so none that is smaller
  pub least_from : (p : List (Option ℕ)) (l i : ℕ) (items : List ℕ) → items ≡ get_or offers l [] → AllPairs (λ m n. m < n) (get_or offers l []) → i < length items → place_of p l ≡ Some (get_or items i 0) → ((k : ℕ) → k < i → Completes offers room (take l p) (get_or items k 0) → ⊥) → IsLeastAt offers room p l
  least_from p l i items same ascending b at closed x n e o less completes =
      let there = subst (λ (xs : List ℕ). Contains xs n) (sym same) o in
      let is : get_or items there.0 0 ≡ n = get_or_default items there.0 0 n there.1 ∙ there.2 in
      let top : get_or items i 0 ≡ x = some_is (sym at ∙ e) in
      go there.0 there.1 is top (cases_order i there.0)
    where
      pairs : AllPairs (λ x y. x < y) items
      pairs = subst (AllPairs (λ m n. m < n)) (sym same) ascending

      go : (k : ℕ) → k < length items → get_or items k 0 ≡ n → get_or items i 0 ≡ x → (i ≡ k) ⊎ ((i < k) ⊎ (k < i)) → ⊥
      go k bk is top (inl e) = let f = ap (λ j. get_or items j 0) e in absurd (omega arith)
      go k bk is top (inr (inl lt)) = let f = pairs i k 0 lt bk in absurd (omega arith)
      go k bk is top (inr (inr gt)) = closed k gt (subst (Completes offers room (take l p)) (sym is) completes)

  -- a change after the first links leaves them
  pub least_kept : (p q : List (Option ℕ)) (l k : ℕ) → k < l → take l q ≡ take l p → IsLeastAt offers room p k → IsLeastAt offers room q k
  least_kept p q l k b same h x n e o less completes =
      let front : take k q ≡ take k p = sym (take-take k l q (omega arith)) ∙ (ap (take k) same ∙ take-take k l p (omega arith)) in
      let place : place_of q k ≡ place_of p k = sym (get_or-take l q k None b) ∙ (ap (λ (r : List (Option ℕ)). get_or r k None) same ∙ get_or-take l p k None b) in
      h x n (sym place ∙ e) o less (subst (λ (f : List (Option ℕ)). Completes offers room f n) front completes)
