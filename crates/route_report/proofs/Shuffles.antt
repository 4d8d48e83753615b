-- What is made of a list element by element, where two elements may come in either order.
use Rattle.std.proofs.Common.{◌≡◌, ℕ, zero, suc, ◌<◌, List, [], ◌∷◌, length, refl, sym, ◌∙◌, ap, arith, get_or, set}
use Rattle.std.specs.List.{swap}
use Rattle.std.specs.List.Sorted.{IsPermutation}
use Rattle.std.proofs.lemmas.List.{get_or_default}
use Rattle.std.proofs.lemmas.List.Sorted.{IsPermutation-keeps}

module _ {X S : Type 0} (all : List X → S) (one : X → S → S) (step : (x : X) (xs : List X) → all (x ∷ xs) ≡ one x (all xs)) (commute : (x y : X) (s : S) → one x (one y s) ≡ one y (one x s)) where
  second : (x y : X) (xs : List X) → one x (all (y ∷ xs)) ≡ one y (all (x ∷ xs))
  second x y xs = ap (one x) (step y xs) ∙ (commute x y (all xs) ∙ sym (ap (one y) (step x xs)))

  -- one element in another's place
  replaced : (x y : X) (l : List X) (j : ℕ) → j < length l → get_or l j y ≡ y → one y (all (set l j x)) ≡ one x (all l)
  replaced x y [] j b e = absurd (omega arith)
  replaced x y (z ∷ zs) zero b e = second y x zs ∙ ap (λ u. one x (all (u ∷ zs))) (sym e)
  replaced x y (z ∷ zs) (suc j) b e =
      second y z (set zs j x) ∙ (ap (one z) (step y (set zs j x) ∙ (replaced x y zs j (omega arith) e ∙ sym (step x zs))) ∙ second z x zs)

  exchanged : (d : X) (l : List X) (i j : ℕ) → i < length l → j < length l → all (set (set l i (get_or l j d)) j (get_or l i d)) ≡ all l
  exchanged d [] i j bi bj = absurd (omega arith)
  exchanged d (a ∷ l) zero zero bi bj = refl
  exchanged d (a ∷ l) zero (suc j) bi bj = step _ _ ∙ (replaced a (get_or l j d) l j (omega arith) (get_or_default l j (get_or l j d) d (omega arith)) ∙ sym (step a l))
  exchanged d (a ∷ l) (suc i) zero bi bj = step _ _ ∙ (replaced a (get_or l i d) l i (omega arith) (get_or_default l i (get_or l i d) d (omega arith)) ∙ sym (step a l))
  exchanged d (a ∷ l) (suc i) (suc j) bi bj = step _ _ ∙ (ap (one a) (exchanged d l i j (omega arith) (omega arith)) ∙ sym (step a l))

  swapped : (l : List X) (i j : ℕ) → i < length l → j < length l → all (swap l i j) ≡ all l
  swapped [] i j bi bj = absurd (omega arith)
  swapped (d ∷ ys) i j bi bj = exchanged d (d ∷ ys) i j bi bj

  -- the order of the elements says nothing
  pub shuffled : (xs ys : List X) → IsPermutation xs ys → all ys ≡ all xs
  shuffled xs = IsPermutation-keeps xs (λ l. all l ≡ all xs) refl (λ l i j bi bj h. swapped l i j bi bj ∙ h)
