-- Lists that go on by one line.
use Rattle.std.proofs.Common.{◌≡◌, ℕ, suc, ◌+◌, ◌<◌, ◌≤◌, List, [], ◌∷◌, ◌++◌, length, map, Option, Some, None, drop, get_or, refl, ◌∙◌, sym, ap, drop-cons, add-one, append_assoc, append-nil}
use Rattle.std.proofs.lemmas.List.{drop_all, map-append, get_or_default}
use Rattle.std.specs.List.{filter_map}
use Rattle.std.proofs.lemmas.List.Elements.{filter_map-append}
use Rattle.ar_space.specs.Outcome.{Outcome, Answers}
use Rattle.std.proofs.Common.{Ok}

module _ {A B C : Type 0} (view : A → C) (f : B → C) where
  -- what is seen of the lines so far, and the rest
  pub more : (list after : List A) (xs : List B) (i : ℕ) (a : A) (x : B)
      → map view list ++ map f (drop i xs) ≡ map f xs → i < length xs → x ≡ get_or xs i x → after ≡ list ++ a ∷ [] → view a ≡ f x
      → map view after ++ map f (drop (i + 1) xs) ≡ map f xs
  more list after xs i a x so l at e v =
      let here : drop i xs ≡ x ∷ drop (suc i) xs = drop-cons xs i x l ∙ ap (λ y. y ∷ drop (suc i) xs) (sym at) in
      rw (e, map-append view list (a ∷ []), append_assoc (map view list) (view a ∷ []) (map f (drop (i + 1) xs)), v, add-one) (ap (λ ys. map view list ++ map f ys) (sym here) ∙ so)

  pub end : (list : List A) (xs : List B) (i : ℕ) → map view list ++ map f (drop i xs) ≡ map f xs → length xs ≤ i → map view list ≡ map f xs
  end list xs i so l = sym (append-nil (map view list)) ∙ (sym (ap (λ ys. map view list ++ map f ys) (drop_all i xs l)) ∙ so)

pub answer-is : {A : Type 0} (a b : A) → a ≡ b → Answers (Ok a) (Ok b)
answer-is a b e = record { is = λ _. ap Ok (sym e) }

map-same : {A : Type 0} (xs : List A) → map (λ x. x) xs ≡ xs
map-same [] = refl
map-same (x ∷ xs) = ap (λ ys. x ∷ ys) (map-same xs)

module _ {B C : Type 0} (f : B → C) where
  -- the same, where the lines are seen as they are
  pub more_plain : (list after : List C) (xs : List B) (i : ℕ) (a : C) (x : B)
      → list ++ map f (drop i xs) ≡ map f xs → i < length xs → x ≡ get_or xs i x → after ≡ list ++ a ∷ [] → a ≡ f x
      → after ++ map f (drop (i + 1) xs) ≡ map f xs
  more_plain list after xs i a x so l at e v =
      let here : drop i xs ≡ x ∷ drop (suc i) xs = drop-cons xs i x l ∙ ap (λ y. y ∷ drop (suc i) xs) (sym at) in
      rw (e, append_assoc list (a ∷ []) (map f (drop (i + 1) xs)), v, add-one) (ap (λ ys. list ++ map f ys) (sym here) ∙ so)

  pub end_plain : (list : List C) (xs : List B) (i : ℕ) → list ++ map f (drop i xs) ≡ map f xs → length xs ≤ i → list ≡ map f xs
  end_plain list xs i so l = sym (append-nil list) ∙ (sym (ap (λ ys. list ++ map f ys) (drop_all i xs l)) ∙ so)

-- the same, for each of some numbers
pub more_numbers : {C : Type 0} (f : ℕ → C) (list after : List C) (xs : List ℕ) (i : ℕ) (a : C)
    → list ++ map f (drop i xs) ≡ map f xs → i < length xs → after ≡ list ++ a ∷ [] → a ≡ f (get_or xs i 0)
    → after ++ map f (drop (i + 1) xs) ≡ map f xs
more_numbers f list after xs i a so l e v = more_plain f list after xs i a (get_or xs i 0) so l (get_or_default xs i 0 (get_or xs i 0) l) e v

module _ {B C : Type 0} (f : B → Option C) where
  pub kept : (list after : List C) (xs : List B) (x : B) (a : C) → list ≡ filter_map f xs → Some a ≡ f x → after ≡ list ++ a ∷ [] → after ≡ filter_map f (xs ++ x ∷ [])
  kept list after xs x a so is e = rw (e, so, filter_map-append f xs (x ∷ []), ← is) refl

  pub passed : (list : List C) (xs : List B) (x : B) → list ≡ filter_map f xs → None ≡ f x → list ≡ filter_map f (xs ++ x ∷ [])
  passed list xs x so is = rw (so, filter_map-append f xs (x ∷ []), ← is) (sym (append-nil (filter_map f xs)))
