-- What a function keeps of a list, one element after another.
use Rattle.std.proofs.Common.{◌≡◌, ◌∙◌, ℕ, suc, ◌+◌, ◌<◌, ◌≤◌, List, [], ◌∷◌, ◌++◌, length, drop, get_or, Option, Some, None, sym, ap, drop-cons, add-one, append_assoc, append-nil}
use Rattle.std.specs.List.{filter_map, cons_option}
use Rattle.std.proofs.lemmas.List.{drop_all}

module _ {B C : Type 0} (f : B → Option C) where
  -- those that are kept, with what is still to come
  pub more_kept : (list after : List C) (xs : List B) (i : ℕ) (x : B) (a : C) → list ++ filter_map f (drop i xs) ≡ filter_map f xs → i < length xs → x ≡ get_or xs i x → Some a ≡ f x → after ≡ list ++ a ∷ []
      → after ++ filter_map f (drop (i + 1) xs) ≡ filter_map f xs
  more_kept list after xs i x a so l at is e =
      let here : drop i xs ≡ x ∷ drop (suc i) xs = drop-cons xs i x l ∙ ap (λ y. y ∷ drop (suc i) xs) (sym at) in
      let kept : cons_option (f x) (filter_map f (drop (suc i) xs)) ≡ a ∷ filter_map f (drop (suc i) xs) = ap (λ o. cons_option o (filter_map f (drop (suc i) xs))) (sym is) in
      rw (e, append_assoc list (a ∷ []) (filter_map f (drop (i + 1) xs)), add-one) (ap (λ ys. list ++ ys) (sym (ap (filter_map f) here ∙ kept)) ∙ so)

  pub none_kept : (list : List C) (xs : List B) (i : ℕ) (x : B) → list ++ filter_map f (drop i xs) ≡ filter_map f xs → i < length xs → x ≡ get_or xs i x → None ≡ f x → list ++ filter_map f (drop (i + 1) xs) ≡ filter_map f xs
  none_kept list xs i x so l at is =
      let here : drop i xs ≡ x ∷ drop (suc i) xs = drop-cons xs i x l ∙ ap (λ y. y ∷ drop (suc i) xs) (sym at) in
      let kept : cons_option (f x) (filter_map f (drop (suc i) xs)) ≡ filter_map f (drop (suc i) xs) = ap (λ o. cons_option o (filter_map f (drop (suc i) xs))) (sym is) in
      rw add-one (ap (λ ys. list ++ ys) (sym (ap (filter_map f) here ∙ kept)) ∙ so)

  pub all_kept : (list : List C) (xs : List B) (i : ℕ) → list ++ filter_map f (drop i xs) ≡ filter_map f xs → length xs ≤ i → list ≡ filter_map f xs
  all_kept list xs i so l = sym (append-nil list) ∙ (sym (ap (λ ys. list ++ filter_map f ys) (drop_all i xs l)) ∙ so)

pub ruleset keeping = (more_kept, none_kept, all_kept)
