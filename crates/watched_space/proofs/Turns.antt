-- A list that goes on by what a function makes of each element.
use Rattle.std.proofs.Common.{◌≡◌, ◌∙◌, ap, sym, ℕ, ◌+◌, ◌<◌, List, [], ◌∷◌, ◌++◌, length, take, map, get_or, append_assoc}
use Rattle.std.proofs.lemmas.List.{take_more, map-append}

pub put_more : {A C : Type 0} (f : A → C) (before list after : List C) (xs : List A) (i : ℕ) (x : A)
    → list ≡ before ++ map f (take i xs) → i < length xs → x ≡ get_or xs i x → after ≡ list ++ f x ∷ [] → after ≡ before ++ map f (take (i + 1) xs)
put_more f before list after xs i x so within is put =
    let next : take (i + 1) xs ≡ take i xs ++ x ∷ [] = take_more xs i x within ∙ ap (λ y. take i xs ++ y ∷ []) (sym is) in
    put ∙ ap (λ ys. ys ++ f x ∷ []) so ∙ append_assoc before (map f (take i xs)) (f x ∷ []) ∙ ap (λ ys. before ++ ys) (sym (map-append f (take i xs) (x ∷ [])) ∙ ap (map f) (sym next))
