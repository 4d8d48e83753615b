-- A loop that gives something for each of a list, or its first refusal.
use Rattle.std.specs.Prelude.{◌≡◌, ℕ, suc, ◌+◌, ◌<◌, ◌≤◌, List, [], ◌∷◌, ◌++◌, length, drop, map, slice_index_or, Ok, Err, refl}
use Rattle.std.proofs.Common.{sym, ap, append_assoc, append-nil, add-one, drop-cons}
use Rattle.std.proofs.lemmas.List.{drop_all}
use Rattle.ar_space.specs.declared.refusal.Refusal.{Refusal}
use Rattle.ar_space.specs.Outcome.{Outcome, ◌>>=◌}
use Rattle.ar_space.specs.Each.{each, following}

-- for each of a list that is seen by a view
pub each_map : {A B C : Type 0} (f : B → Outcome C) (view : A → B) (xs : List A) → each f (map view xs) ≡ each (λ x. f (view x)) xs
unfolding each
each_map f view [] = refl
each_map f view (x ∷ xs) = ap (λ rest. f (view x) >>= (λ y. rest >>= (λ ys. Ok (y ∷ ys)))) (each_map f view xs)

following_none : {B : Type 0} (m : Outcome (List B)) → m ≡ following [] m
unfolding following ◌>>=◌
following_none (Ok ys) = refl
following_none (Err e) = refl

following_one : {B : Type 0} (done : List B) (y : B) (m : Outcome (List B)) → following done (m >>= (λ ys. Ok (y ∷ ys))) ≡ following (done ++ y ∷ []) m
unfolding following ◌>>=◌
following_one done y (Ok ys) = ap Ok (sym (append_assoc done (y ∷ []) ys))
following_one done y (Err e) = refl

module _ {A B : Type 0} (f : A → Outcome B) where
  -- a loop over the list: at its start, at a turn that goes on, at one that refuses, and at its end
  pub each_start : (xs : List A) → each f xs ≡ following [] (each f xs)
  each_start xs = following_none (each f xs)

  turned : (x : A) (y : B) (xs : List A) (done : List B) → f x ≡ Ok y → following done (each f (x ∷ xs)) ≡ following (done ++ y ∷ []) (each f xs)
  unfolding each ◌>>=◌
  turned x y xs done is = rw is (following_one done y (each f xs))

  refused : (x : A) (e : Refusal) (xs : List A) (done : List B) → f x ≡ Err e → following done (each f (x ∷ xs)) ≡ Err e
  unfolding each following ◌>>=◌
  refused x e xs done is = rw is refl

  pub each_turn : (xs : List A) (i : ℕ) (d : A) (y : B) (done : List B) → i < length xs → f (slice_index_or xs i d) ≡ Ok y
      → following done (each f (drop i xs)) ≡ following (done ++ y ∷ []) (each f (drop (i + 1) xs))
  each_turn xs i d y done within is = rw (add-one, drop-cons xs i d within) (turned (slice_index_or xs i d) y (drop (suc i) xs) done is)

  pub each_refused : (xs : List A) (i : ℕ) (d : A) (e : Refusal) (done : List B) → i < length xs → f (slice_index_or xs i d) ≡ Err e
      → following done (each f (drop i xs)) ≡ Err e
  each_refused xs i d e done within is = rw (drop-cons xs i d within) (refused (slice_index_or xs i d) e (drop (suc i) xs) done is)

  pub each_done : (xs : List A) (i : ℕ) (done : List B) → length xs ≤ i → following done (each f (drop i xs)) ≡ Ok done
  unfolding each following ◌>>=◌
  each_done xs i done past = rw (drop_all i xs past) (ap Ok (append-nil done))
