-- The loop that folds what the changes of a list add.
use Rattle.std.specs.Prelude.{◌≡◌, ℕ, ◌+◌, ◌<◌, ◌≤◌, List, [], ◌∷◌, length, drop, get_or, Ok, refl}
use Rattle.std.proofs.Common.{◌∙◌, drop-cons, add-one}
use Rattle.std.proofs.lemmas.List.{drop_all}
use Rattle.ar_space.specs.Change.{Change, Does, Same, give, ◌>>=◌}
use Rattle.acpi_links.specs.Folds.{folded}

-- the loop at a turn, after it, and at its end
module _ {S A B R : Type 0} {m : Change S R} {start here : S} (add : R → B → R) (f : A → Change S B) where
  pub same_turn : (xs : List A) (done : R) (i : ℕ) (x : A) → Same m start (folded add f (drop i xs) done) here → i < length xs → x ≡ get_or xs i x
      → Same m start (f x >>= (λ more. folded add f (drop (i + 1) xs) (add done more))) here
  unfolding folded
  same_turn xs done i x h l at = record { is = h.is ∙ rw (drop-cons xs i x l, ← at, add-one) refl }

  pub same_added : (xs : List A) (done more : R) → Same m start (folded add f xs done) here → more ≡ done → Same m start (folded add f xs more) here
  same_added xs done more h e = rw e h

  pub fold_end : {r : R} (xs : List A) (done : R) (i : ℕ) → Same m start (folded add f (drop i xs) done) here → length xs ≤ i → r ≡ done → Does (Ok r) here m start
  unfolding folded give
  fold_end xs done i h l e = record { is = λ _. h.is ∙ rw (drop_all i xs l, e) refl }
