-- What changes for each of a list add to a result, one after another; and the loop that does so.
use Rattle.std.specs.Prelude.{◌≡◌, ℕ, ◌+◌, ◌<◌, ◌≤◌, List, [], ◌∷◌, length, drop, get_or, Ok, refl}
use Rattle.std.proofs.Common.{◌∙◌, drop-cons, add-one}
use Rattle.ar_space.specs.Change.{Change, Does, Same, give, ◌>>=◌}

unfoldable pub folded : {S A B R : Type 0} → (R → B → R) → (A → Change S B) → List A → R → Change S R
folded add f [] done = give done
folded add f (x ∷ xs) done = do
  more ← f x
  folded add f xs (add done more)
