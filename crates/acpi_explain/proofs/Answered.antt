-- Changes that are answered one after another, up to the first that is refused.
use Rattle.std.proofs.Common.{◌≡◌, ◌∙◌, ℕ, suc, ◌+◌, ◌<◌, ◌≤◌, List, [], ◌∷◌, ◌++◌, length, take, drop, get_or, ap, refl, sym, subst, arith, add-one, drop-cons, take_all, length-take-le}
use Rattle.std.proofs.lemmas.List.{take_more, take-append-drop}
use Rattle.std.specs.Prelude.{Option, Some, None, Ok, Err}
use Rattle.ar_space.specs.Change.{Change, give, go_on, ◌>>=◌}
use Rattle.ar_space.specs.declared.refusal.Refusal.{Refusal}
use Rattle.acpi_links.specs.Folds.{folded}
use Rattle.acpi_explain.specs.Refused.{AreAnswered, IsFirstRefused, IsHowFar}

module _ {S A B : Type 0} (f : A → Change S B) where
  -- ---- a loop over a list

  one_more : (xs : List A) (x : A) (s t u : S) (b : B) → AreAnswered f xs s t → f x t ≡ (Ok b, u) → AreAnswered f (xs ++ x ∷ []) s u
  one_more [] x s t u b h is = (b, u, subst (λ z. f x z ≡ (Ok b, u)) (sym h) is, refl)
  one_more (y ∷ ys) x s t u b h is = (h.0, h.1, h.2, one_more ys x h.1 t u b h.3 is)

  pub turned : (xs : List A) (i : ℕ) (x : A) (s t u : S) (b : B) → i < length xs → x ≡ get_or xs i x → AreAnswered f (take i xs) s t → f x t ≡ (Ok b, u) → AreAnswered f (take (i + 1) xs) s u
  turned xs i x s t u b l at h is =
      subst (λ ys. AreAnswered f ys s u) (sym (take_more xs i x l ∙ ap (λ y. take i xs ++ y ∷ []) (sym at))) (one_more (take i xs) x s t u b h is)

  split : (xs : List A) (i : ℕ) (x : A) → i < length xs → x ≡ get_or xs i x → xs ≡ take i xs ++ x ∷ drop (i + 1) xs
  split xs i x l at = sym (take-append-drop i xs) ∙ ap (λ rest. take i xs ++ rest) (rw (drop-cons xs i x l, ← at, add-one) refl)

  pub first_there : (xs : List A) (i : ℕ) (x : A) (s t u : S) (e : Refusal) → i < length xs → x ≡ get_or xs i x → AreAnswered f (take i xs) s t → f x t ≡ (Err e, u) → (h : IsFirstRefused f xs i x s u e) × (h.there ≡ t)
  first_there xs i x s t u e l at h is =
      (record { earlier = take i xs; later = drop (i + 1) xs; are_all = split xs i x l at; are_counted = length-take-le i xs (omega arith); there = t; are_answered = h; is_refused = is }, refl)

  pub first : (xs : List A) (i : ℕ) (x : A) (s t u : S) (e : Refusal) → i < length xs → x ≡ get_or xs i x → AreAnswered f (take i xs) s t → f x t ≡ (Err e, u) → IsFirstRefused f xs i x s u e
  first xs i x s t u e l at h is = (first_there xs i x s t u e l at h is).0

  pub all : (xs : List A) (i : ℕ) (s t : S) → length xs ≤ i → AreAnswered f (take i xs) s t → AreAnswered f xs s t
  all xs i s t l h = subst (λ ys. AreAnswered f ys s t) (take_all i xs l) h

  -- ---- one before a list

  further : (x : A) (xs : List A) (s t u : S) (b : B) (n m : ℕ) → m ≡ n + 1 → f x s ≡ (Ok b, t) → IsHowFar f xs t u (Some n) → IsHowFar f (x ∷ xs) s u (Some m)
  further x xs s t u b n m same is h =
      let first = h.2 in (
        h.0,
        h.1,
        record {
          earlier = x ∷ first.earlier;
          later = first.later;
          are_all = ap (λ ys. x ∷ ys) first.are_all;
          are_counted = ap suc first.are_counted ∙ omega arith;
          there = first.there;
          are_answered = (b, t, is, first.are_answered);
          is_refused = first.is_refused;
        },
      )

  pub at_once : (x : A) (xs : List A) (s u : S) (e : Refusal) → f x s ≡ (Err e, u) → IsHowFar f (x ∷ xs) s u (Some 0)
  at_once x xs s u e is = (e, x, record { earlier = []; later = xs; are_all = refl; are_counted = refl; there = s; are_answered = refl; is_refused = is })

  pub further_if : (x : A) (ys xs : List A) (s t u : S) (b : B) (found : Option ℕ) (n : ℕ) → ys ≡ xs → found ≡ Some n → f x s ≡ (Ok b, t) → IsHowFar f ys t u found → IsHowFar f (x ∷ xs) s u (Some (n + 1))
  further_if x ys xs s t u b found n same at is h = further x xs s t u b n (n + 1) refl is (subst (λ k. IsHowFar f xs t u k) at (subst (λ zs. IsHowFar f zs t u found) same h))

  pub all_further_if : (x : A) (ys xs : List A) (s t u : S) (b : B) (found : Option ℕ) → ys ≡ xs → found ≡ None → f x s ≡ (Ok b, t) → IsHowFar f ys t u found → IsHowFar f (x ∷ xs) s u None
  all_further_if x ys xs s t u b found same at is h = (b, t, is, subst (λ k. IsHowFar f xs t u k) at (subst (λ zs. IsHowFar f zs t u found) same h))

  -- ---- what they all add to a result

  module _ {R : Type 0} (add : R → B → R) where
    fold_to : (earlier : List A) (x : A) (later : List A) (done : R) (s t u : S) (e : Refusal) → AreAnswered f earlier s t → f x t ≡ (Err e, u) → folded add f (earlier ++ x ∷ later) done s ≡ (Err e, u)
    unfolding folded ◌>>=◌ go_on
    fold_to [] x later done s t u e h is = let at : f x s ≡ (Err e, u) = subst (λ z. f x z ≡ (Err e, u)) (sym h) is in rw at refl
    fold_to (y ∷ ys) x later done s t u e h is = rw h.2 (fold_to ys x later (add done h.0) h.1 t u e h.3 is)

    pub fold_refused : (list : List A) (n : ℕ) (x : A) (done : R) (s u : S) (e : Refusal) → IsFirstRefused f list n x s u e → folded add f list done s ≡ (Err e, u)
    fold_refused list n x done s u e h = ap (λ xs. folded add f xs done s) h.are_all ∙ fold_to h.earlier x h.later done s h.there u e h.are_answered h.is_refused

    pub fold_answered : (xs : List A) (done : R) (s t : S) → AreAnswered f xs s t → (r : R) × (folded add f xs done s ≡ (Ok r, t))
    unfolding folded ◌>>=◌ go_on give
    fold_answered [] done s t h = (done, ap (λ z. (Ok done, z)) h)
    fold_answered (x ∷ xs) done s t h = let r = fold_answered xs (add done h.0) h.1 t h.3 in (r.0, rw h.2 r.1)
