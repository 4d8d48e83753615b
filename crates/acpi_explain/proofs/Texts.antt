-- Texts one behind another: of a list, and of changes one after another.
use Rattle.std.proofs.Common.{◌≡◌, ◌∙◌, ℕ, zero, suc, ◌+◌, ◌<◌, ◌≤◌, List, [], ◌∷◌, ◌++◌, length, take, drop, drop-cons, add-one, map, get_or, ap, refl, sym, subst, take_all, append_assoc, append-nil, zip, arith}
use Rattle.std.proofs.lemmas.List.{drop_all, take_more}
use Rattle.std.specs.Prelude.{decimal}
use Rattle.route_report.specs.Lines.{spaced}
use Rattle.acpi_explain.specs.LinkLines.{AreTold}

-- what is put first, and what is left
step : (text one rest next whole : List ℕ) → whole ≡ text ++ (one ++ rest) → next ≡ text ++ one → whole ≡ next ++ rest
step text one rest next whole so put = so ∙ (sym (append_assoc text one rest) ∙ ap (λ t. t ++ rest) (sym put))

module _ {X : Type 0} (all : List X → List ℕ) (one : X → List ℕ) (first : (x : X) (xs : List X) → all (x ∷ xs) ≡ one x ++ all xs) where
  pub put_more : (xs : List X) (i : ℕ) (x : X) (text next whole : List ℕ) → i < length xs → x ≡ get_or xs i x → whole ≡ text ++ all (drop i xs) → next ≡ text ++ one x
      → whole ≡ next ++ all (drop (i + 1) xs)
  put_more xs i x text next whole within is so put =
      rw (add-one i) (step text (one x) (all (drop (suc i) xs)) next whole
      (so ∙ ap (λ t. text ++ t) (ap all (drop-cons xs i x within) ∙ (ap (λ y. all (y ∷ drop (suc i) xs)) (sym is) ∙ first x (drop (suc i) xs)))) put)

  pub all_put : (xs : List X) (i : ℕ) (text whole : List ℕ) → all [] ≡ [] → length xs ≤ i → whole ≡ text ++ all (drop i xs) → text ≡ whole
  all_put xs i text whole none past so = sym (so ∙ (ap (λ t. text ++ t) (ap all (drop_all i xs past) ∙ none) ∙ append-nil text))

-- ---- numbers

pub first_number : (n : ℕ) (ns : List ℕ) → spaced (map decimal (n ∷ ns)) ≡ (32 ∷ decimal n) ++ spaced (map decimal ns)
first_number n ns = refl

-- ---- changes

module _ {S A : Type 0} (IsTold : A → S → S → List ℕ → Type 0) where
  one_told_more : (xs : List A) (x : A) (s t u : S) (text own : List ℕ) → AreTold IsTold xs s t text → IsTold x t u own → AreTold IsTold (xs ++ x ∷ []) s u (text ++ own)
  one_told_more [] x s t u text own h is = (u, own, [], subst (λ z. IsTold x z u own) (sym h.0) is, (refl, refl), ap (λ z. z ++ own) h.1 ∙ sym (append-nil own))
  one_told_more (y ∷ ys) x s t u text own h is = (h.0, h.1, h.2 ++ own, h.3, one_told_more ys x h.0 t u h.2 own h.4 is, ap (λ z. z ++ own) h.5 ∙ append_assoc h.1 h.2 own)

  pub none_told : (s : S) (text : List ℕ) → text ≡ [] → AreTold IsTold [] s s text
  none_told s text is = (refl, is)

  -- a turn of a loop, and its end
  pub told_turned : (xs : List A) (i : ℕ) (x d : A) (s t u : S) (text own next : List ℕ) → i < length xs → x ≡ get_or xs i d → AreTold IsTold (take i xs) s t text → IsTold x t u own → next ≡ text ++ own
      → AreTold IsTold (take (i + 1) xs) s u next
  told_turned xs i x d s t u text own next l at h is put =
      subst (λ ys. AreTold IsTold ys s u next) (sym (take_more xs i d l ∙ ap (λ y. take i xs ++ y ∷ []) (sym at))) (subst (λ z. AreTold IsTold (take i xs ++ x ∷ []) s u z) (sym put) (one_told_more (take i xs) x s t u text own h is))

  pub all_told : (xs : List A) (i : ℕ) (s t : S) (text : List ℕ) → length xs ≤ i → AreTold IsTold (take i xs) s t text → AreTold IsTold xs s t text
  all_told xs i s t text l h = subst (λ ys. AreTold IsTold ys s t text) (take_all i xs l) h

module _ {A B : Type 0} where
  pub zip_short : (xs : List A) (ys : List B) (i : ℕ) → length xs ≤ i → length (zip xs ys) ≤ i
  zip_short [] ys i l = omega arith
  zip_short (x ∷ xs) [] i l = omega arith
  zip_short (x ∷ xs) (y ∷ ys) zero l = absurd (omega arith)
  zip_short (x ∷ xs) (y ∷ ys) (suc i) l = let h = zip_short xs ys i (omega arith) in omega arith
