-- A list that was sorted is the list in order.
use Rattle.std.proofs.Common.{◌≡◌, ℕ, zero, suc, ◌+◌, Bool, true, false, List, [], ◌∷◌, refl, sym, ◌∙◌, ap, subst, arith, get_or}
use Rattle.std.specs.Prelude.{if◌then◌else◌}
use Rattle.std.specs.declared.cmp.Ordering.{Ordering}
use Rattle.std.specs.declared.cmp.Ordering.TheVariants.{Less, Equal, Greater}
use Rattle.std.specs.Ordering.{is_lt, is_gt, ordering_reverse}
use Rattle.std.specs.Cmp.{IsTotalOrder}
use Rattle.std.specs.FinMap.{IsAntisymmetric}
use Rattle.std.specs.List.Sorted.{IsPermutation, IsSortedBy}
use Rattle.std.proofs.lemmas.Bool.{true≢false, false≢true}
use Rattle.std.proofs.lemmas.Cmp.{upto}
use Rattle.std.proofs.lemmas.List.Sorted.{IsPermutation-refl, IsPermutation-trans, IsPermutation-cons, IsPermutation-middle}
use Rattle.route_report.specs.Ordered.{among, in_order}
use Rattle.route_report.proofs.Shuffles.{shuffled}

reversed_gt : (o p : Ordering) → p ≡ ordering_reverse o → is_gt o ≡ true → is_gt p ≡ false
reversed_gt Less p e h = absurd (false≢true h)
reversed_gt Equal p e h = absurd (false≢true h)
reversed_gt Greater p e h = ap is_gt e

neither_gt : (o p : Ordering) → p ≡ ordering_reverse o → is_gt o ≡ false → is_gt p ≡ false → o ≡ Equal
neither_gt Less p e h i = absurd (true≢false (sym (ap is_gt e) ∙ i))
neither_gt Equal p e h i = refl
neither_gt Greater p e h i = absurd (true≢false h)

not_lt : (o p : Ordering) → p ≡ ordering_reverse o → is_lt o ≡ false → is_gt p ≡ false
not_lt Less p e h = absurd (true≢false h)
not_lt Equal p e h = ap is_gt e
not_lt Greater p e h = ap is_gt e

not_gt : (o p : Ordering) → p ≡ ordering_reverse o → is_gt o ≡ false → is_lt p ≡ false
not_gt Less p e h = ap is_lt e
not_gt Equal p e h = ap is_lt e
not_gt Greater p e h = absurd (true≢false h)

gt_not_lt : (o : Ordering) → is_gt o ≡ true → is_lt o ≡ false
gt_not_lt Less h = absurd (false≢true h)
gt_not_lt Equal h = absurd (false≢true h)
gt_not_lt Greater h = refl

module _ {X : Type 0} (order : X → X → Ordering) (total : IsTotalOrder order) (exact : IsAntisymmetric order) where
  past : (x y : X) (ys : List X) → is_gt (order x y) ≡ true → among order x (y ∷ ys) ≡ y ∷ among order x ys
  past x y ys e = ap (λ b. if b then y ∷ among order x ys else x ∷ y ∷ ys) e

  before : (x y : X) (ys : List X) → is_gt (order x y) ≡ false → among order x (y ∷ ys) ≡ x ∷ y ∷ ys
  before x y ys e = ap (λ b. if b then y ∷ among order x ys else x ∷ y ∷ ys) e

  above : (x y z : X) → is_gt (order y z) ≡ false → is_gt (order x z) ≡ true → is_gt (order x y) ≡ true
  above x y z low high = go (is_gt (order x y)) refl
    where
      go : (b : Bool) → is_gt (order x y) ≡ b → is_gt (order x y) ≡ true
      go true e = e
      go false e = absurd (true≢false (sym high ∙ upto total x y z e low))

  -- two elements that both stand before a list
  two : (x y : X) (l : List X) → among order x l ≡ x ∷ l → among order y l ≡ y ∷ l → among order x (y ∷ l) ≡ among order y (x ∷ l)
  two x y l hx hy = go (is_gt (order x y)) (is_gt (order y x)) refl refl
    where
      go : (a b : Bool) → is_gt (order x y) ≡ a → is_gt (order y x) ≡ b → among order x (y ∷ l) ≡ among order y (x ∷ l)
      go true true e f = absurd (true≢false (sym f ∙ reversed_gt (order x y) (order y x) (total.antisymm y x) e))
      go true false e f = past x y l e ∙ (ap (λ us. y ∷ us) hx ∙ sym (before y x l f))
      go false true e f = before x y l e ∙ (ap (λ us. x ∷ us) (sym hy) ∙ sym (past y x l f))
      go false false e f =
          let same : x ≡ y = exact x y (neither_gt (order x y) (order y x) (total.antisymm y x) e f) in
          subst (λ (z : X). among order x (z ∷ l) ≡ among order z (x ∷ l)) same refl

  one_past : (x y z : X) (zs : List X) → is_gt (order x z) ≡ true → is_gt (order y z) ≡ false → among order x (among order y (z ∷ zs)) ≡ among order y (among order x (z ∷ zs))
  one_past x y z zs high low =
      ap (among order x) (before y z zs low) ∙ (past x y (z ∷ zs) (above x y z low high) ∙ (ap (λ us. y ∷ us) (past x z zs high)
      ∙ (sym (before y z (among order x zs) low) ∙ sym (ap (among order y) (past x z zs high)))))

  both_past : (x y z : X) (zs : List X) → is_gt (order x z) ≡ true → is_gt (order y z) ≡ true → among order x (among order y zs) ≡ among order y (among order x zs) → among order x (among order y (z ∷ zs)) ≡ among order y (among order x (z ∷ zs))
  both_past x y z zs hx hy rest =
      ap (among order x) (past y z zs hy) ∙ (past x z (among order y zs) hx ∙ (ap (λ us. z ∷ us) rest
      ∙ (sym (past y z (among order x zs) hy) ∙ sym (ap (among order y) (past x z zs hx)))))

  -- two elements may come in either order
  pub commute : (x y : X) (l : List X) → among order x (among order y l) ≡ among order y (among order x l)
  commute x y [] = two x y [] refl refl
  commute x y (z ∷ zs) = go (is_gt (order x z)) (is_gt (order y z)) refl refl (commute x y zs)
    where
      go : (a b : Bool) → is_gt (order x z) ≡ a → is_gt (order y z) ≡ b → among order x (among order y zs) ≡ among order y (among order x zs) → among order x (among order y (z ∷ zs)) ≡ among order y (among order x (z ∷ zs))
      go true true e f rest = both_past x y z zs e f rest
      go true false e f rest = one_past x y z zs e f
      go false true e f rest = sym (one_past y x z zs f e)
      go false false e f rest = ap (among order x) (before y z zs f) ∙ (two x y (z ∷ zs) (before x z zs e) (before y z zs f) ∙ sym (ap (among order y) (before x z zs e)))

  -- the order of the elements says nothing
  pub permuted : (xs ys : List X) → IsPermutation xs ys → in_order order ys ≡ in_order order xs
  permuted = shuffled (in_order order) (among order) (λ x xs. refl) commute

  sorted_tail : (y : X) (ys : List X) → IsSortedBy (λ a b. is_lt (order a b)) (y ∷ ys) → IsSortedBy (λ a b. is_lt (order a b)) ys
  sorted_tail y ys h k d low b =
      let e : suc k + 1 ≡ suc (k + 1) = omega arith in
      subst (λ (i : ℕ). is_lt (order (get_or (y ∷ ys) i d) (get_or ys k d)) ≡ false) e (h (suc k) d (omega arith) (omega arith))

  -- a list in order stays as it is
  pub stays : (ys : List X) → IsSortedBy (λ a b. is_lt (order a b)) ys → in_order order ys ≡ ys
  stays [] h = refl
  stays (y ∷ ys) h = ap (among order y) (stays ys (sorted_tail y ys h)) ∙ first ys h
    where
      first : (zs : List X) → IsSortedBy (λ a b. is_lt (order a b)) (y ∷ zs) → among order y zs ≡ y ∷ zs
      first [] h = refl
      first (z ∷ zs) h = before y z zs (not_lt (order z y) (order y z) (total.antisymm y z) (h 0 y (omega arith) (omega arith)))

  pub sorted_is : (xs ys : List X) → IsPermutation xs ys → IsSortedBy (λ a b. is_lt (order a b)) ys → ys ≡ in_order order xs
  sorted_is xs ys same sorted = sym (stays ys sorted) ∙ permuted xs ys same

  -- an element that the head of a list doesn't come before
  abbrev Heads : X → List X → Type 0
  Heads x [] = Unit {0}
  Heads x (y ∷ ys) = is_lt (order y x) ≡ false

  sorted_cons : (x : X) (ys : List X) → Heads x ys → IsSortedBy (λ a b. is_lt (order a b)) ys → IsSortedBy (λ a b. is_lt (order a b)) (x ∷ ys)
  sorted_cons x [] h up k d low b = absurd (omega arith)
  sorted_cons x (y ∷ ys) h up zero d low b = h
  sorted_cons x (y ∷ ys) h up (suc k) d low b =
      let e : suc (k + 1) ≡ suc k + 1 = omega arith in
      subst (λ (i : ℕ). is_lt (order (get_or (x ∷ y ∷ ys) i d) (get_or (y ∷ ys) k d)) ≡ false) e (up k d (omega arith) (omega arith))

  heads_among : (x y : X) (ys : List X) → is_gt (order x y) ≡ true → Heads y ys → Heads y (among order x ys)
  heads_among x y [] high h = gt_not_lt (order x y) high
  heads_among x y (z ∷ zs) high h = go (is_gt (order x z)) refl
    where
      go : (b : Bool) → is_gt (order x z) ≡ b → Heads y (among order x (z ∷ zs))
      go true e = subst (Heads y) (sym (past x z zs e)) h
      go false e = subst (Heads y) (sym (before x z zs e)) (gt_not_lt (order x y) high)

  head_of : (y : X) (ys : List X) → IsSortedBy (λ a b. is_lt (order a b)) (y ∷ ys) → Heads y ys
  head_of y [] up = tt
  head_of y (z ∷ zs) up = up 0 y (omega arith) (omega arith)

  among_sorted : (x : X) (ys : List X) → IsSortedBy (λ a b. is_lt (order a b)) ys → IsSortedBy (λ a b. is_lt (order a b)) (among order x ys)
  among_sorted x [] up = sorted_cons x [] tt up
  among_sorted x (y ∷ ys) up = go (is_gt (order x y)) refl (among_sorted x ys (sorted_tail y ys up))
    where
      go : (b : Bool) → is_gt (order x y) ≡ b → IsSortedBy (λ a b. is_lt (order a b)) (among order x ys) → IsSortedBy (λ a b. is_lt (order a b)) (among order x (y ∷ ys))
      go true e rest = subst (IsSortedBy (λ a b. is_lt (order a b))) (sym (past x y ys e)) (sorted_cons y (among order x ys) (heads_among x y ys e (head_of y ys up)) rest)
      go false e rest = subst (IsSortedBy (λ a b. is_lt (order a b))) (sym (before x y ys e)) (sorted_cons x (y ∷ ys) (not_gt (order x y) (order y x) (total.antisymm y x) e) up)

  pub is_sorted : (xs : List X) → IsSortedBy (λ a b. is_lt (order a b)) (in_order order xs)
  is_sorted [] = λ k d low b. absurd (omega arith)
  is_sorted (x ∷ xs) = among_sorted x (in_order order xs) (is_sorted xs)

  moved_in : (x : X) (ys : List X) → IsPermutation (x ∷ ys) (among order x ys)
  moved_in x [] = IsPermutation-refl (x ∷ [])
  moved_in x (y ∷ ys) = go (is_gt (order x y)) refl (moved_in x ys)
    where
      go : (b : Bool) → is_gt (order x y) ≡ b → IsPermutation (x ∷ ys) (among order x ys) → IsPermutation (x ∷ y ∷ ys) (among order x (y ∷ ys))
      go true e rest =
          subst (IsPermutation (x ∷ y ∷ ys)) (sym (past x y ys e)) (IsPermutation-trans (x ∷ y ∷ ys) (y ∷ x ∷ ys) (y ∷ among order x ys) (IsPermutation-middle (x ∷ []) y ys) (IsPermutation-cons y (x ∷ ys) (among order x ys) rest))
      go false e rest = subst (IsPermutation (x ∷ y ∷ ys)) (sym (before x y ys e)) (IsPermutation-refl (x ∷ y ∷ ys))

  pub same_elements : (xs : List X) → IsPermutation xs (in_order order xs)
  same_elements [] = IsPermutation-refl []
  same_elements (x ∷ xs) = IsPermutation-trans (x ∷ xs) (x ∷ in_order order xs) (among order x (in_order order xs)) (IsPermutation-cons x xs (in_order order xs) (same_elements xs)) (moved_in x (in_order order xs))
