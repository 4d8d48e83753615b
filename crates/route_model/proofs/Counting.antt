use Rattle.std.proofs.Common.{◌≡◌, ℕ, suc, ◌+◌, ◌<◌, ◌≤◌, Bool, true, false, cond, List, [], ◌∷◌, refl, ◌∙◌, ap, arith}
use Rattle.std.specs.Prelude.{count_by}
use Rattle.std.proofs.lemmas.List.Sums.{sum_by-cons}

-- one or none, by a test
abbrev pub one_if : Bool → ℕ
one_if b = cond b 1 0

pub count_cons : {X : Type 0} (p : X → Bool) (x : X) (xs : List X) → count_by p (x ∷ xs) ≡ one_if (p x) + count_by p xs
count_cons p x xs = sum_by-cons (λ y. cond (p y) 1 0) x xs

pub count_yes : {X : Type 0} (p : X → Bool) (x : X) (xs : List X) → p x ≡ true → count_by p (x ∷ xs) ≡ suc (count_by p xs)
count_yes p x xs h = let a : count_by p (x ∷ xs) ≡ 1 + count_by p xs = count_cons p x xs ∙ ap (λ b. one_if b + count_by p xs) h in omega arith

pub count_no : {X : Type 0} (p : X → Bool) (x : X) (xs : List X) → p x ≡ false → count_by p (x ∷ xs) ≡ count_by p xs
count_no p x xs h = let a : count_by p (x ∷ xs) ≡ 0 + count_by p xs = count_cons p x xs ∙ ap (λ b. one_if b + count_by p xs) h in omega arith

-- An equality test.
pub record Tells {X : Type 0} (same : X → X → Bool) : Type 0 where
  pub sound : (x y : X) → same x y ≡ true → x ≡ y
  pub itself : (x : X) → same x x ≡ true

-- a list where one x is gone: every count falls by what x counts
pub record Without {X : Type 0} (ys : List X) (x : X) : Type 0 where
  pub rest : List X
  pub counts : (p : X → Bool) → count_by p ys ≡ one_if (p x) + count_by p rest

module _ {X : Type 0} (same : X → X → Bool) (tells : Tells same) where
  take_out_at : (x y : X) (ys : List X) → (0 < count_by (same x) ys → Without ys x) → 0 < count_by (same x) (y ∷ ys) → (b : Bool) → same x y ≡ b → Without (y ∷ ys) x
  take_out_at x y ys ih h true e = let xy = tells.sound x y e in record { rest = ys; counts = λ p. rw xy (count_cons p y ys) }
  take_out_at x y ys ih h false e =
      let c = count_no (same x) y ys e in
      let w = ih (omega arith) in
      record { rest = y ∷ w.rest; counts = λ p. let a = count_cons p y ys in let b = count_cons p y w.rest in let d = w.counts p in omega (arith, a, b, d) }

  take_out : (x : X) (ys : List X) → 0 < count_by (same x) ys → Without ys x
  take_out x [] h = absurd (omega arith)
  take_out x (y ∷ ys) h = take_out_at x y ys (take_out x ys) h (same x y) refl

  abbrev pub Fewer : (X → Bool) → List X → List X → Type 0
  Fewer seen xs ys = (x : X) → seen x ≡ true → count_by (same x) xs ≤ count_by (same x) ys

  fewer_yes : (seen : X → Bool) (x : X) (xs ys : List X) → ((zs : List X) → Fewer seen xs zs → count_by seen xs ≤ count_by seen zs) → Fewer seen (x ∷ xs) ys → seen x ≡ true → count_by seen (x ∷ xs) ≤ count_by seen ys
  fewer_yes seen x xs ys ih h e =
      let one = count_yes (same x) x xs (tells.itself x) in
      let w = take_out x ys (omega (arith, one, h x e)) in
      let rest = ih w.rest (λ z s. omega (arith, h z s, count_cons (same z) x xs, w.counts (same z))) in
      let counted = w.counts seen in
      let more = count_yes seen x xs e in
      let there : count_by seen ys ≡ 1 + count_by seen w.rest = counted ∙ ap (λ b. one_if b + count_by seen w.rest) e in
      omega arith

  -- fewer of each kind that the test sees, fewer in all
  pub fewer : (seen : X → Bool) (xs ys : List X) → Fewer seen xs ys → count_by seen xs ≤ count_by seen ys
  fewer seen [] ys h = omega arith
  fewer seen (x ∷ xs) ys h = go (seen x) refl (fewer seen xs)
    where
      go : (b : Bool) → seen x ≡ b → ((zs : List X) → Fewer seen xs zs → count_by seen xs ≤ count_by seen zs) → count_by seen (x ∷ xs) ≤ count_by seen ys
      go true e ih = fewer_yes seen x xs ys ih h e
      go false e ih = let less = ih ys (λ z s. omega (arith, h z s, count_cons (same z) x xs)) in let same = count_no seen x xs e in omega arith
