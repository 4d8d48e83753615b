-- The table of digit values says what the definition says.
use Rattle.std.proofs.Common.{◌≡◌, ℕ, zero, suc, ◌+◌, ◌-◌, ◌<◌, ◌≤◌, Bool, true, false, cond, List, [], ◌∷◌, ◌++◌, length, length-append, get_or, Option, Some, None, nat_le, unwrap_or, ◌&&◌, refl, ap, ◌∙◌, arith, inl, inr}
use Rattle.std.proofs.lemmas.Bool.{cases_lt}
use Rattle.std.proofs.lemmas.Bool.Decides.{nat_tests}
use Rattle.std.proofs.lemmas.List.{get_or_append_left, get_or_push}
use Rattle.hex.specs.Hex.{hex_digit_value}

-- the values of a function at the numbers below n
unfoldable below : ℕ → (ℕ → ℕ) → List ℕ
below zero f = []
below (suc n) f = below n f ++ f n ∷ []

below_length : (n : ℕ) (f : ℕ → ℕ) → length (below n f) ≡ n
unfolding below
below_length zero f = refl
below_length (suc n) f = omega (arith, length-append (below n f) (f n ∷ []), below_length n f)

below_at : (n : ℕ) (f : ℕ → ℕ) (k : ℕ) → k < n → get_or (below n f) k 0 ≡ f k
unfolding below
below_at zero f k h = absurd (omega arith)
below_at (suc n) f k h =
    elim (cases_lt k n) [
      | inl under ↦ get_or_append_left (below n f) (f n ∷ []) 0 k (rw (below_length n f) under) ∙ below_at n f k under
      | inr over ↦
          let same : length (below n f) ≡ k = below_length n f ∙ (omega arith) in
          get_or_push (below n f) (f n) 0 k same ∙ ap f (omega arith)
    ]

abbrev pub values : List ℕ
values = 255 ∷ 255 ∷ 255 ∷ 255 ∷ 255 ∷ 255 ∷ 255 ∷ 255 ∷ 255 ∷ 255 ∷ 255 ∷ 255 ∷ 255 ∷ 255 ∷ 255 ∷ 255 ∷ 255 ∷ 255 ∷ 255 ∷ 255 ∷ 255 ∷ 255 ∷ 255 ∷ 255 ∷ 255 ∷ 255 ∷ 255 ∷ 255 ∷ 255 ∷ 255 ∷ 255 ∷ 255 ∷ 255 ∷ 255 ∷ 255 ∷ 255 ∷ 255 ∷ 255 ∷ 255 ∷ 255 ∷ 255 ∷ 255 ∷ 255 ∷ 255 ∷ 255 ∷ 255 ∷ 255 ∷ 255 ∷ 0 ∷ 1 ∷ 2 ∷ 3 ∷ 4 ∷ 5 ∷ 6 ∷ 7 ∷ 8 ∷ 9 ∷ 255 ∷ 255 ∷ 255 ∷ 255 ∷ 255 ∷ 255 ∷ 255 ∷ 10 ∷ 11 ∷ 12 ∷ 13 ∷ 14 ∷ 15 ∷ 255 ∷ 255 ∷ 255 ∷ 255 ∷ 255 ∷ 255 ∷ 255 ∷ 255 ∷ 255 ∷ 255 ∷ 255 ∷ 255 ∷ 255 ∷ 255 ∷ 255 ∷ 255 ∷ 255 ∷ 255 ∷ 255 ∷ 255 ∷ 255 ∷ 255 ∷ 255 ∷ 255 ∷ 255 ∷ 255 ∷ 10 ∷ 11 ∷ 12 ∷ 13 ∷ 14 ∷ 15 ∷ 255 ∷ 255 ∷ 255 ∷ 255 ∷ 255 ∷ 255 ∷ 255 ∷ 255 ∷ 255 ∷ 255 ∷ 255 ∷ 255 ∷ 255 ∷ 255 ∷ 255 ∷ 255 ∷ 255 ∷ 255 ∷ 255 ∷ 255 ∷ 255 ∷ 255 ∷ 255 ∷ 255 ∷ 255 ∷ 255 ∷ 255 ∷ 255 ∷ 255 ∷ 255 ∷ 255 ∷ 255 ∷ 255 ∷ 255 ∷ 255 ∷ 255 ∷ 255 ∷ 255 ∷ 255 ∷ 255 ∷ 255 ∷ 255 ∷ 255 ∷ 255 ∷ 255 ∷ 255 ∷ 255 ∷ 255 ∷ 255 ∷ 255 ∷ 255 ∷ 255 ∷ 255 ∷ 255 ∷ 255 ∷ 255 ∷ 255 ∷ 255 ∷ 255 ∷ 255 ∷ 255 ∷ 255 ∷ 255 ∷ 255 ∷ 255 ∷ 255 ∷ 255 ∷ 255 ∷ 255 ∷ 255 ∷ 255 ∷ 255 ∷ 255 ∷ 255 ∷ 255 ∷ 255 ∷ 255 ∷ 255 ∷ 255 ∷ 255 ∷ 255 ∷ 255 ∷ 255 ∷ 255 ∷ 255 ∷ 255 ∷ 255 ∷ 255 ∷ 255 ∷ 255 ∷ 255 ∷ 255 ∷ 255 ∷ 255 ∷ 255 ∷ 255 ∷ 255 ∷ 255 ∷ 255 ∷ 255 ∷ 255 ∷ 255 ∷ 255 ∷ 255 ∷ 255 ∷ 255 ∷ 255 ∷ 255 ∷ 255 ∷ 255 ∷ 255 ∷ 255 ∷ 255 ∷ 255 ∷ 255 ∷ 255 ∷ 255 ∷ 255 ∷ 255 ∷ 255 ∷ 255 ∷ 255 ∷ 255 ∷ 255 ∷ 255 ∷ 255 ∷ 255 ∷ 255 ∷ 255 ∷ 255 ∷ 255 ∷ 255 ∷ 255 ∷ 255 ∷ 255 ∷ 255 ∷ 255 ∷ 255 ∷ 255 ∷ 255 ∷ 255 ∷ 255 ∷ 255 ∷ 255 ∷ 255 ∷ 255 ∷ 255 ∷ 255 ∷ 255 ∷ 255 ∷ 255 ∷ 255 ∷ 255 ∷ []

abbrev value_or_none : ℕ → ℕ
value_or_none c = unwrap_or (hex_digit_value c) 255

values_are : values ≡ below 256 value_or_none
unfolding below
values_are = refl

value_at : (c : ℕ) → c < 256 → get_or values c 0 ≡ value_or_none c
value_at c within = ap (λ (l : List ℕ). get_or l c 0) values_are ∙ below_at 256 value_or_none c within

-- the value of a digit is below 16
small_by : (p q r : Bool) (x y z d : ℕ) → (p ≡ true → x < 16) → (q ≡ true → y < 16) → (r ≡ true → z < 16) → cond p (Some x) (cond q (Some y) (cond r (Some z) None)) ≡ Some d → d < 16
small_by true q r x y z d xs ys zs e = (let is : x ≡ d = cc e in omega (arith, is, xs refl))
small_by false true r x y z d xs ys zs e = (let is : y ≡ d = cc e in omega (arith, is, ys refl))
small_by false false true x y z d xs ys zs e = (let is : z ≡ d = cc e in omega (arith, is, zs refl))
small_by false false false x y z d xs ys zs e = absurd (cc e)

within : (low high base c : ℕ) → high < base + 16 → nat_le low c && nat_le c high ≡ true → c - base < 16
within low high base c fits is =
    let le : c ≤ high = grind (arith, nat_tests) in
    omega (arith, le, fits)

value_small : (c d : ℕ) → hex_digit_value c ≡ Some d → d < 16
value_small c d = small_by (nat_le 65 c && nat_le c 70) (nat_le 97 c && nat_le c 102) (nat_le 48 c && nat_le c 57) (c - 55) (c - 87) (c - 48) d
    (within 65 70 55 c (omega arith)) (within 97 102 87 c (omega arith)) (within 48 57 48 c (omega arith))

-- what the table has below 16 is the value of a digit
read_by : (o : Option ℕ) (v : ℕ) → v ≡ unwrap_or o 255 → v < 16 → Some v ≡ o
read_by (Some x) v is small = ap Some is
read_by None v is small = absurd (omega (arith, is, small))

refused_by : (o : Option ℕ) (v : ℕ) → v ≡ unwrap_or o 255 → ((d : ℕ) → o ≡ Some d → d < 16) → 16 ≤ v → None ≡ o
refused_by (Some x) v is small big = absurd (omega (arith, is, small x refl, big))
refused_by None v is small big = refl

pub digit_read : (c : ℕ) → c < 256 → get_or values c 0 < 16 → Some (get_or values c 0) ≡ hex_digit_value c
digit_read c byte small = read_by (hex_digit_value c) _ (value_at c byte) small

pub digit_refused : (c : ℕ) → c < 256 → 16 ≤ get_or values c 0 → None ≡ hex_digit_value c
digit_refused c byte big = refused_by (hex_digit_value c) _ (value_at c byte) (value_small c) big
