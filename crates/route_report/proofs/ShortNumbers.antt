-- Numbers of one to three digits, written in decimal.
use Rattle.std.proofs.Common.{◌≡◌, ℕ, suc, ◌+◌, ◌*◌, ◌/◌, ◌%◌, ◌<◌, ◌≤◌, List, [], ◌∷◌, length, get_or, cond, ◌==◌, nat_lt, refl, ap, sym, ◌∙◌, arith, true, false}
use Rattle.std.proofs.lemmas.Bool.{lt-ltb, ne_eqb, eq-eqb}
use Rattle.std.specs.Prelude.{decimal}
use Rattle.std.specs.Fmt.{digits, digits_onto, digit_glyph}

glyph : (d : ℕ) → d < 10 → digit_glyph false d ≡ 48 + d
glyph d small = ap (λ b. cond b (48 + d) (87 + d)) (lt-ltb d 10 small)

last : (k d : ℕ) (after : List ℕ) → d < 10 → digits_onto (suc k) 10 false d after ≡ (48 + d) ∷ after
last k d after small =
    let none : d / 10 ≡ 0 = omega (arith, small) in
    let same : d % 10 ≡ d = omega (arith, small) in
    ap (λ b. cond b (digit_glyph false (d % 10) ∷ after) (digits_onto k 10 false (d / 10) (digit_glyph false (d % 10) ∷ after))) (eq-eqb (d / 10) 0 none)
    ∙ ap (λ e. digit_glyph false e ∷ after) same ∙ ap (λ x. x ∷ after) (glyph d small)

more : (k m d : ℕ) (after : List ℕ) → 0 < m → d < 10 → digits_onto (suc k) 10 false (m * 10 + d) after ≡ digits_onto k 10 false m ((48 + d) ∷ after)
more k m d after some small =
    let n = m * 10 + d in
    let front : n / 10 ≡ m = omega (arith, small) in
    let same : n % 10 ≡ d = omega (arith, small) in
    ap (λ b. cond b (digit_glyph false (n % 10) ∷ after) (digits_onto k 10 false (n / 10) (digit_glyph false (n % 10) ∷ after))) (ne_eqb (n / 10) 0 (λ e. absurd (omega (arith, e, front, some))))
    ∙ ap (λ e. digits_onto k 10 false (n / 10) (digit_glyph false e ∷ after)) same ∙ ap (λ x. digits_onto k 10 false (n / 10) (x ∷ after)) (glyph d small)
    ∙ ap (λ x. digits_onto k 10 false x ((48 + d) ∷ after)) front

module _ (word : List ℕ) where
  only_one : length word ≡ 1 → word ≡ get_or word 0 0 ∷ []
  only_one = by_list word
    where
      by_list : (xs : List ℕ) → length xs ≡ 1 → xs ≡ get_or xs 0 0 ∷ []
      by_list [] e = absurd (omega (arith, e))
      by_list (x ∷ []) e = refl
      by_list (x ∷ y ∷ xs) e = absurd (omega (arith, e))

  only_two : length word ≡ 2 → word ≡ get_or word 0 0 ∷ get_or word 1 0 ∷ []
  only_two = by_list word
    where
      by_list : (xs : List ℕ) → length xs ≡ 2 → xs ≡ get_or xs 0 0 ∷ get_or xs 1 0 ∷ []
      by_list [] e = absurd (omega (arith, e))
      by_list (x ∷ []) e = absurd (omega (arith, e))
      by_list (x ∷ y ∷ []) e = refl
      by_list (x ∷ y ∷ z ∷ xs) e = absurd (omega (arith, e))

  only_three : length word ≡ 3 → word ≡ get_or word 0 0 ∷ get_or word 1 0 ∷ get_or word 2 0 ∷ []
  only_three = by_list word
    where
      by_list : (xs : List ℕ) → length xs ≡ 3 → xs ≡ get_or xs 0 0 ∷ get_or xs 1 0 ∷ get_or xs 2 0 ∷ []
      by_list [] e = absurd (omega (arith, e))
      by_list (x ∷ []) e = absurd (omega (arith, e))
      by_list (x ∷ y ∷ []) e = absurd (omega (arith, e))
      by_list (x ∷ y ∷ z ∷ []) e = refl
      by_list (x ∷ y ∷ z ∷ w ∷ xs) e = absurd (omega (arith, e))

  module _ (a : ℕ) (digit : a < 10) (first : get_or word 0 0 ≡ 48 + a) where
    pub one_digit : length word ≡ 1 → word ≡ decimal a
    unfolding digits
    one_digit size = only_one size ∙ ap (λ x. x ∷ []) first ∙ sym (last 63 a [] digit)

    module _ (b : ℕ) (digit_too : b < 10) (second : get_or word 1 0 ≡ 48 + b) (some : 0 < a) where
      pub two_digits : length word ≡ 2 → word ≡ decimal (a * 10 + b)
      unfolding digits
      two_digits size = only_two size ∙ ap (λ x. x ∷ get_or word 1 0 ∷ []) first ∙ ap (λ x. (48 + a) ∷ x ∷ []) second
          ∙ sym (more 63 a b [] some digit_too ∙ last 62 a ((48 + b) ∷ []) digit)

      pub three_digits : (c : ℕ) → c < 10 → get_or word 2 0 ≡ 48 + c → length word ≡ 3 → word ≡ decimal ((a * 10 + b) * 10 + c)
      unfolding digits
      three_digits c small third size = only_three size ∙ ap (λ x. x ∷ get_or word 1 0 ∷ get_or word 2 0 ∷ []) first ∙ ap (λ x. (48 + a) ∷ x ∷ get_or word 2 0 ∷ []) second
          ∙ ap (λ x. (48 + a) ∷ (48 + b) ∷ x ∷ []) third
          ∙ sym (more 63 (a * 10 + b) c [] (omega (arith, some)) small ∙ more 62 a b ((48 + c) ∷ []) some digit_too ∙ last 61 a ((48 + b) ∷ (48 + c) ∷ []) digit)
