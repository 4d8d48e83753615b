-- Digits one by one.
use Rattle.std.proofs.Common.{◌≡◌, ℕ, suc, ◌+◌, ◌*◌, ◌/◌, ◌%◌, ◌^◌, ◌<◌, ◌≤◌, List, [], ◌∷◌, length, drop, slice_index, Some, None, refl, ap, sym, ◌∙◌, drop-cons, add-one}
use Rattle.std.proofs.Math.Nat.{mod-mod, mod-add-mod, mod-add-div', add-mul, mul_right_comm, add-mul-mod_self_right}
use Rattle.std.specs.Int.Digits.{number_from_digits_after}
use Rattle.std.proofs.Math.ListN.{drop_of_length-le}
use Rattle.ar_space.specs.declared.integer_width.IntegerWidth.{IntegerWidth}
use Rattle.ar_space.specs.declared.integer_width.IntegerWidth.TheVariants.{Bits32, Bits64}
use Rattle.aml_convert.specs.declared.digits.Base.{Base}
use Rattle.aml_convert.specs.Integers.{bits_of, truncated}
use Rattle.aml_convert.specs.Digits.{base_of, digit_value, leading_digits}

mod_times : (m n b : ℕ) → (n % m * b) % m ≡ (n * b) % m
mod_times m n b = sym (ap (λ (x : ℕ). (x * b) % m) (sym (mod-add-div' n m)) ∙ ap (λ (x : ℕ). x % m) (add-mul (n % m) (n / m * m) b ∙ ap (λ (x : ℕ). n % m * b + x) (mul_right_comm (n / m) m b)) ∙ add-mul-mod_self_right (n % m * b) (n / m * b) m)

-- what is dropped of a number is dropped of what its digits go on to
step_mod : (m b n d : ℕ) → (n % m * b + d) % m ≡ (n * b + d) % m
step_mod m b n d = sym (mod-add-mod (n % m * b) m d) ∙ ap (λ x. (x + d) % m) (mod_times m n b) ∙ mod-add-mod (n * b) m d

same_after : (m b x y : ℕ) (ds : List ℕ) → x % m ≡ y % m → number_from_digits_after b x ds % m ≡ number_from_digits_after b y ds % m
same_after m b x y [] e = e
same_after m b x y (d ∷ ds) e =
    same_after m b (x * b + d) (y * b + d) ds (sym (step_mod m b x d) ∙ ap (λ z. (z * b + d) % m) e ∙ step_mod m b y d)

-- the number so far, and the digits that are left
abbrev pub number_on : IntegerWidth → Base → ℕ → List ℕ → ℕ
number_on w base n cs = truncated w (number_from_digits_after (base_of base) n (leading_digits base cs))

pub at_digit : (w : IntegerWidth) (base : Base) (n d i : ℕ) (c : ℕ) (cs : List ℕ) → i < length cs → c ≡ slice_index cs i → Some d ≡ digit_value base c
    → number_on w base n (drop i cs) ≡ number_on w base (truncated w (n * base_of base + d)) (drop (i + 1) cs)
unfolding leading_digits
at_digit w base n d i c cs l at is =
    rw (add-one, drop-cons cs i 0 l, ← at, ← is) (same_after (2 ^ bits_of w) (base_of base) (n * base_of base + d) (truncated w (n * base_of base + d)) (leading_digits base (drop (suc i) cs)) (sym (mod-mod (n * base_of base + d) (2 ^ bits_of w))))

pub at_other : (w : IntegerWidth) (base : Base) (n i : ℕ) (c : ℕ) (cs : List ℕ) → i < length cs → c ≡ slice_index cs i → None ≡ digit_value base c
    → number_on w base n (drop i cs) ≡ truncated w n
unfolding leading_digits
at_other w base n i c cs l at is = rw (drop-cons cs i 0 l, ← at, ← is) refl

pub at_start : (w : IntegerWidth) → truncated w 0 ≡ 0
at_start Bits32 = refl
at_start Bits64 = refl

pub is_integer : (w : IntegerWidth) (n m : ℕ) → n ≡ truncated w m → truncated w n ≡ n
is_integer w n m e = ap (truncated w) e ∙ mod-mod m (2 ^ bits_of w) ∙ sym e

pub at_end : (w : IntegerWidth) (base : Base) (n i : ℕ) (cs : List ℕ) → length cs ≤ i → number_on w base n (drop i cs) ≡ truncated w n
unfolding leading_digits
at_end w base n i cs l = rw (drop_of_length-le cs l) refl
