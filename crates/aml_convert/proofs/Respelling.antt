-- Numbers whose digits in one base are read in another, digit by digit.
use Rattle.std.proofs.Common.{◌≡◌, ℕ, ◌+◌, ◌*◌, ◌/◌, ◌%◌, ◌^◌, ◌<◌, ◌≤◌, nat_lt, ◌&&◌, Bool, true, false, List, [], ◌∷◌, ◌++◌, length, refl, ap, sym, ◌∙◌, arith}
use Rattle.std.proofs.Math.Nat.{pow-le-pow_right, le-mul_of_pos_right}
use Rattle.std.proofs.lemmas.Nat.{mul-le}
use Rattle.std.proofs.lemmas.Bool.{lt-ltb, le-ltb}
use Rattle.std.proofs.lemmas.List.Folds.{list_all-append}
use Rattle.std.proofs.lemmas.Int.Digits.{digits_of_step, length-digits_of-le, all_below_base_digits_of, number_lt, number_push, number_digits_of}
use Rattle.std.specs.Int.Digits.{digits_of, number_from_digits, number_from_digits_after, AllBelowBase}
use Rattle.std.specs.List.{list_all}
use Rattle.aml_convert.specs.Decimals.{respelled, is_coded_decimal}

-- ---- whether each digit is a decimal one

and_true : (b : Bool) → (b && true) ≡ b
and_true true = refl
and_true false = refl

and_false : (b : Bool) → (b && false) ≡ false
and_false true = refl
and_false false = refl

all_and_last : (p : ℕ → Bool) (ds : List ℕ) (d : ℕ) → list_all p (ds ++ d ∷ []) ≡ (list_all p ds && p d)
all_and_last p ds d = list_all-append p ds (d ∷ []) ∙ ap (λ b. list_all p ds && b) (and_true (p d))

coded_step : (n : ℕ) → 0 < n → is_coded_decimal n ≡ (is_coded_decimal (n / 16) && nat_lt (n % 16) 10)
coded_step n p = ap (list_all (λ d. nat_lt d 10)) (digits_of_step 16 n (omega arith) p) ∙ all_and_last (λ d. nat_lt d 10) (digits_of 16 (n / 16)) (n % 16)

pub coded_goes_on : (n : ℕ) → 0 < n → n % 16 ≤ 9 → is_coded_decimal (n / 16) ≡ is_coded_decimal n
coded_goes_on n p small = sym (coded_step n p ∙ ap (λ b. is_coded_decimal (n / 16) && b) (lt-ltb (n % 16) 10 (omega (arith, small))) ∙ and_true (is_coded_decimal (n / 16)))

pub coded_ends : (n : ℕ) → 0 < n → 9 < n % 16 → false ≡ is_coded_decimal n
coded_ends n p large = sym (coded_step n p ∙ ap (λ b. is_coded_decimal (n / 16) && b) (le-ltb (n % 16) 10 (omega (arith, large))) ∙ and_false (is_coded_decimal (n / 16)))

-- ---- the number that the digits spell

pub respelled_step : (from to n : ℕ) → 2 ≤ from → 0 < n → respelled from to n ≡ respelled from to (n / from) * to + n % from
respelled_step from to n b p = ap (number_from_digits to) (digits_of_step from n b p) ∙ number_push to (digits_of from (n / from)) (n % from)

-- nothing is spelled by the digits of 0
pub respelled_zero : (from to : ℕ) → respelled from to 0 ≡ 0
respelled_zero from to = refl

-- fewer digits spell no greater number
pub respelled_front : (from to n : ℕ) → 2 ≤ from → 0 < n → 1 ≤ to → respelled from to (n / from) ≤ respelled from to n
respelled_front from to n b p q =
    let e = respelled_step from to n b p in
    let m = le-mul_of_pos_right {m = to} (respelled from to (n / from)) (omega (arith, q)) in
    omega (arith, e, m)

-- in a lower base digits spell no greater number
lower_after : (to from x y : ℕ) (ds : List ℕ) → to ≤ from → x ≤ y → number_from_digits_after to x ds ≤ number_from_digits_after from y ds
lower_after to from x y [] q le = le
lower_after to from x y (d ∷ ds) q le = lower_after to from (x * to + d) (y * from + d) ds q (let h = mul-le x to y from le q in omega (arith, h))

pub decimal_fits : (n : ℕ) → n < 2 ^ 64 → respelled 16 10 n < 2 ^ 64
decimal_fits n l = let h : respelled 16 10 n ≤ respelled 16 16 n = lower_after 10 16 0 0 (digits_of 16 n) (omega arith) (omega arith) in let e : respelled 16 16 n ≡ n = number_digits_of 16 n (omega arith) in omega (arith, h, e, l)

below_a_greater_base : (a b : ℕ) (ds : List ℕ) → a ≤ b → AllBelowBase a ds → AllBelowBase b ds
below_a_greater_base a b [] q h = tt
below_a_greater_base a b (d ∷ ds) q h = (omega (arith, h.0), below_a_greater_base a b ds q h.1)

pub hexadecimal_fits : (n : ℕ) → n < 10 ^ 16 → respelled 10 16 n < 2 ^ 64
hexadecimal_fits n l =
    let ds = digits_of 10 n in
    let below : AllBelowBase 16 ds = below_a_greater_base 10 16 ds (omega arith) (all_below_base_digits_of 10 n (omega arith)) in
    let h : respelled 10 16 n < 16 ^ length ds = number_lt 16 ds below in
    let short : length ds ≤ 16 = length-digits_of-le 10 16 n (omega arith) l in
    let room : 16 ^ length ds ≤ 16 ^ 16 = pow-le-pow_right (omega arith) short in
    omega (arith, h, room)
