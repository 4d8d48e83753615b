-- The hexadecimal digits of a number in binary coded decimal are the decimal digits of the number.
use Rattle.std.specs.Prelude.{◌≡◌, ◌<◌, ◌≤◌, ℕ, zero, suc, ◌+◌, ◌*◌, ◌/◌, ◌%◌, ◌^◌, nat_lt, ◌&&◌, Bool, true, false, if◌then◌else◌, List, [], ◌∷◌, ◌++◌, length, Ok, Err, refl}
use Rattle.std.proofs.Common.{arith, ap, sym, subst, ◌∙◌, length-append}
use Rattle.std.proofs.Math.Nat.{div-add-mod', div-lt_self}
use Rattle.std.proofs.lemmas.Nat.{div-mul-add, mod-mul-add}
use Rattle.std.proofs.lemmas.Bool.Decides.{nat_tests}
use Rattle.std.proofs.lemmas.Bool.{lt-ltb}
use Rattle.std.proofs.lemmas.Int.Digits.{digits_of_step, all_below_base_digits_of, number_digits_of, number_push, same_from_digits_of}
use Rattle.std.specs.Int.Digits.{digits_of, number_from_digits, AllBelowBase}
use Rattle.std.specs.List.{list_all}
use Rattle.ar_space.specs.declared.refusal.Refusal.{Refusal}
use Rattle.ar_space.specs.declared.refusal.Refusal.TheVariants.{Value}
use Rattle.ar_space.specs.declared.refusal.ValueFault.TheVariants.{WrongType}
use Rattle.ar_space.specs.Outcome.{Outcome}
use Rattle.ar_space.specs.declared.integer_width.IntegerWidth.{IntegerWidth}
use Rattle.aml_convert.specs.Integers.{bytes_of}
use Rattle.aml_convert.specs.Decimals.{respelled, is_coded_decimal, decoded_decimal, coded_decimal}

abbrev wrong : Refusal
wrong = Value WrongType

-- each digit is below the base
all_split : (b : ℕ) (ds : List ℕ) (d : ℕ) → AllBelowBase b (ds ++ d ∷ []) → AllBelowBase b ds × (d < b)
all_split b [] d h = (tt, h.0)
all_split b (e ∷ ds) d h = let rest = all_split b ds d h.1 in ((h.0, rest.0), rest.1)

not_none : (ds : List ℕ) (d : ℕ) → ds ++ d ∷ [] ≡ [] → ⊥
not_none ds d e = let long = ap length e in let sum = length-append ds (d ∷ []) in absurd (omega (arith, long, sum))

-- the digits of a number whose last digit and front are known
pushed : (b q r : ℕ) → 2 ≤ b → r < b → 0 < q * b + r → digits_of b (q * b + r) ≡ digits_of b q ++ r ∷ []
pushed b q r two less some =
    digits_of_step b (q * b + r) two some ∙ ap (λ k. digits_of b k ++ (q * b + r) % b ∷ []) (div-mul-add q b r less) ∙ ap (λ k. digits_of b q ++ k ∷ []) (mod-mul-add q b r less)

respelled_step : (a b n : ℕ) → 2 ≤ a → 0 < n → respelled a b n ≡ respelled a b (n / a) * b + n % a
respelled_step a b n two some = ap (number_from_digits b) (digits_of_step a n two some) ∙ number_push b (digits_of a (n / a)) (n % a)

-- digits with any before the last one spell more than 0
some_front : (a b q k r : ℕ) → 2 ≤ a → 2 ≤ b → digits_of b q ≡ digits_of a (suc k) → 0 < q * b + r
some_front a b zero k r two_a two_b same = absurd (not_none (digits_of a (suc k / a)) (suc k % a) (sym (same ∙ digits_of_step a (suc k) two_a (omega arith))))
some_front a b (suc q) k r two_a two_b same = omega (arith, two_b)

spells_some : (a b n q k : ℕ) → 2 ≤ a → 2 ≤ b → 0 < n → n / a ≡ k → digits_of b q ≡ digits_of a k → 0 < q * b + n % a
spells_some a b n q zero two_a two_b some is same =
    let whole = div-add-mod' n a in
    let none : n / a * a ≡ 0 * a = ap (λ x. x * a) is in
    omega (arith, whole, none, some)
spells_some a b n q (suc k) two_a two_b some is same = some_front a b q k (n % a) two_a two_b same

-- digits that are below both bases stay the same where they are read in the other one
kept_within : (turns a b n : ℕ) → n ≤ turns → 2 ≤ a → 2 ≤ b → AllBelowBase b (digits_of a n) → digits_of b (respelled a b n) ≡ digits_of a n
kept_within turns a b zero le two_a two_b below = refl
kept_within zero a b (suc m) le two_a two_b below = absurd (omega arith)
kept_within (suc turns) a b (suc m) le two_a two_b below =
    let step = digits_of_step a (suc m) two_a (omega arith) in
    let parts = all_split b (digits_of a (suc m / a)) (suc m % a) (subst (AllBelowBase b) step below) in
    let shorter : suc m / a < suc m = div-lt_self (omega arith) (omega (arith, two_a)) in
    let front = kept_within turns a b (suc m / a) (omega (arith, shorter, le)) two_a two_b parts.0 in
    ap (digits_of b) (respelled_step a b (suc m) two_a (omega arith))
    ∙ pushed b (respelled a b (suc m / a)) (suc m % a) two_b parts.1 (spells_some a b (suc m) (respelled a b (suc m / a)) (suc m / a) two_a two_b (omega arith) refl front)
    ∙ ap (λ ds. ds ++ suc m % a ∷ []) front ∙ sym step

below_more : (a b : ℕ) (ds : List ℕ) → a ≤ b → AllBelowBase a ds → AllBelowBase b ds
below_more a b [] le h = tt
below_more a b (d ∷ ds) le h = (omega (arith, h.0), below_more a b ds le h.1)

-- ---- binary coded decimal

coded_digits : (n : ℕ) → digits_of 16 (respelled 10 16 n) ≡ digits_of 10 n
coded_digits n = kept_within n 10 16 n (omega arith) (omega arith) (omega arith) (below_more 10 16 (digits_of 10 n) (omega arith) (all_below_base_digits_of 10 n (omega arith)))

all_are_decimal : (ds : List ℕ) → AllBelowBase 10 ds → list_all (λ d. nat_lt d 10) ds ≡ true
all_are_decimal [] h = refl
all_are_decimal (d ∷ ds) h = ap (λ b. b && list_all (λ d. nat_lt d 10) ds) (lt-ltb d 10 h.0) ∙ all_are_decimal ds h.1

is_lower : (d k : ℕ) → nat_lt d k ≡ true → d < k
is_lower d k h = grind (arith, nat_tests)

both : (b c : Bool) → (b && c) ≡ true → (b ≡ true) × (c ≡ true)
both true c h = (refl, h)
both false c h = absurd (cc h)

decimals_are_below : (ds : List ℕ) → list_all (λ d. nat_lt d 10) ds ≡ true → AllBelowBase 10 ds
decimals_are_below [] h = tt
decimals_are_below (d ∷ ds) h = let parts = both (nat_lt d 10) (list_all (λ d. nat_lt d 10) ds) h in (is_lower d 10 parts.0, decimals_are_below ds parts.1)

abbrev choice : Bool → ℕ → Outcome ℕ
choice b k = if b then Ok k else Err wrong

chosen : (b : Bool) (k m : ℕ) → choice b k ≡ Ok m → (b ≡ true) × (k ≡ m)
chosen true k m e = (refl, cc e)
chosen false k m e = absurd (cc e)

pub coded_has_digits : (w : IntegerWidth) (n m : ℕ) → coded_decimal w n ≡ Ok m → digits_of 16 m ≡ digits_of 10 n
coded_has_digits w n m is = let parts = chosen (nat_lt n (10 ^ (2 * bytes_of w))) (respelled 10 16 n) m is in subst (λ k. digits_of 16 k ≡ digits_of 10 n) parts.1 (coded_digits n)

pub coded_decodes : (w : IntegerWidth) (n m : ℕ) → coded_decimal w n ≡ Ok m → decoded_decimal m ≡ Ok n
coded_decodes w n m is =
    let same = coded_has_digits w n m is in
    let decimal : is_coded_decimal m ≡ true = ap (list_all (λ d. nat_lt d 10)) same ∙ all_are_decimal (digits_of 10 n) (all_below_base_digits_of 10 n (omega arith)) in
    ap (λ b. choice b (respelled 16 10 m)) decimal ∙ ap (λ ds. Ok (number_from_digits 10 ds)) same ∙ ap (λ k. Ok k) (number_digits_of 10 n (omega arith))

pub decoded_has_digits : (m n : ℕ) → decoded_decimal m ≡ Ok n → digits_of 10 n ≡ digits_of 16 m
decoded_has_digits m n is =
    let parts = chosen (is_coded_decimal m) (respelled 16 10 m) n is in
    subst (λ k. digits_of 10 k ≡ digits_of 16 m) parts.1 (kept_within m 16 10 m (omega arith) (omega arith) (omega arith) (decimals_are_below (digits_of 16 m) parts.0))

pub decoded_codes : (w : IntegerWidth) (m n k : ℕ) → decoded_decimal m ≡ Ok n → coded_decimal w n ≡ Ok k → k ≡ m
decoded_codes w m n k is coded = same_from_digits_of 16 k m (omega arith) (coded_has_digits w n k coded ∙ decoded_has_digits m n is)

pub ruleset binary_coded_decimal_has_the_decimal_digits = (coded_has_digits, decoded_has_digits, coded_decodes, decoded_codes)
