-- Which strings and buffers values convert to, and what has no conversion.
use Rattle.std.specs.Prelude.{◌≡◌, ◌⊎◌, ◌<◌, ◌+◌, ◌/◌, ◌%◌, ◌^◌, ℕ, zero, suc, List, [], ◌∷◌, ◌++◌, length, map, take, slice_index, Ok, Err, refl}
use Rattle.std.specs.List.{join_by}
use Rattle.std.specs.Int.Digits.{digits_of, number_from_digits}
use Rattle.std.proofs.Common.{arith, inl, inr, ap, sym, subst, ◌∙◌}
use Rattle.std.proofs.Math.Nat.{mod-lt}
use Rattle.std.proofs.lemmas.Fmt.{decimal-digits_of, decimal_digit}
use Rattle.byteorder.specs.Endian.{little_from}
use Rattle.byteorder.specs.Numbers.{little_number-reads_back, length-bytes_low_first}
use Rattle.hex.specs.Hex.{encode_with, upper_digits}
use Rattle.ar_space.specs.declared.integer_width.IntegerWidth.{IntegerWidth}
use Rattle.ar_space.specs.declared.integer_width.IntegerWidth.TheVariants.{Bits32, Bits64}
use Rattle.ar_space.specs.declared.refusal.Refusal.TheVariants as refusal
use Rattle.ar_space.specs.declared.refusal.ValueFault.TheVariants.{WrongType, EmptyValue}
use Rattle.aml_objects.specs.Contents.{Integer, String, Buffer, content_in}
use Rattle.aml_objects.specs.declared.value.Value.{Value}
use Rattle.aml_convert.specs.declared.digits.Base.TheVariants.{Hexadecimal}
use Rattle.aml_convert.specs.Integers.{bits_of, bytes_of, truncated}
use Rattle.aml_convert.specs.Digits.{digit_and, leading_digits, leading_number}
use Rattle.aml_convert.specs.Conversions.{two_digits, to_text_of, integer_bytes, to_buffer_of, explicit_integer_of}
use Rattle.aml_convert.specs.Strings.{decimal_string_of, hexadecimal_string_of}
use Rattle.aml_world.specs.state.State.{State}
use Rattle.aml_world.specs.state.Readings.{integer_in}
use Rattle.aml_laws.specs.IntegersOfValues.{lowest_first, AreDigits}
use Rattle.aml_laws.specs.Plain.{AreBytes}
use Rattle.aml_laws.specs.Spellings.{IsUpperDigit, figure, letter, SpellsBytes, none, one, more, BeginsWithout, nothing, other}
use Rattle.aml_laws.specs.StoredParts.{IsNoData, uninitialized, a_package, a_reference}
use Rattle.aml_laws.proofs.IntegersInStrings.{high_half, low_half}
use Rattle.aml_laws.proofs.IntegersOfContents.{integer_bytes_are_bytes}
use Rattle.aml_laws.proofs.IntegersOfValues.{little_is, no_value, digits_lead, number_led}

-- ---- strings of bytes

AllFrom : (ℕ → ℕ → Type 0) → ℕ → List ℕ → Type 0
AllFrom P k [] = Unit {0}
AllFrom P k (x ∷ xs) = P x k × AllFrom P (suc k) xs

at_place : (P : ℕ → ℕ → Type 0) (xs : List ℕ) (k i : ℕ) → AllFrom P k xs → i < length xs → P (slice_index xs i) (k + i)
unfolding AllFrom
at_place P [] k i all less = absurd (omega (arith, less))
at_place P (x ∷ xs) k zero all less = let same : k ≡ k + 0 = omega arith in subst (λ n. P x n) same all.0
at_place P (x ∷ xs) k (suc i) all less = let same : suc k + i ≡ k + suc i = omega arith in subst (λ n. P (slice_index xs i) n) same (at_place P xs (suc k) i all.1 (omega (arith, less)))

all_digits : AllFrom IsUpperDigit 0 upper_digits
unfolding AllFrom
all_digits = (
  figure 0 (omega arith),
  (
    figure 1 (omega arith),
    (
      figure 2 (omega arith),
      (
        figure 3 (omega arith),
        (
          figure 4 (omega arith),
          (
            figure 5 (omega arith),
            (
              figure 6 (omega arith),
              (
                figure 7 (omega arith),
                (
                  figure 8 (omega arith),
                  (
                    figure 9 (omega arith),
                    (letter 0 (omega arith), (letter 1 (omega arith), (letter 2 (omega arith), (letter 3 (omega arith), (letter 4 (omega arith), (letter 5 (omega arith), tt)))))),
                  ),
                ),
              ),
            ),
          ),
        ),
      ),
    ),
  ),
)

pub digit_there : (d : ℕ) → d < 16 → IsUpperDigit (slice_index upper_digits d) d
digit_there d less = subst (λ n. IsUpperDigit (slice_index upper_digits d) n) (omega arith) (at_place IsUpperDigit upper_digits 0 d all_digits less)

spelled : (bytes : List ℕ) → AreBytes bytes → SpellsBytes bytes (join_by two_digits (32 ∷ []) bytes)
unfolding encode_with
spelled [] h = none
spelled (b ∷ []) h = one b (slice_index upper_digits (b / 16)) (slice_index upper_digits (b % 16)) (digit_there (b / 16) (high_half b (h 0))) (digit_there (b % 16) (low_half b))
spelled (b ∷ c ∷ bytes) h =
    more b (slice_index upper_digits (b / 16)) (slice_index upper_digits (b % 16)) c bytes (join_by two_digits (32 ∷ []) (c ∷ bytes)) (digit_there (b / 16) (high_half b (h 0))) (digit_there (b % 16) (low_half b))
    (spelled (c ∷ bytes) (λ i. h (suc i)))

pub text_of_bytes : (width : IntegerWidth) (bytes : List ℕ) → AreBytes bytes → (text : List ℕ) × ((to_text_of width (Buffer bytes) ≡ Ok text) × SpellsBytes bytes text)
text_of_bytes width bytes h = (join_by two_digits (32 ∷ []) bytes, (refl, spelled bytes h))

pub text_of_string : (width : IntegerWidth) (text : List ℕ) → (to_text_of width (String text) ≡ Ok text) × (decimal_string_of (String text) ≡ Ok text)
text_of_string width text = (refl, refl)

pub decimal_text : (n : ℕ) → 0 < n → n < 2 ^ 64 → decimal_string_of (Integer n) ≡ Ok (map (λ d. 48 + d) (digits_of 10 n))
decimal_text n some less = ap Ok (decimal-digits_of n some less)

pub decimal_text_of_0 : decimal_string_of (Integer 0) ≡ Ok (48 ∷ [])
decimal_text_of_0 = ap Ok (decimal_digit 0 (omega arith))

-- ---- buffers

width_bytes : (width : IntegerWidth) → 2 ^ bits_of width ≡ 256 ^ bytes_of width
width_bytes Bits32 = refl
width_bytes Bits64 = refl

all_taken : (bytes : List ℕ) (k : ℕ) → length bytes ≡ k → take k bytes ≡ bytes
all_taken [] zero e = refl
all_taken [] (suc k) e = refl
all_taken (b ∷ bytes) zero e = absurd (omega (arith, e))
all_taken (b ∷ bytes) (suc k) e = ap (λ l. b ∷ l) (all_taken bytes k (omega (arith, e)))

pub bytes_of_integer : (width : IntegerWidth) (n : ℕ) → (bytes : List ℕ) × ((to_buffer_of width (Integer n) ≡ Ok bytes) × (length bytes ≡ bytes_of width) × AreBytes bytes × (lowest_first bytes ≡ n % 2 ^ bits_of width))
bytes_of_integer width n =
    let bytes = integer_bytes width n in
    let long : length bytes ≡ bytes_of width = length-bytes_low_first 0 (bytes_of width) (truncated width n) in
    let less : truncated width n < 2 ^ bits_of width = below width n in
    let read : little_from 0 (bytes_of width) (bytes ++ []) ≡ truncated width n = little_number-reads_back (bytes_of width) (truncated width n) [] (subst (λ m. truncated width n < m) (width_bytes width) less) in
    let whole : little_from 0 (bytes_of width) bytes ≡ lowest_first bytes = little_is (bytes_of width) bytes ∙ ap lowest_first (all_taken bytes (bytes_of width) long) in
    (bytes, (refl, long, integer_bytes_are_bytes width n, sym whole ∙ (ap (λ l. little_from 0 (bytes_of width) l) (sym (no_more bytes)) ∙ read)))
  where
    below : (width : IntegerWidth) (n : ℕ) → truncated width n < 2 ^ bits_of width
    below Bits32 n = mod-lt n (omega arith)
    below Bits64 n = mod-lt n (omega arith)

    no_more : (xs : List ℕ) → xs ++ [] ≡ xs
    no_more [] = refl
    no_more (x ∷ xs) = ap (λ l. x ∷ l) (no_more xs)

pub bytes_of_string : (width : IntegerWidth) (c : ℕ) (text : List ℕ) → (to_buffer_of width (String (c ∷ text)) ≡ Ok (c ∷ text ++ 0 ∷ [])) × (to_buffer_of width (String []) ≡ Ok [])
bytes_of_string width c text = (refl, refl)

pub bytes_themselves : (width : IntegerWidth) (bytes : List ℕ) → to_buffer_of width (Buffer bytes) ≡ Ok bytes
bytes_themselves width bytes = refl

-- ---- what is none of the three

module _ {S : Type 0} (w : State S) where
  pub no_integer : (v : Value) → IsNoData v → integer_in v w ≡ (Err (refusal.Value WrongType), w)
  unfolding integer_in
  no_integer _ uninitialized = refl
  no_integer _ (a_package o) = refl
  no_integer _ (a_reference r) = refl

  pub no_text : (v : Value) → IsNoData v → (to_text_of w.width (content_in w.objects v) ≡ Err (refusal.Value WrongType)) × (decimal_string_of (content_in w.objects v) ≡ Err (refusal.Value WrongType)) × (hexadecimal_string_of w.width (content_in w.objects v) ≡ Err (refusal.Value WrongType))
  no_text _ uninitialized = (refl, refl, refl)
  no_text _ (a_package o) = (refl, refl, refl)
  no_text _ (a_reference r) = (refl, refl, refl)

  pub no_bytes : (v : Value) → IsNoData v → to_buffer_of w.width (content_in w.objects v) ≡ Err (refusal.Value WrongType)
  no_bytes _ uninitialized = refl
  no_bytes _ (a_package o) = refl
  no_bytes _ (a_reference r) = refl

  pub no_numeral : (v : Value) → IsNoData v → explicit_integer_of w.width (content_in w.objects v) ≡ Err (refusal.Value WrongType)
  no_numeral _ uninitialized = refl
  no_numeral _ (a_package o) = refl
  no_numeral _ (a_reference r) = refl

-- ---- ToInteger

led_by_none : (text : List ℕ) → BeginsWithout text → leading_digits Hexadecimal text ≡ []
unfolding leading_digits
led_by_none _ nothing = refl
led_by_none _ (other c text not) = ap (λ o. digit_and o (leading_digits Hexadecimal text)) (no_value c not)

pub hexadecimal_numeral : (width : IntegerWidth) (x : ℕ) (digits numbers rest : List ℕ) → (x ≡ 120) ⊎ (x ≡ 88) → AreDigits digits numbers → BeginsWithout rest → explicit_integer_of width (String (48 ∷ x ∷ digits ++ rest)) ≡ Ok (number_from_digits 16 numbers % 2 ^ bits_of width)
hexadecimal_numeral width x digits numbers rest is are ends = by is
  where
    led : leading_number width Hexadecimal (digits ++ rest) ≡ number_from_digits 16 numbers % 2 ^ bits_of width
    led = number_led width (digits ++ rest) numbers (digits_lead digits numbers rest are (led_by_none rest ends))

    by : (x ≡ 120) ⊎ (x ≡ 88) → explicit_integer_of width (String (48 ∷ x ∷ digits ++ rest)) ≡ Ok (number_from_digits 16 numbers % 2 ^ bits_of width)
    by (inl e) = rw e (ap Ok led)
    by (inr e) = rw e (ap Ok led)

pub numeral_of_bytes : (width : IntegerWidth) (b : ℕ) (bytes : List ℕ) → explicit_integer_of width (Buffer (b ∷ bytes)) ≡ Ok (lowest_first (take (bytes_of width) (b ∷ bytes)))
numeral_of_bytes width b bytes = ap Ok (little_is (bytes_of width) (b ∷ bytes))

pub numeral_of_integer : (width : IntegerWidth) (n : ℕ) → explicit_integer_of width (Integer n) ≡ Ok n
numeral_of_integer width n = refl

pub numeral_of_nothing : (width : IntegerWidth) → (explicit_integer_of width (String []) ≡ Err (refusal.Value EmptyValue)) × (explicit_integer_of width (Buffer []) ≡ Err (refusal.Value EmptyValue))
numeral_of_nothing width = (refl, refl)
