-- Where conversions answer: strings of integers, binary coded decimal, and joined resources.
use Rattle.std.specs.Prelude.{◌≡◌, ◌⊎◌, ◌<◌, ◌+◌, ◌-◌, ◌*◌, ◌/◌, ◌%◌, ◌^◌, ◌==◌, ◌&&◌, ℕ, zero, suc, nat_lt, Bool, true, false, List, [], ◌∷◌, ◌++◌, length, take, slice_index, decimal, Some, Ok, refl, if◌then◌else◌}
use Rattle.std.specs.List.{list_all, flat_map, join_by}
use Rattle.std.specs.Option.{option_map}
use Rattle.std.proofs.Common.{arith, inl, inr}
use Rattle.std.proofs.lemmas.Bool.Decides.{nat_tests}
use Rattle.std.specs.Int.Digits.{digits_of}
use Rattle.byteorder.specs.Endian.{big_bytes}
use Rattle.hex.specs.Hex.{encode_with, encode_upper, upper_digits}
use Rattle.ar_space.specs.Outcome.{◌>>=◌}
use Rattle.ar_space.specs.declared.integer_width.IntegerWidth.{IntegerWidth}
use Rattle.acpi_resources.specs.Items.{ResourceItem, items_of}
use Rattle.acpi_resources.specs.EndTags.{item_length, length_before_end}
use Rattle.aml_objects.specs.Contents.{Integer, Buffer}
use Rattle.aml_convert.specs.Integers.{bytes_of, truncated}
use Rattle.aml_convert.specs.Conversions.{two_digits, to_text_of}
use Rattle.aml_convert.specs.Strings.{decimal_string_of}
use Rattle.aml_convert.specs.Decimals.{respelled, coded_decimal, decoded_decimal}
use Rattle.aml_convert.specs.Concatenation.{before_end, resources_joined}
use Rattle.aml_laws.specs.Digits.{is_upper_digit}
use Rattle.aml_laws.specs.ResourceLists.{HasEndTag, here, later}
use Rattle.aml_laws.proofs.IntegersInStrings.{AllBytes, big_are_bytes, high_half, low_half, text_length}

-- ---- strings of integers

both_true : (b c : Bool) → (b && c) ≡ true → (b ≡ true) × (c ≡ true)
both_true true c h = (refl, h)
both_true false c h = absurd (cc h)

all_at : (test : ℕ → Bool) (xs : List ℕ) (i : ℕ) → list_all test xs ≡ true → i < length xs → test (slice_index xs i) ≡ true
all_at test [] i all less = absurd (omega (arith, less))
all_at test (x ∷ xs) zero all less = (both_true (test x) (list_all test xs) all).0
all_at test (x ∷ xs) (suc i) all less = all_at test xs i (both_true (test x) (list_all test xs) all).1 (omega (arith, less))

digit_at : (i : ℕ) → i < 16 → is_upper_digit (slice_index upper_digits i) ≡ true
digit_at i less = all_at is_upper_digit upper_digits i refl less

all_upper : (bytes : List ℕ) → AllBytes bytes → list_all is_upper_digit (encode_upper bytes) ≡ true
unfolding encode_with
all_upper [] h = refl
all_upper (b ∷ bs) h = rw (digit_at (b / 16) (high_half b h.0), digit_at (b % 16) (low_half b)) (all_upper bs h.1)

pub text_answers : (w : IntegerWidth) (n : ℕ) → (text : List ℕ) × ((to_text_of w (Integer n) ≡ Ok text) × ((length text ≡ 2 * bytes_of w) × (list_all is_upper_digit text ≡ true)))
text_answers w n = (encode_upper (big_bytes (bytes_of w) (truncated w n)), (refl, (text_length w (truncated w n), all_upper (big_bytes (bytes_of w) (truncated w n)) (big_are_bytes (bytes_of w) (truncated w n)))))

pub decimal_answers : (n : ℕ) → (text : List ℕ) × (decimal_string_of (Integer n) ≡ Ok text)
decimal_answers n = (decimal n, refl)

-- two digits for each byte, and a blank before all but the first
flat_length : (bytes : List ℕ) → length (flat_map (λ b. (32 ∷ []) ++ two_digits b) bytes) ≡ 3 * length bytes
unfolding encode_with
flat_length [] = refl
flat_length (b ∷ bs) = let rest = flat_length bs in omega (arith, rest)

buffer_length : (bytes : List ℕ) → length (join_by two_digits (32 ∷ []) bytes) ≡ 3 * length bytes - 1
unfolding encode_with
buffer_length [] = refl
buffer_length (b ∷ bs) = let rest = flat_length bs in omega (arith, rest)

pub buffer_answers : (w : IntegerWidth) (bytes : List ℕ) → (text : List ℕ) × ((to_text_of w (Buffer bytes) ≡ Ok text) × (length text ≡ 3 * length bytes - 1))
buffer_answers w bytes = (join_by two_digits (32 ∷ []) bytes, (refl, buffer_length bytes))

-- ---- binary coded decimal

pub coded_answers : (w : IntegerWidth) (n : ℕ) → n < 10 ^ (2 * bytes_of w) → (code : ℕ) × (coded_decimal w n ≡ Ok code)
coded_answers w n less = let test : nat_lt n (10 ^ (2 * bytes_of w)) ≡ true = grind (arith, nat_tests) in (respelled 10 16 n, rw test refl)

pub decoded_answers : (code : ℕ) → list_all (λ d. nat_lt d 10) (digits_of 16 code) ≡ true → (n : ℕ) × (decoded_decimal code ≡ Ok n)
decoded_answers code all = (respelled 16 10 code, rw all refl)

-- ---- joined resources

module _ (item : ResourceItem) (items : List ResourceItem) where
  counted_by : (b : Bool) (n : ℕ) → length_before_end items ≡ Some n → (k : ℕ) × ((if b then Some 0 else option_map (λ n. item_length item + n) (length_before_end items)) ≡ Some k)
  counted_by true n is = (0, refl)
  counted_by false n is = (item_length item + n, rw is refl)

ends_before : (items : List ResourceItem) → HasEndTag items → (n : ℕ) × (length_before_end items ≡ Some n)
unfolding length_before_end
ends_before _ (here item items is) = (0, rw is refl)
ends_before _ (later item items rest) = let before = ends_before items rest in counted_by item items (item.tag == 0x79) before.0 before.1

pub front_answers : (bytes : List ℕ) → (bytes ≡ []) ⊎ HasEndTag (items_of bytes) → (front : List ℕ) × (before_end bytes ≡ Ok front)
front_answers [] h = ([], refl)
front_answers (b ∷ bs) (inl none) = absurd (cc none)
front_answers (b ∷ bs) (inr h) = let before = ends_before (items_of (b ∷ bs)) h in (take before.0 (b ∷ bs), rw before.1 refl)

pub joined_answers : (s t : List ℕ) → (s ≡ []) ⊎ HasEndTag (items_of s) → (t ≡ []) ⊎ HasEndTag (items_of t) → (joined : List ℕ) × (resources_joined (Buffer s) (Buffer t) ≡ Ok joined)
unfolding resources_joined ◌>>=◌
joined_answers s t h i = let front = front_answers s h in let back = front_answers t i in (front.0 ++ back.0 ++ 0x79 ∷ 0x00 ∷ [], rw (front.1, back.1) refl)

pub ruleset conversions_answer = (text_answers, decimal_answers, buffer_answers, coded_answers, decoded_answers, joined_answers)
