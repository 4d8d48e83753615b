-- An integer is read back from the strings that it is converted to.
use Rattle.std.specs.Prelude.{◌≡◌, ◌<◌, ◌≤◌, ℕ, zero, suc, ◌+◌, ◌*◌, ◌/◌, ◌%◌, ◌^◌, ◌==◌, ◌&&◌, ◌||◌, nat_le, Bool, true, false, if◌then◌else◌, List, [], ◌∷◌, ◌++◌, map, length, take, slice_index, decimal, Some, Ok, refl}
use Rattle.std.proofs.Common.{arith, ap, sym, subst, ◌∙◌, append-nil}
use Rattle.std.proofs.Math.Nat.{mod-eq_of_lt, mod-lt, add-mul, mul_assoc, pow-succ'}
use Rattle.std.proofs.lemmas.Bool.Decides.{nat_tests}
use Rattle.std.proofs.lemmas.List.{take_all}
use Rattle.std.proofs.lemmas.Fmt.{decimal-digits_of, decimal_digit}
use Rattle.std.proofs.lemmas.Int.Digits.{all_below_base_digits_of, number_digits_of, digits_of_step}
use Rattle.std.specs.Int.{byte_at, bytes_high_first}
use Rattle.std.specs.Int.Digits.{digits_of, number_from_digits, number_from_digits_after, AllBelowBase}
use Rattle.byteorder.specs.Endian.{big_from, big_bytes}
use Rattle.byteorder.specs.Numbers.{big_from-bytes, big_from-cons, length-bytes_high_first}
use Rattle.hex.specs.Hex.{encode_with, encode_upper, hex_digit_value, upper_digits}
use Rattle.hex.proofs.HexLemmas.{length-encode_with, IsDigits-upper_digits}
use Rattle.ar_space.specs.declared.integer_width.IntegerWidth.{IntegerWidth}
use Rattle.ar_space.specs.declared.integer_width.IntegerWidth.TheVariants.{Bits32, Bits64}
use Rattle.aml_objects.specs.Contents.{Integer, String}
use Rattle.aml_convert.specs.declared.digits.Base.TheVariants.{Decimal, Hexadecimal}
use Rattle.aml_convert.specs.Integers.{bits_of, bytes_of, truncated}
use Rattle.aml_convert.specs.Digits.{digit_value, digit_and, leading_digits, leading_number}
use Rattle.aml_convert.specs.Conversions.{integer_in_string, numeral, to_integer_of, to_text_of, explicit_integer_of}
use Rattle.aml_convert.specs.Strings.{decimal_string_of}

-- ---- hexadecimal digits, two for each byte

halves : List ℕ → List ℕ
halves [] = []
halves (b ∷ bs) = b / 16 ∷ b % 16 ∷ halves bs

abbrev pub AllBytes : List ℕ → Type 0
AllBytes bytes = AllBelowBase 256 bytes

byte_is_byte : (k n : ℕ) → byte_at k n < 256
byte_is_byte zero n = mod-lt n (omega arith)
byte_is_byte (suc k) n = mod-lt (n / 256 ^ suc k) (omega arith)

pub big_are_bytes : (k n : ℕ) → AllBytes (bytes_high_first k n)
big_are_bytes zero n = tt
big_are_bytes (suc k) n = (byte_is_byte k n, big_are_bytes k n)

pub high_half : (b : ℕ) → b < 256 → b / 16 < 16
high_half b h = omega (arith, h)

pub low_half : (b : ℕ) → b % 16 < 16
low_half b = mod-lt b (omega arith)

encoded_digits : (bytes : List ℕ) → AllBytes bytes → leading_digits Hexadecimal (encode_upper bytes) ≡ halves bytes
unfolding encode_with leading_digits halves
encoded_digits [] h = refl
encoded_digits (b ∷ bs) h =
    ap (λ o. digit_and o (digit_and (hex_digit_value (slice_index upper_digits (b % 16))) (leading_digits Hexadecimal (encode_upper bs)))) (IsDigits-upper_digits (b / 16) (high_half b h.0))
    ∙ ap (λ o. b / 16 ∷ digit_and o (leading_digits Hexadecimal (encode_upper bs))) (IsDigits-upper_digits (b % 16) (low_half b))
    ∙ ap (λ ds. b / 16 ∷ b % 16 ∷ ds) (encoded_digits bs h.1)

number_of_halves : (n : ℕ) (bytes : List ℕ) → number_from_digits_after 16 n (halves bytes) ≡ number_from_digits_after 256 n bytes
unfolding halves
number_of_halves n [] = refl
number_of_halves n (b ∷ bs) = ap (λ k. number_from_digits_after 16 k (halves bs)) (omega arith) ∙ number_of_halves (n * 256 + b) bs

number_of_bytes : (n : ℕ) (bytes : List ℕ) → number_from_digits_after 256 n bytes ≡ n * 256 ^ length bytes + big_from 0 (length bytes) bytes
number_of_bytes n [] = omega arith
number_of_bytes n (b ∷ bs) =
    let p = 256 ^ length bs in
    let moved = big_from-cons 0 (length bs) b bs in
    let power : n * 256 ^ suc (length bs) ≡ n * (256 * p) = ap (λ x. n * x) (pow-succ' 256 (length bs)) in
    let spread : (n * 256 + b) * p ≡ n * 256 * p + b * p = add-mul (n * 256) b p in
    let whole : n * 256 * p ≡ n * (256 * p) = mul_assoc n 256 p in
    number_of_bytes (n * 256 + b) bs ∙ omega (arith, moved, power, spread, whole)

-- ---- as many as an integer has

room : (w : IntegerWidth) → 256 ^ bytes_of w ≡ 2 ^ bits_of w
room Bits32 = refl
room Bits64 = refl

some_bytes : (w : IntegerWidth) → 0 < bytes_of w
some_bytes Bits32 = omega arith
some_bytes Bits64 = omega arith

in_string : (w : IntegerWidth) (s : List ℕ) → 0 < length s → integer_in_string w s ≡ Ok (leading_number w Hexadecimal (take (2 * bytes_of w) s))
in_string w [] h = absurd (omega arith)
in_string w (c ∷ cs) h = refl

bytes_number : (w : IntegerWidth) (n : ℕ) → n < 2 ^ bits_of w → number_from_digits 256 (big_bytes (bytes_of w) n) ≡ n
bytes_number w n h =
    let bytes = big_bytes (bytes_of w) n in
    number_of_bytes 0 bytes ∙ ap (λ k. 0 * 256 ^ length bytes + big_from 0 k bytes) (length-bytes_high_first (bytes_of w) n)
    ∙ omega (arith, ap (λ b. big_from 0 (bytes_of w) b) (append-nil bytes), big_from-bytes (bytes_of w) n [], mod-eq_of_lt (subst (λ m. n < m) (sym (room w)) h))

read_number : (w : IntegerWidth) (n : ℕ) → n < 2 ^ bits_of w → leading_number w Hexadecimal (encode_upper (big_bytes (bytes_of w) n)) ≡ n
unfolding leading_number
read_number w n h =
    let bytes = big_bytes (bytes_of w) n in
    ap (λ ds. truncated w (number_from_digits 16 ds)) (encoded_digits bytes (big_are_bytes (bytes_of w) n))
    ∙ ap (truncated w) (number_of_halves 0 bytes ∙ bytes_number w n h) ∙ mod-eq_of_lt h

pub text_length : (w : IntegerWidth) (n : ℕ) → length (encode_upper (big_bytes (bytes_of w) n)) ≡ 2 * bytes_of w
text_length w n = length-encode_with upper_digits (big_bytes (bytes_of w) n) ∙ ap (λ k. 2 * k) (length-bytes_high_first (bytes_of w) n)

pub text_reads_back : (w : IntegerWidth) (n : ℕ) (text : List ℕ) → n < 2 ^ bits_of w → to_text_of w (Integer n) ≡ Ok text → to_integer_of w (String text) ≡ Ok n
text_reads_back w n text h is =
    let kept : truncated w n ≡ n = mod-eq_of_lt h in
    let spelled : encode_upper (big_bytes (bytes_of w) n) ≡ text = ap (λ k. encode_upper (big_bytes (bytes_of w) k)) (sym kept) ∙ cc is in
    let long = text_length w n in
    let some = some_bytes w in
    subst (λ s. integer_in_string w s ≡ Ok n) spelled
    (in_string w (encode_upper (big_bytes (bytes_of w) n)) (omega (arith, long, some))
    ∙ ap (λ s. Ok (leading_number w Hexadecimal s)) (take_all (2 * bytes_of w) (encode_upper (big_bytes (bytes_of w) n)) (omega (arith, long)))
    ∙ ap (λ k. Ok k) (read_number w n h))

-- ---- decimal digits

spelt : (d : ℕ) → d < 10 → digit_value Decimal (48 + d) ≡ Some d
spelt d h =
    let low : nat_le 48 (48 + d) ≡ true = grind (arith, nat_tests) in
    let high : nat_le (48 + d) 57 ≡ true = grind (arith, nat_tests) in
    rw (low, high) (ap Some (omega arith))

decimal_digits : (ds : List ℕ) → AllBelowBase 10 ds → leading_digits Decimal (map (λ d. 48 + d) ds) ≡ ds
unfolding leading_digits
decimal_digits [] h = refl
decimal_digits (d ∷ ds) h = ap (λ o. digit_and o (leading_digits Decimal (map (λ d. 48 + d) ds))) (spelt d h.0) ∙ ap (λ es. d ∷ es) (decimal_digits ds h.1)

-- no digit is the letter behind which hexadecimal ones stand
no_letter : (d : ℕ) → d < 10 → ((48 + d == 120) || (48 + d == 88)) ≡ false
no_letter d h =
    let small : (48 + d == 120) ≡ false = grind (arith, nat_tests) in
    let large : (48 + d == 88) ≡ false = grind (arith, nat_tests) in
    rw (small, large) refl

and_no : (b c : Bool) → c ≡ false → (b && c) ≡ false
and_no true c h = h
and_no false c h = refl

digits_numeral : (w : IntegerWidth) (ds : List ℕ) → AllBelowBase 10 ds → 0 < length ds → numeral w (map (λ d. 48 + d) ds) ≡ Ok (leading_number w Decimal (map (λ d. 48 + d) ds))
digits_numeral w [] h some = absurd (omega arith)
digits_numeral w (d ∷ []) h some = refl
digits_numeral w (d ∷ e ∷ ds) h some =
    ap (λ b. Ok (if b then leading_number w Hexadecimal (map (λ d. 48 + d) ds) else leading_number w Decimal (map (λ d. 48 + d) (d ∷ e ∷ ds))))
    (and_no (48 + d == 48) ((48 + e == 120) || (48 + e == 88)) (no_letter e h.1.0))

last_is_some : (ds : List ℕ) (d : ℕ) → 0 < length (ds ++ d ∷ [])
last_is_some [] d = omega arith
last_is_some (e ∷ ds) d = omega arith

some_digits : (n : ℕ) → 0 < n → 0 < length (digits_of 10 n)
some_digits n h = subst (λ ds. 0 < length ds) (sym (digits_of_step 10 n (omega arith) h)) (last_is_some (digits_of 10 (n / 10)) (n % 10))

bits_at_most : (w : IntegerWidth) → 2 ^ bits_of w ≤ 2 ^ 64
bits_at_most Bits32 = omega arith
bits_at_most Bits64 = omega arith

zero_numeral : (w : IntegerWidth) → numeral w (48 ∷ []) ≡ Ok 0
unfolding leading_number leading_digits
zero_numeral Bits32 = refl
zero_numeral Bits64 = refl

none_numeral : (w : IntegerWidth) → numeral w (decimal 0) ≡ Ok 0
none_numeral w = ap (numeral w) (decimal_digit 0 (omega arith)) ∙ zero_numeral w

decimal_numeral : (w : IntegerWidth) (n : ℕ) → n < 2 ^ bits_of w → numeral w (decimal n) ≡ Ok n
unfolding leading_number
decimal_numeral w zero h = none_numeral w
decimal_numeral w (suc m) h =
    let ds = digits_of 10 (suc m) in
    let below = all_below_base_digits_of 10 (suc m) (omega arith) in
    subst (λ s. numeral w s ≡ Ok (suc m)) (sym (decimal-digits_of (suc m) (omega arith) (omega (arith, h, bits_at_most w))))
    (digits_numeral w ds below (some_digits (suc m) (omega arith))
    ∙ ap (λ es. Ok (truncated w (number_from_digits 10 es))) (decimal_digits ds below)
    ∙ ap (λ k. Ok (truncated w k)) (number_digits_of 10 (suc m) (omega arith))
    ∙ ap (λ k. Ok k) (mod-eq_of_lt h))

pub decimal_reads_back : (w : IntegerWidth) (n : ℕ) (text : List ℕ) → n < 2 ^ bits_of w → decimal_string_of (Integer n) ≡ Ok text → explicit_integer_of w (String text) ≡ Ok n
decimal_reads_back w n text h is = let spelled : decimal n ≡ text = cc is in subst (λ s. numeral w s ≡ Ok n) spelled (decimal_numeral w n h)

pub ruleset an_integer_is_read_back_from_its_string = (text_reads_back, decimal_reads_back)
