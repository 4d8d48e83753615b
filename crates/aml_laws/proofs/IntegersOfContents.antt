-- The bytes of texts, of integers and of fields are below 256.
use Rattle.std.specs.Prelude.{◌≡◌, ◌<◌, ℕ, zero, suc, ◌*◌, ◌/◌, ◌%◌, ◌^◌, nat_lt, List, [], ◌∷◌, length, take, drop, slice_index, Bool, true, false, ◌&&◌, Ok, Err, refl}
use Rattle.std.specs.List.{join_by, flat_map}
use Rattle.std.proofs.Common.{arith, ap}
use Rattle.std.proofs.lemmas.Bool.{ltb-true}
use Rattle.std.specs.Int.{byte_at, bytes_low_first}
use Rattle.std.proofs.Math.Nat.{mod-lt}
use Rattle.hex.specs.Hex.{encode_with, upper_digits, encode_upper}
use Rattle.ar_space.specs.declared.integer_width.IntegerWidth.{IntegerWidth}
use Rattle.ar_space.specs.Outcome.{Outcome}
use Rattle.ar_space.specs.Outcome as outcome
use Rattle.aml_objects.specs.Contents.{Content, Integer, String, Buffer, Other}
use Rattle.aml_convert.specs.Conversions.{two_digits, to_text_of, integer_bytes, terminated, to_buffer_of}
use Rattle.aml_convert.specs.Concatenation.{concatenated}
use Rattle.aml_fields.specs.Bits.{number_of, bytes_within}
use Rattle.aml_laws.specs.Plain.{AreBytes}
use Rattle.aml_laws.specs.Within.{WithinContent}
use Rattle.aml_laws.proofs.ReadingStepsGiveBytes.{no_bytes}
use Rattle.aml_laws.proofs.Invariants.{ok_fits, joined_bytes, byte_before_bytes}

-- ---- texts

unfoldable pub all_below_256 : List ℕ → Bool
all_below_256 [] = true
all_below_256 (b ∷ bs) = nat_lt b 256 && all_below_256 bs

and_both : (a b : Bool) → a && b ≡ true → (a ≡ true) × (b ≡ true)
and_both true b h = (refl, h)
and_both false b h = absurd (cc h)

pub bytes_by_test : (bs : List ℕ) → all_below_256 bs ≡ true → AreBytes bs
unfolding all_below_256
bytes_by_test [] h = no_bytes
bytes_by_test (b ∷ bs) h = let p = and_both _ _ h in byte_before_bytes b bs (ltb-true b 256 p.0) (bytes_by_test bs p.1)

upper_digits_are_bytes : AreBytes upper_digits
unfolding all_below_256
upper_digits_are_bytes = bytes_by_test upper_digits refl

pub encode_upper_gives_bytes : (bs : List ℕ) → AreBytes (encode_upper bs)
unfolding encode_with
encode_upper_gives_bytes [] = no_bytes
encode_upper_gives_bytes (b ∷ bs) = byte_before_bytes _ (slice_index upper_digits (b % 16) ∷ encode_upper bs) (upper_digits_are_bytes (b / 16)) (byte_before_bytes _ (encode_upper bs) (upper_digits_are_bytes (b % 16)) (encode_upper_gives_bytes bs))

pub flat_map_gives_bytes : (f : ℕ → List ℕ) (bs : List ℕ) → ((b : ℕ) → AreBytes (f b)) → AreBytes (flat_map f bs)
flat_map_gives_bytes f [] h = no_bytes
flat_map_gives_bytes f (b ∷ bs) h = joined_bytes (f b) (flat_map f bs) (h b) (flat_map_gives_bytes f bs h)

digit_pairs_are_bytes : (bs : List ℕ) → AreBytes (join_by two_digits (32 ∷ []) bs)
digit_pairs_are_bytes [] = no_bytes
digit_pairs_are_bytes (b ∷ bs) = joined_bytes (two_digits b) _ (encode_upper_gives_bytes (b ∷ [])) (flat_map_gives_bytes (λ y. 32 ∷ two_digits y) bs (λ y. byte_before_bytes 32 (two_digits y) (omega arith) (encode_upper_gives_bytes (y ∷ []))))

byte_at_is_below_256 : (i n : ℕ) → byte_at i n < 256
byte_at_is_below_256 zero n = mod-lt n (omega arith)
byte_at_is_below_256 (suc i) n = mod-lt (n / 256 ^ suc i) (omega arith)

bytes_low_first_are_bytes : (i k n : ℕ) → AreBytes (bytes_low_first i k n)
bytes_low_first_are_bytes i zero n = no_bytes
bytes_low_first_are_bytes i (suc k) n = byte_before_bytes _ _ (byte_at_is_below_256 i n) (bytes_low_first_are_bytes (suc i) k n)

-- what a value holds: an integer below two to the width, or bytes
abbrev pub ContentFits : IntegerWidth → Content → Type 0
ContentFits width (Integer n) = n < 2 ^ (Rattle.aml_convert.specs.Integers.bits_of width)
ContentFits width (String bytes) = AreBytes bytes
ContentFits width (Buffer bytes) = AreBytes bytes
ContentFits width Other = Unit {0}

pub content_is_within : (width : IntegerWidth) (c : Content) → ContentFits width c → WithinContent width c
content_is_within width (Integer n) h = h
content_is_within width (String bytes) h = tt
content_is_within width (Buffer bytes) h = h
content_is_within width Other h = tt

pub text_is_bytes : (width : IntegerWidth) (c : Content) (bs : List ℕ) → ContentFits width c → to_text_of width c ≡ Ok bs → AreBytes bs
text_is_bytes width (Integer n) bs h e = ok_fits AreBytes _ bs e (encode_upper_gives_bytes _)
text_is_bytes width (String s) bs h e = ok_fits AreBytes s bs e h
text_is_bytes width (Buffer b) bs h e = ok_fits AreBytes _ bs e (digit_pairs_are_bytes b)
text_is_bytes width Other bs h e = absurd (cc e)

terminated_is_bytes : (s : List ℕ) → AreBytes s → AreBytes (terminated s)
terminated_is_bytes [] h = no_bytes
terminated_is_bytes (c ∷ cs) h = joined_bytes (c ∷ cs) (0 ∷ []) h (byte_before_bytes 0 [] (omega arith) no_bytes)

pub buffer_is_bytes : (width : IntegerWidth) (c : Content) (bs : List ℕ) → ContentFits width c → to_buffer_of width c ≡ Ok bs → AreBytes bs
buffer_is_bytes width (Integer n) bs h e = ok_fits AreBytes _ bs e (bytes_low_first_are_bytes 0 _ _)
buffer_is_bytes width (String s) bs h e = ok_fits AreBytes _ bs e (terminated_is_bytes s h)
buffer_is_bytes width (Buffer b) bs h e = ok_fits AreBytes b bs e h
buffer_is_bytes width Other bs h e = absurd (cc e)

pub then_content_fits : {A : Type 0} (width : IntegerWidth) (r : Outcome A) (k : A → Content) (c : Content) → ((a : A) → r ≡ Ok a → ContentFits width (k a)) → outcome.◌>>=◌ r (λ a. Ok (k a)) ≡ Ok c → ContentFits width c
unfolding outcome.◌>>=◌
then_content_fits width (Ok a) k c h e = ok_fits (ContentFits width) (k a) c e (h a refl)
then_content_fits width (Err x) k c h e = absurd (cc e)

pub integer_bytes_are_bytes : (width : IntegerWidth) (n : ℕ) → AreBytes (integer_bytes width n)
integer_bytes_are_bytes width n = bytes_low_first_are_bytes 0 _ _

pub concatenated_fits : (width : IntegerWidth) (a b c : Content) → ContentFits width a → ContentFits width b → concatenated width a b ≡ Ok c → ContentFits width c
unfolding concatenated
concatenated_fits width (Integer n) b c h i e = then_content_fits width _ _ c (λ m is. joined_bytes (integer_bytes width n) (integer_bytes width m) (integer_bytes_are_bytes width n) (integer_bytes_are_bytes width m)) e
concatenated_fits width (String s) b c h i e = then_content_fits width _ _ c (λ t is. joined_bytes s t h (text_is_bytes width b t i is)) e
concatenated_fits width (Buffer s) b c h i e = then_content_fits width _ _ c (λ t is. joined_bytes s t h (buffer_is_bytes width b t i is)) e
concatenated_fits width Other b c h i e = absurd (cc e)

-- ---- bits of fields

power_of_two : ℕ → ℕ
power_of_two zero = 1
power_of_two (suc k) = 2 * power_of_two k

number_below_power : (k : ℕ) (bits : List Bool) → number_of (take k bits) < power_of_two k
unfolding number_of power_of_two
number_below_power zero bits = omega arith
number_below_power (suc k) [] = let h = number_below_power k [] in none_below_power k h
  where
    none_below_power : (k : ℕ) → number_of (take k []) < power_of_two k → 0 < 2 * power_of_two k
    none_below_power zero h = omega arith
    none_below_power (suc k) h = omega arith
number_below_power (suc k) (true ∷ bits) = let h = number_below_power k bits in omega arith
number_below_power (suc k) (false ∷ bits) = let h = number_below_power k bits in omega arith

pub bits_are_bytes : (n : ℕ) (bits : List Bool) → AreBytes (bytes_within n bits)
unfolding bytes_within power_of_two
bits_are_bytes zero bits = no_bytes
bits_are_bytes (suc n) bits = byte_before_bytes _ _ (number_below_power 8 bits) (bits_are_bytes n (drop 8 bits))

pub bytes_within_length : (n : ℕ) (bits : List Bool) → length (bytes_within n bits) ≡ n
unfolding bytes_within
bytes_within_length zero bits = refl
bytes_within_length (suc n) bits = ap suc (bytes_within_length n (drop 8 bits))
