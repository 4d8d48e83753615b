-- Which texts ToHexString and ToDecimalString give of bytes.
use Rattle.std.specs.Prelude.{◌≡◌, ◌<◌, ◌+◌, ◌/◌, ◌%◌, ℕ, zero, suc, List, [], ◌∷◌, ◌++◌, decimal, slice_index, Ok, refl}
use Rattle.std.proofs.Common.{arith, ap, sym, subst}
use Rattle.std.proofs.lemmas.Fmt.{decimal-digits_of, decimal_digit}
use Rattle.hex.specs.Hex.{encode_with, upper_digits}
use Rattle.ar_space.specs.declared.integer_width.IntegerWidth.{IntegerWidth}
use Rattle.aml_objects.specs.Contents.{Integer, String, Buffer}
use Rattle.aml_convert.specs.Conversions.{to_text_of}
use Rattle.aml_convert.specs.Strings.{listed, prefixed, decimal_string_of, hexadecimal_string_of}
use Rattle.aml_laws.specs.Plain.{AreBytes}
use Rattle.aml_laws.specs.Spellings.{SpellsListed, no_bytes, last_byte, further_bytes, SpellsPrefixed, two_digits, SpellsDecimal, digit_0, digits}
use Rattle.aml_laws.proofs.ConversionsSpelled.{digit_there}
use Rattle.aml_laws.proofs.IntegersInStrings.{high_half, low_half}

nothing_behind : (text : List ℕ) → text ++ [] ≡ text
nothing_behind [] = refl
nothing_behind (c ∷ cs) = ap (λ (l : List ℕ). c ∷ l) (nothing_behind cs)

module _ (Spells : ℕ → List ℕ → Type 0) (written : ℕ → List ℕ) (each : (b : ℕ) → b < 256 → Spells b (written b)) where
  listed_so : (bytes : List ℕ) → AreBytes bytes → SpellsListed Spells bytes (listed written bytes)
  listed_so [] h = no_bytes
  listed_so (b ∷ []) h = subst (SpellsListed Spells (b ∷ [])) (sym (nothing_behind (written b))) (last_byte b (written b) (each b (h 0)))
  listed_so (b ∷ c ∷ bytes) h = further_bytes b c bytes (written b) (listed written (c ∷ bytes)) (each b (h 0)) (listed_so (c ∷ bytes) (λ i. h (suc i)))

prefixed_so : (b : ℕ) → b < 256 → SpellsPrefixed b (prefixed b)
unfolding encode_with
prefixed_so b less = two_digits b (slice_index upper_digits (b / 16)) (slice_index upper_digits (b % 16)) (digit_there (b / 16) (high_half b less)) (digit_there (b % 16) (low_half b))

decimal_so : (b : ℕ) → b < 256 → SpellsDecimal b (decimal b)
decimal_so zero less = subst (SpellsDecimal 0) (sym (decimal_digit 0 (omega arith))) digit_0
decimal_so (suc n) less = subst (SpellsDecimal (suc n)) (sym (decimal-digits_of (suc n) (omega arith) (omega (arith, less)))) (digits (suc n) (omega arith))

pub hexadecimal_of_bytes : (width : IntegerWidth) (bytes : List ℕ) → AreBytes bytes → (text : List ℕ) × ((hexadecimal_string_of width (Buffer bytes) ≡ Ok text) × SpellsListed SpellsPrefixed bytes text)
hexadecimal_of_bytes width bytes h = (listed prefixed bytes, (refl, listed_so SpellsPrefixed prefixed prefixed_so bytes h))

pub decimal_of_bytes : (bytes : List ℕ) → AreBytes bytes → (text : List ℕ) × ((decimal_string_of (Buffer bytes) ≡ Ok text) × SpellsListed SpellsDecimal bytes text)
decimal_of_bytes bytes h = (listed decimal bytes, (refl, listed_so SpellsDecimal decimal decimal_so bytes h))

pub hexadecimal_of_others : (width : IntegerWidth) (n : ℕ) (text : List ℕ) → (hexadecimal_string_of width (Integer n) ≡ to_text_of width (Integer n)) × (hexadecimal_string_of width (String text) ≡ Ok text)
hexadecimal_of_others width n text = (refl, refl)
