-- Which integers values convert to.
use Rattle.std.specs.Prelude.{◌≡◌, ◌≤◌, ◌+◌, ◌-◌, ◌*◌, ◌^◌, ◌%◌, ◌&&◌, ℕ, zero, suc, nat_le, List, [], ◌∷◌, ◌++◌, length, take, slice_get, Some, None, Bool, true, false, Ok, Err, refl, if◌then◌else◌}
use Rattle.std.proofs.Common.{arith, ap, subst, ◌∙◌}
use Rattle.std.proofs.Math.Seq.{take-append-add}
use Rattle.std.proofs.lemmas.Bool.Decides.{nat_tests}
use Rattle.std.specs.Int.Digits.{number_from_digits}
use Rattle.byteorder.specs.Endian.{little_from}
use Rattle.hex.specs.Hex.{hex_digit_value}
use Rattle.ar_space.specs.declared.integer_width.IntegerWidth.{IntegerWidth}
use Rattle.ar_space.specs.declared.refusal.Refusal.TheVariants as refusal
use Rattle.ar_space.specs.declared.refusal.ValueFault.TheVariants.{EmptyValue, WrongType}
use Rattle.aml_objects.specs.declared.object.Object.TheVariants as object
use Rattle.aml_objects.specs.declared.value.Value.TheVariants as value
use Rattle.aml_convert.specs.Integers.{bits_of, bytes_of, truncated}
use Rattle.aml_convert.specs.Digits.{digit_and, leading_digits, leading_number}
use Rattle.aml_convert.specs.declared.digits.Base.TheVariants.{Hexadecimal}
use Rattle.aml_world.specs.state.State.{State}
use Rattle.aml_world.specs.state.Readings.{integer_in}
use Rattle.aml_fields.proofs.Numbers.{little_rest}
use Rattle.aml_laws.specs.IntegersOfValues.{lowest_first, IsDigit, figure, upper, lower, AreDigits, none, more, EndsDigits, at_end, at_other, at_most}

-- ---- buffers

no_bytes : (i k : ℕ) → little_from i k [] ≡ 0
no_bytes i zero = refl
no_bytes i (suc k) = let others = no_bytes (suc i) k in omega (arith, others)

pub little_is : (k : ℕ) (bytes : List ℕ) → little_from 0 k bytes ≡ lowest_first (take k bytes)
little_is zero bytes = refl
little_is (suc k) [] = no_bytes 0 (suc k)
little_is (suc k) (b ∷ bs) = ap (λ n. b + 256 * n) (little_rest 0 k b bs ∙ little_is k bs)

-- ---- digits

digit_is : (c d : ℕ) → IsDigit c d → hex_digit_value c ≡ Some d
digit_is _ _ (figure d l) =
    let a : nat_le 65 (48 + d) ≡ false = grind (arith, nat_tests) in
    let b : nat_le 97 (48 + d) ≡ false = grind (arith, nat_tests) in
    let e : nat_le 48 (48 + d) ≡ true = grind (arith, nat_tests) in
    let f : nat_le (48 + d) 57 ≡ true = grind (arith, nat_tests) in
    rw (a, b, e, f) (ap Some (omega arith))
digit_is _ _ (upper d l) =
    let a : nat_le 65 (65 + d) ≡ true = grind (arith, nat_tests) in
    let b : nat_le (65 + d) 70 ≡ true = grind (arith, nat_tests) in
    rw (a, b) (ap Some (omega arith))
digit_is _ _ (lower d l) =
    let a : nat_le (97 + d) 70 ≡ false = grind (arith, nat_tests) in
    let g : nat_le 65 (97 + d) ≡ true = grind (arith, nat_tests) in
    let b : nat_le 97 (97 + d) ≡ true = grind (arith, nat_tests) in
    let e : nat_le (97 + d) 102 ≡ true = grind (arith, nat_tests) in
    rw (g, a, b, e) (ap Some (omega arith))

at_least : (k c : ℕ) → nat_le k c ≡ true → k ≤ c
at_least k c e = grind (arith, nat_tests)

both_so : (b c : Bool) → (b && c) ≡ true → (b ≡ true) × (c ≡ true)
both_so true c e = (refl, e)
both_so false c e = absurd (cc e)

-- a character that is no digit has no value
pub in_range : (k m c : ℕ) → (nat_le k c && nat_le c m) ≡ true → (k ≤ c) × (c ≤ m)
in_range k m c e = let p = both_so (nat_le k c) (nat_le c m) e in (at_least k c p.0, at_least c m p.1)

pub no_value : (c : ℕ) → ((d : ℕ) → IsDigit c d → ⊥) → hex_digit_value c ≡ None
no_value c not = by (nat_le 65 c && nat_le c 70) (nat_le 97 c && nat_le c 102) (nat_le 48 c && nat_le c 57) refl refl refl
  where
    by : (p q r : Bool) → (nat_le 65 c && nat_le c 70) ≡ p → (nat_le 97 c && nat_le c 102) ≡ q → (nat_le 48 c && nat_le c 57) ≡ r → (if p then Some (c - 55) else if q then Some (c - 87) else if r then Some (c - 48) else None) ≡ None
    by true q r e f g = let l = in_range 65 70 c e in let is : 65 + (c - 65) ≡ c = omega (arith, l.0) in absurd (not (10 + (c - 65)) (subst (λ x. IsDigit x (10 + (c - 65))) is (upper (c - 65) (omega (arith, l.0, l.1)))))
    by false true r e f g = let l = in_range 97 102 c f in let is : 97 + (c - 97) ≡ c = omega (arith, l.0) in absurd (not (10 + (c - 97)) (subst (λ x. IsDigit x (10 + (c - 97))) is (lower (c - 97) (omega (arith, l.0, l.1)))))
    by false false true e f g = let l = in_range 48 57 c g in let is : 48 + (c - 48) ≡ c = omega (arith, l.0) in absurd (not (c - 48) (subst (λ x. IsDigit x (c - 48)) is (figure (c - 48) (omega (arith, l.0, l.1)))))
    by false false false e f g = refl

pub digits_lead : (cs ds rest : List ℕ) → AreDigits cs ds → leading_digits Hexadecimal rest ≡ [] → leading_digits Hexadecimal (cs ++ rest) ≡ ds
unfolding leading_digits
digits_lead _ _ rest none stop = stop
digits_lead _ _ rest (more c d cs ds is others) stop = ap (λ o. digit_and o (leading_digits Hexadecimal (cs ++ rest))) (digit_is c d is) ∙ ap (λ es. d ∷ es) (digits_lead cs ds rest others stop)

stops : (most : ℕ) (cs rest : List ℕ) → length cs ≤ most → EndsDigits most cs rest → leading_digits Hexadecimal (take (most - length cs) rest) ≡ []
unfolding leading_digits
stops most cs _ le at_end = none_lead (most - length cs)
  where
    none_lead : (k : ℕ) → leading_digits Hexadecimal (take k []) ≡ []
    none_lead zero = refl
    none_lead (suc k) = refl
stops most cs _ le (at_other c others not) = other_leads (most - length cs)
  where
    other_leads : (k : ℕ) → leading_digits Hexadecimal (take k (c ∷ others)) ≡ []
    other_leads zero = refl
    other_leads (suc k) = ap (λ o. digit_and o (leading_digits Hexadecimal (take k others))) (no_value c not)
stops most cs _ le (at_most rest same) = let no_more : most - length cs ≡ 0 = omega (arith, same) in ap (λ k. leading_digits Hexadecimal (take k rest)) no_more

digits_taken : (most : ℕ) (cs ds rest : List ℕ) → AreDigits cs ds → length cs ≤ most → EndsDigits most cs rest → leading_digits Hexadecimal (take most (cs ++ rest)) ≡ ds
digits_taken most cs ds rest are le ends =
    let sum : most ≡ length cs + (most - length cs) = omega (arith, le) in
    ap (λ k. leading_digits Hexadecimal (take k (cs ++ rest))) sum
    ∙ (ap (leading_digits Hexadecimal) (take-append-add cs rest (most - length cs)) ∙ digits_lead cs ds (take (most - length cs) rest) are (stops most cs rest le ends))

pub number_led : (width : IntegerWidth) (text digits : List ℕ) → leading_digits Hexadecimal text ≡ digits → leading_number width Hexadecimal text ≡ number_from_digits 16 digits % 2 ^ bits_of width
unfolding leading_number
number_led width text digits e = ap (λ ds. truncated width (number_from_digits 16 ds)) e

-- ---- values

module _ {S : Type 0} (w : State S) where
  pub itself : (n : ℕ) → integer_in (value.Integer n) w ≡ (Ok n, w)
  unfolding integer_in
  itself n = refl

  pub of_bytes : (o b : ℕ) (bytes : List ℕ) → slice_get w.objects o ≡ Some (object.Buffer (b ∷ bytes)) → integer_in (value.Buffer o) w ≡ (Ok (lowest_first (take (bytes_of w.width) (b ∷ bytes))), w)
  unfolding integer_in
  of_bytes o b bytes holds = rw holds (ap (λ (n : ℕ). (Ok n, w)) (little_is (bytes_of w.width) (b ∷ bytes)))

  pub of_digits : (o c : ℕ) (text cs ds rest : List ℕ) → slice_get w.objects o ≡ Some (object.String (c ∷ text)) → c ∷ text ≡ cs ++ rest → AreDigits cs ds → length cs ≤ 2 * bytes_of w.width → EndsDigits (2 * bytes_of w.width) cs rest
      → integer_in (value.String o) w ≡ (Ok (number_from_digits 16 ds % 2 ^ bits_of w.width), w)
  unfolding integer_in
  of_digits o c text cs ds rest holds is are few ends =
      rw holds (ap (λ (n : ℕ). (Ok n, w)) (number_led w.width (take (2 * bytes_of w.width) (c ∷ text)) ds (ap (λ (t : List ℕ). leading_digits Hexadecimal (take (2 * bytes_of w.width) t)) is ∙ digits_taken (2 * bytes_of w.width) cs ds rest are few ends)))

  pub of_nothing : (o : ℕ) → (slice_get w.objects o ≡ Some (object.String []) → integer_in (value.String o) w ≡ (Err (refusal.Value EmptyValue), w)) × (slice_get w.objects o ≡ Some (object.Buffer []) → integer_in (value.Buffer o) w ≡ (Err (refusal.Value EmptyValue), w))
  unfolding integer_in
  of_nothing o = (λ holds. rw holds refl, λ holds. rw holds refl)

  pub of_package : (o : ℕ) → integer_in (value.Package o) w ≡ (Err (refusal.Value WrongType), w)
  unfolding integer_in
  of_package o = refl
