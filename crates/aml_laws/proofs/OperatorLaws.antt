-- Operators on integers, by what numbers they give.
use Rattle.std.specs.Prelude.{◌≡◌, ◌<◌, ◌≤◌, ◌+◌, ◌-◌, ◌*◌, ◌/◌, ◌^◌, ◌%◌, ◌==◌, ℕ, zero, suc, min, max, nat_lt, List, Bool, true, false, Ok, Err, refl, if◌then◌else◌}
use Rattle.std.specs.Int.{bit_at, w32, w64}
use Rattle.std.specs.Int.RustNames.{bit_and, bit_or, bit_xor}
use Rattle.std.specs.Int.Count.{count_leading_zeros, count_trailing_zeros}
use Rattle.std.proofs.Common.{arith, ap, sym, subst, ◌∙◌}
use Rattle.std.proofs.Math.Nat.{mod-lt, mul_assoc, div-eq_of_lt, pow-le-pow_right}
use Rattle.std.proofs.lemmas.Bool.{eqb-true}
use Rattle.std.proofs.lemmas.Bool.Decides.{nat_tests}
use Rattle.std.proofs.lemmas.Nat.{pow_pos, pow-add, field_of, mod-pow-add, mod_low, div-add-mod', leading_length}
use Rattle.std.proofs.lemmas.Nat.Bits.{bit_at_and, bit_at_or, bit_at_xor, bit_at_not}
use Rattle.ar_space.specs.declared.integer_width.IntegerWidth.{IntegerWidth}
use Rattle.ar_space.specs.declared.integer_width.IntegerWidth.TheVariants.{Bits32, Bits64}
use Rattle.aml_grammar.specs.declared.opcode.Opcode.{Opcode}
use Rattle.aml_grammar.specs.declared.opcode.Opcode.TheVariants as opcodes
use Rattle.aml_convert.specs.declared.operators.BinaryOperator.{BinaryOperator}
use Rattle.aml_convert.specs.declared.operators.BinaryOperator.TheVariants as binary
use Rattle.aml_convert.specs.declared.operators.UnaryOperator.TheVariants as unary
use Rattle.aml_convert.specs.Integers.{bits_of, ones, truncated}
use Rattle.aml_convert.specs.Operators.{complement, shifted_left, shifted_right, highest_set_bit, lowest_set_bit}
use Rattle.aml_convert.proofs.SetBits.{highest, lowest}
use Rattle.aml_meaning.proofs.Agree.{not_zero}
use Rattle.aml_laws.specs.OperatorTerms.{ComputesOfOne, ComputesOfTwo, IsHighest, IsLowest}
use Rattle.aml_laws.proofs.OperatorsComputed.{computes_one, computes_two}

-- ---- Add, Subtract, Multiply

pub adds : {S : Type 0} → ComputesOfTwo S opcodes.Add (λ width a b n. n ≡ (a + b) % 2 ^ bits_of width)
adds = computes_two binary.Add opcodes.Add (λ width a b. (a + b) % 2 ^ bits_of width) (λ width a b n. n ≡ (a + b) % 2 ^ bits_of width) refl (λ width a b. refl) (λ width a b. refl)

abbrev difference : IntegerWidth → ℕ → ℕ → ℕ
difference width a b = truncated width (a + (2 ^ bits_of width - truncated width b))

abbrev IsDifference : IntegerWidth → ℕ → ℕ → ℕ → Type 0
IsDifference width a b n = (n < 2 ^ bits_of width) × ((n + b) % 2 ^ bits_of width ≡ a % 2 ^ bits_of width)

difference_is : (width : IntegerWidth) (a b : ℕ) → IsDifference width a b (difference width a b)
difference_is Bits32 a b = (omega arith, omega arith)
difference_is Bits64 a b = (omega arith, omega arith)

pub subtracts : {S : Type 0} → ComputesOfTwo S opcodes.Subtract (λ width a b n. (n < 2 ^ bits_of width) × ((n + b) % 2 ^ bits_of width ≡ a % 2 ^ bits_of width))
subtracts = computes_two binary.Subtract opcodes.Subtract difference IsDifference refl (λ width a b. refl) difference_is

pub multiplies : {S : Type 0} → ComputesOfTwo S opcodes.Multiply (λ width a b n. n ≡ a * b % 2 ^ bits_of width)
multiplies = computes_two binary.Multiply opcodes.Multiply (λ width a b. a * b % 2 ^ bits_of width) (λ width a b n. n ≡ a * b % 2 ^ bits_of width) refl (λ width a b. refl) (λ width a b. refl)

-- ---- And, Or, Xor, and Nand, Nor and Not, which turn each bit of the width

low_of : (m j : ℕ) → m % 2 ^ (j + 1) % 2 ≡ m % 2
low_of m j = ap (λ x. x % 2) (mod-pow-add m j 1) ∙ mod_low (m / 2 ^ 1 % 2 ^ j) 1 (m % 2 ^ 1) (mod-lt m (omega arith))

kept_by : (i j n : ℕ) → bit_at (n % 2 ^ (j + 1 + i)) i ≡ bit_at n i
kept_by i j n = ap (λ x. x % 2) (field_of n (j + 1) i) ∙ low_of (n / 2 ^ i) j

-- a number keeps its bits below a width
kept_bit : (k i n : ℕ) → i < k → bit_at (n % 2 ^ k) i ≡ bit_at n i
kept_bit k i n l = let e : k ≡ k - i - 1 + 1 + i = omega (arith, l) in ap (λ j. bit_at (n % 2 ^ j) i) e ∙ kept_by i (k - i - 1) n

complement_bit : (width : IntegerWidth) (m i : ℕ) → i < bits_of width → bit_at (complement width m) i ≡ 1 - bit_at m i
complement_bit Bits32 m i l = bit_at_not w32 (m % 2 ^ 32) i (mod-lt m (omega arith)) l ∙ ap (λ d. 1 - d) (kept_bit 32 i m l)
complement_bit Bits64 m i l = bit_at_not w64 (m % 2 ^ 64) i (mod-lt m (omega arith)) l ∙ ap (λ d. 1 - d) (kept_bit 64 i m l)

complement_less : (width : IntegerWidth) (m : ℕ) → complement width m < 2 ^ bits_of width
complement_less Bits32 m = omega arith
complement_less Bits64 m = omega arith

-- what the bits of a number that is turned are, where those of the number are known
abbrev IsTurned : IntegerWidth → (ℕ → ℕ) → ℕ → Type 0
IsTurned width f n = (n < 2 ^ bits_of width) × ((i : ℕ) → i < bits_of width → bit_at n i ≡ 1 - f i)

turned_is : (width : IntegerWidth) (m : ℕ) (f : ℕ → ℕ) → ((i : ℕ) → bit_at m i ≡ f i) → IsTurned width f (complement width m)
turned_is width m f is = (complement_less width m, λ i l. complement_bit width m i l ∙ ap (λ d. 1 - d) (is i))

pub ands : {S : Type 0} → ComputesOfTwo S opcodes.And (λ width a b n. (i : ℕ) → bit_at n i ≡ min (bit_at a i) (bit_at b i))
ands = computes_two binary.And opcodes.And (λ width a b. bit_and a b) (λ width a b n. (i : ℕ) → bit_at n i ≡ min (bit_at a i) (bit_at b i)) refl (λ width a b. refl) (λ width a b. bit_at_and a b)

pub ors : {S : Type 0} → ComputesOfTwo S opcodes.Or (λ width a b n. (i : ℕ) → bit_at n i ≡ max (bit_at a i) (bit_at b i))
ors = computes_two binary.Or opcodes.Or (λ width a b. bit_or a b) (λ width a b n. (i : ℕ) → bit_at n i ≡ max (bit_at a i) (bit_at b i)) refl (λ width a b. refl) (λ width a b. bit_at_or a b)

pub xors : {S : Type 0} → ComputesOfTwo S opcodes.Xor (λ width a b n. (i : ℕ) → bit_at n i ≡ (bit_at a i + bit_at b i) % 2)
xors = computes_two binary.Xor opcodes.Xor (λ width a b. bit_xor a b) (λ width a b n. (i : ℕ) → bit_at n i ≡ (bit_at a i + bit_at b i) % 2) refl (λ width a b. refl) (λ width a b. bit_at_xor a b)

pub nands : {S : Type 0} → ComputesOfTwo S opcodes.Nand (λ width a b n. (n < 2 ^ bits_of width) × ((i : ℕ) → i < bits_of width → bit_at n i ≡ 1 - min (bit_at a i) (bit_at b i)))
nands = computes_two binary.Nand opcodes.Nand (λ width a b. complement width (bit_and a b)) (λ width a b. IsTurned width (λ i. min (bit_at a i) (bit_at b i))) refl (λ width a b. refl)
    (λ width a b. turned_is width (bit_and a b) (λ i. min (bit_at a i) (bit_at b i)) (bit_at_and a b))

pub nors : {S : Type 0} → ComputesOfTwo S opcodes.Nor (λ width a b n. (n < 2 ^ bits_of width) × ((i : ℕ) → i < bits_of width → bit_at n i ≡ 1 - max (bit_at a i) (bit_at b i)))
nors = computes_two binary.Nor opcodes.Nor (λ width a b. complement width (bit_or a b)) (λ width a b. IsTurned width (λ i. max (bit_at a i) (bit_at b i))) refl (λ width a b. refl)
    (λ width a b. turned_is width (bit_or a b) (λ i. max (bit_at a i) (bit_at b i)) (bit_at_or a b))

pub nots : {S : Type 0} → ComputesOfOne S opcodes.Not (λ width a n. (n < 2 ^ bits_of width) × ((i : ℕ) → i < bits_of width → bit_at n i ≡ 1 - bit_at a i))
nots = computes_one unary.Not opcodes.Not (λ width a. IsTurned width (λ i. bit_at a i)) refl (λ width a. turned_is width a (λ i. bit_at a i) (λ i. refl))

-- ---- ShiftLeft and ShiftRight

is_wide : (c k : ℕ) → nat_lt c k ≡ false → k ≤ c
is_wide c k e = grind (arith, nat_tests)

-- a number times so high a power has no bit below the width
shifted_out : (a c k : ℕ) → k ≤ c → a * 2 ^ c % 2 ^ k ≡ 0
shifted_out a c k l =
    let e : c ≡ c - k + k = omega (arith, l) in
    let split : a * 2 ^ c ≡ a * 2 ^ (c - k) * 2 ^ k + 0 = ap (λ j. a * 2 ^ j) e ∙ (ap (λ x. a * x) (pow-add 2 (c - k) k) ∙ (sym (mul_assoc a (2 ^ (c - k)) (2 ^ k)) ∙ omega arith)) in
    ap (λ x. x % 2 ^ k) split ∙ mod_low (a * 2 ^ (c - k)) k 0 (pow_pos k)

shifted_left_is : (width : IntegerWidth) (a c : ℕ) → shifted_left width a c ≡ a * 2 ^ c % 2 ^ bits_of width
shifted_left_is width a c = by (nat_lt c (bits_of width)) refl
  where
    by : (t : Bool) → nat_lt c (bits_of width) ≡ t → (if t then truncated width (a * 2 ^ c) else 0) ≡ a * 2 ^ c % 2 ^ bits_of width
    by true e = refl
    by false e = sym (shifted_out a c (bits_of width) (is_wide c (bits_of width) e))

shifted_right_is : (width : IntegerWidth) (a c : ℕ) → a < 2 ^ bits_of width → shifted_right width a c ≡ a / 2 ^ c
shifted_right_is width a c l = by (nat_lt c (bits_of width)) refl
  where
    by : (t : Bool) → nat_lt c (bits_of width) ≡ t → (if t then a / 2 ^ c else 0) ≡ a / 2 ^ c
    by true e = refl
    by false e = let more : 2 ^ bits_of width ≤ 2 ^ c = pow-le-pow_right (omega arith) (is_wide c (bits_of width) e) in sym (div-eq_of_lt (omega (arith, l, more)))

pub shifts_left : {S : Type 0} → ComputesOfTwo S opcodes.ShiftLeft (λ width a c n. n ≡ a * 2 ^ c % 2 ^ bits_of width)
shifts_left = computes_two binary.ShiftLeft opcodes.ShiftLeft shifted_left (λ width a c n. n ≡ a * 2 ^ c % 2 ^ bits_of width) refl (λ width a c. refl) shifted_left_is

pub shifts_right : {S : Type 0} → ComputesOfTwo S opcodes.ShiftRight (λ width a c n. a < 2 ^ bits_of width → n ≡ a / 2 ^ c)
shifts_right = computes_two binary.ShiftRight opcodes.ShiftRight shifted_right (λ width a c n. a < 2 ^ bits_of width → n ≡ a / 2 ^ c) refl (λ width a c. refl) shifted_right_is

-- ---- FindSetLeftBit and FindSetRightBit

fits_64 : (width : IntegerWidth) (a : ℕ) → a < 2 ^ bits_of width → a < 2 ^ 64
fits_64 Bits32 a l = omega (arith, l)
fits_64 Bits64 a l = l

none_highest : highest_set_bit zero ≡ 0
unfolding count_leading_zeros
none_highest = refl

highest_is : (a : ℕ) → a < 2 ^ 64 → IsHighest a (highest_set_bit a)
highest_is zero l = record { within = pow_pos (highest_set_bit zero); set = λ some. absurd (omega (arith, some)); none = λ e. none_highest }
highest_is (suc a) l =
    let h = highest (suc a) (omega arith) l in
    record { within = h.1; set = λ some. (some_bits (highest_set_bit (suc a)) h.1, h.0); none = λ e. absurd (omega (arith, e)) }
  where
    some_bits : (k : ℕ) → suc a < 2 ^ k → 0 < k
    some_bits zero l = absurd (omega (arith, l))
    some_bits (suc k) l = omega arith

lowest_is : (a : ℕ) → a < 2 ^ 64 → IsLowest a (lowest_set_bit a)
lowest_is zero l = record { set = λ some. absurd (omega (arith, some)); below = λ some. absurd (omega (arith, some)); none = λ e. refl }
lowest_is (suc a) l =
    let h = lowest (suc a) (omega arith) l in
    let bit : 0 < lowest_set_bit (suc a) = rw (not_zero a) (omega arith) in
    record { set = λ some. (bit, h.0); below = λ some i l. h.1 i (omega (arith, l)); none = λ e. absurd (omega (arith, e)) }

pub finds_highest : {S : Type 0} → ComputesOfOne S opcodes.FindSetLeftBit (λ width a n. a < 2 ^ bits_of width → IsHighest a n)
finds_highest = computes_one unary.FindSetLeftBit opcodes.FindSetLeftBit (λ width a n. a < 2 ^ bits_of width → IsHighest a n) refl (λ width a l. highest_is a (fits_64 width a l))

pub finds_lowest : {S : Type 0} → ComputesOfOne S opcodes.FindSetRightBit (λ width a n. a < 2 ^ bits_of width → IsLowest a n)
finds_lowest = computes_one unary.FindSetRightBit opcodes.FindSetRightBit (λ width a n. a < 2 ^ bits_of width → IsLowest a n) refl (λ width a l. lowest_is a (fits_64 width a l))
