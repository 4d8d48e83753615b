-- Fields that lie within one unit.
use Rattle.std.proofs.Common.{◌≡◌, ◌<◌, ◌≤◌, ℕ, zero, suc, ◌+◌, ◌-◌, ◌*◌, ◌/◌, ◌%◌, ◌^◌, ◌==◌, min, max, Bool, false, List, [], ◌∷◌, ◌++◌, length, take, drop, replicate, Ok, Err, ◌⊎◌, inl, inr, refl, ap, sym, ◌∙◌, subst, arith, length-append}
use Rattle.std.proofs.lemmas.List.{append-nil, take_all, take-append-drop, length-take, length-drop}
use Rattle.std.proofs.lemmas.Bool.{cases_lt}
use Rattle.std.proofs.Math.ListN.{drop_of_length-le}
use Rattle.std.proofs.lemmas.Bool.Decides.{nat_tests}
use Rattle.std.proofs.Math.Nat.{div-one, mod-eq_of_lt, mod-lt, mod-mod, mul-add-mod_self_right, mul_comm, mul-le-mul_right}
use Rattle.std.proofs.lemmas.Nat.{pow-add}
use Rattle.std.proofs.Math.Seq.{take-append_seam, drop-append_seam}
use Rattle.std.proofs.lemmas.Nat.{pow_pos, mod-pow-add, shr_split, one_shl}
use Rattle.ar_space.specs.declared.refusal.Refusal.{Refusal}
use Rattle.ar_space.specs.declared.space.Width.{Width}
use Rattle.ar_space.specs.declared.space.Width.TheVariants.{W8, W16, W32, W64}
use Rattle.ar_space.specs.Accesses.{bit_count}
use Rattle.ar_space.specs.Change.{Change, Does, go_on, give, ◌>>=◌}
use Rattle.aml_objects.specs.declared.entry.FieldUnit.{FieldUnit}
use Rattle.aml_fields.specs.declared.field_units.Unit.{Unit as Access}
use Rattle.byteorder.specs.Endian.{little_from, little_number, little_bytes}
use Rattle.byteorder.specs.Numbers.{little_from-bytes, length-bytes_low_first}
use Rattle.aml_fields.specs.Bits.{bits_from, bits_of, number_of, extended, put, field_bits, merged, packed, bytes_within, byte_count}
use Rattle.aml_fields.specs.Units.{unit_at, units_from, units_up_to, units_of}
use Rattle.aml_fields.specs.UnitByUnit.{read_units, bits_read, write_units}
use Rattle.aml_fields.proofs.BitLists.{length_from, length_of}
use Rattle.aml_fields.proofs.Numbers.{number_from, number_again, number_append, same_number, little_rest, one_number, small_bytes}
use Rattle.aml_fields.proofs.SpaceBits.{from_append, number_below, length_put}

-- ---- the unit

quotient : (w : Width) (o k first : ℕ) → k * bit_count w + first ≡ o → first < bit_count w → o / bit_count w ≡ k
quotient W8 o k first e l = omega (arith, e, l)
quotient W16 o k first e l = omega (arith, e, l)
quotient W32 o k first e l = omega (arith, e, l)
quotient W64 o k first e l = omega (arith, e, l)

one_more : (w : Width) (o n k first : ℕ) → k * bit_count w + first ≡ o → 0 < n → first + n ≤ bit_count w → units_up_to (o + n) w - k ≡ 1
one_more W8 o n k first e some l = omega (arith, e, some, l)
one_more W16 o n k first e some l = omega (arith, e, some, l)
one_more W32 o n k first e some l = omega (arith, e, some, l)
one_more W64 o n k first e some l = omega (arith, e, some, l)

abbrev pub single : ℕ → ℕ → ℕ → Access
single o n first = record { offset = (o - first) / 8; first = first; count = n; position = 0 }

unit_is : (w : Width) (o n k first : ℕ) → k * bit_count w + first ≡ o → first + n ≤ bit_count w → unit_at o n w k ≡ single o n first
unit_is w o n k first e l =
    let a : k * bit_count w / 8 ≡ (o - first) / 8 = ap (λ x. x / 8) (omega (arith, e)) in
    let b : o - k * bit_count w ≡ first = omega (arith, e) in
    let c : min (k * bit_count w + bit_count w) (o + n) - max (k * bit_count w) o ≡ n = omega (arith, e, l) in
    let d : k * bit_count w - o ≡ 0 = omega (arith, e) in
    λ i. record { offset = a i; first = b i; count = c i; position = d i }

some_units : (o n : ℕ) (w : Width) → 0 < n → units_of o n w ≡ units_from o n w (o / bit_count w) (units_up_to (o + n) w - o / bit_count w)
some_units o n w some = let test : (n == 0) ≡ false = grind (arith, nat_tests) in rw test refl

pub single_unit : (w : Width) (o n k first : ℕ) → k * bit_count w + first ≡ o → first < bit_count w → 0 < n → first + n ≤ bit_count w → units_of o n w ≡ single o n first ∷ []
unfolding units_from
single_unit w o n k first e l some within =
    let q = quotient w o k first e l in
    some_units o n w some
    ∙ ap (λ j. units_from o n w j (units_up_to (o + n) w - j)) q
    ∙ ap (units_from o n w k) (one_more w o n k first e some within)
    ∙ ap (λ (u : Access). u ∷ []) (unit_is w o n k first e within)

-- ---- its bits

-- so many bits of a list that has them
pub extended_front : (xs ys : List Bool) (count : ℕ) → length xs ≡ count → extended count (xs ++ ys) ≡ xs
extended_front xs ys count e =
    let long = length-append xs ys in
    let room : count - length (xs ++ ys) ≡ 0 = omega (arith, long, e) in
    ap (λ k. take count (xs ++ ys) ++ replicate k false) room
    ∙ append-nil (take count (xs ++ ys))
    ∙ ap (λ k. take k (xs ++ ys)) (sym e) ∙ take-append_seam xs ys

pub bits_of_unit : (value first count : ℕ) → first + count ≤ 64 → extended count (drop first (bits_from value 0 64)) ≡ bits_from (value / 2 ^ first % 2 ^ count) 0 count
bits_of_unit value first count l =
    let split : bits_from value 0 64 ≡ bits_from value 0 first ++ bits_from value (0 + first) (64 - first) = ap (bits_from value 0) (omega (arith, l)) ∙ from_append value 0 first (64 - first) in
    let behind : drop first (bits_from value 0 64) ≡ bits_from value (0 + first) (64 - first) =
    ap (drop first) split ∙ ap (λ k. drop k (bits_from value 0 first ++ bits_from value (0 + first) (64 - first))) (sym (length_from value 0 first)) ∙ drop-append_seam (bits_from value 0 first) (bits_from value (0 + first) (64 - first)) in
    let front : bits_from value (0 + first) (64 - first) ≡ bits_from value (0 + first) count ++ bits_from value (0 + first + count) (64 - first - count) =
    ap (bits_from value (0 + first)) (omega (arith, l)) ∙ from_append value (0 + first) count (64 - first - count) in
    let n = value / 2 ^ first % 2 ^ count in
    let fits : n < 2 ^ count = mod-lt (value / 2 ^ first) (pow_pos count) in
    ap (extended count) (behind ∙ front)
    ∙ extended_front (bits_from value (0 + first) count) (bits_from value (0 + first + count) (64 - first - count)) count (length_from value (0 + first) count)
    ∙ same_number (bits_from value (0 + first) count) (bits_from n 0 count) (length_from value (0 + first) count ∙ sym (length_from n 0 count))
    (number_from value (0 + first) count ∙ ap (λ k. value / 2 ^ k % 2 ^ count) (omega arith) ∙ sym (number_again n count fits))

module _ {S : Type 0} (read : Access → Change S ℕ) (f : FieldUnit) (u : Access) (is : units_of f.bit_offset f.bits f.access ≡ u ∷ []) where
  pub one_read : (value : ℕ) (s s1 : S) → u.first + u.count ≤ 64 → u.count ≡ f.bits → Does (Ok value) s1 (read u) s
      → Does (Ok (packed (bits_from (value / 2 ^ u.first % 2 ^ u.count) 0 f.bits))) s1 (bits_read read f) s
  unfolding bits_read read_units ◌>>=◌ go_on give
  one_read value s s1 l count d =
      let bits : extended u.count (drop u.first (bits_from value 0 64)) ++ [] ≡ bits_from (value / 2 ^ u.first % 2 ^ u.count) 0 f.bits =
      append-nil _ ∙ bits_of_unit value u.first u.count l ∙ ap (bits_from (value / 2 ^ u.first % 2 ^ u.count) 0) count in
      record { is = λ _. rw (is, d.is tt) (ap (λ (bs : List Bool). (Ok (packed bs), s1)) bits) }

  pub one_refused : {e : Refusal} (s s1 : S) → Does {A = ℕ} (Err e) s1 (read u) s → Does (Err e) s1 (bits_read read f) s
  unfolding bits_read read_units ◌>>=◌ go_on give
  one_refused s s1 d = record { is = λ ne. rw (is, d.is ne) refl }

-- ---- the number that its bytes are

no_bytes : (i k : ℕ) → little_from i k [] ≡ 0
no_bytes i zero = refl
no_bytes i (suc k) = let e = no_bytes (suc i) k in omega (arith, e)

eight_bits : (bits : List Bool) → number_of bits ≡ number_of (take 8 bits) + 256 * number_of (drop 8 bits)
unfolding number_of
eight_bits bits = by_length (cases_lt (length bits) 8)
  where
    whole : number_of bits ≡ number_of (take 8 bits) + 2 ^ length (take 8 bits) * number_of (drop 8 bits)
    whole = ap number_of (sym (take-append-drop 8 bits)) ∙ number_append (take 8 bits) (drop 8 bits)

    by_length : (length bits < 8) ⊎ (8 ≤ length bits) → number_of bits ≡ number_of (take 8 bits) + 256 * number_of (drop 8 bits)
    by_length (inl l) =
        let short : length bits ≤ 8 = omega (arith, l) in
        let none : number_of (drop 8 bits) ≡ 0 = ap number_of (drop_of_length-le bits short) in
        let all : number_of (take 8 bits) ≡ number_of bits = ap number_of (take_all 8 bits (omega (arith, l))) in
        omega (arith, none, all)
    by_length (inr l) =
        let long : length (take 8 bits) ≡ 8 = length-take 8 bits ∙ omega (arith, l) in
        whole ∙ ap (λ k. number_of (take 8 bits) + 2 ^ k * number_of (drop 8 bits)) long

pub little_within : (m k : ℕ) (bits : List Bool) → length bits ≤ 8 * m → m ≤ k → little_from 0 k (bytes_within m bits) ≡ number_of bits
unfolding bytes_within number_of
little_within zero k [] l le = no_bytes 0 k
little_within zero k (b ∷ bits) l le = absurd (omega (arith, l))
little_within (suc m) zero bits l le = absurd (omega (arith, le))
little_within (suc m) (suc k) bits l le =
    let short : length (drop 8 bits) ≤ 8 * m = let d = length-drop 8 bits in omega (arith, d, l) in
    let rest : little_from 1 k (number_of (take 8 bits) ∷ bytes_within m (drop 8 bits)) ≡ number_of (drop 8 bits) =
    little_rest 0 k (number_of (take 8 bits)) (bytes_within m (drop 8 bits)) ∙ little_within m k (drop 8 bits) short (omega (arith, le)) in
    ap (λ x. number_of (take 8 bits) + 256 * x) rest ∙ sym (eight_bits bits)

-- the bytes of a field's bits are its number
pub little_packed : (count number k : ℕ) → number < 2 ^ count → count ≤ 8 * k → little_number k (packed (bits_from number 0 count)) ≡ number
little_packed count number k fits room =
    let long = length_from number 0 count in
    little_within (byte_count (length (bits_from number 0 count))) k (bits_from number 0 count) (omega (arith, long)) (omega (arith, long, room))
    ∙ number_again number count fits

-- and they are some
pub some_bytes : (count number : ℕ) → 0 < count → packed (bits_from number 0 count) ≡ number_of (take 8 (bits_from number 0 count)) ∷ bytes_within (byte_count count - 1) (drop 8 (bits_from number 0 count))
unfolding bytes_within
some_bytes count number some =
    let bits = bits_from number 0 count in
    let more : byte_count (length bits) ≡ suc (byte_count count - 1) = let long = length_from number 0 count in omega (arith, long, some) in
    ap (λ m. bytes_within m bits) more

-- ---- writes

module _ {S : Type 0} (write : Access → Change S (Unit {0})) (f : FieldUnit) (u : Access) (is : units_of f.bit_offset f.bits f.access ≡ u ∷ []) where
  pub one_written : (s s1 : S) → Does (Ok tt) s1 (write u) s → Does (Ok tt) s1 (write_units write (units_of f.bit_offset f.bits f.access)) s
  unfolding write_units ◌>>=◌ go_on give
  one_written s s1 d = record { is = λ _. rw (is, d.is tt) refl }

  pub one_not_written : {e : Refusal} (s s1 : S) → Does {A = Unit {0}} (Err e) s1 (write u) s → Does (Err e) s1 (write_units write (units_of f.bit_offset f.bits f.access)) s
  unfolding write_units ◌>>=◌ go_on give
  one_not_written s s1 d = record { is = λ ne. rw (is, d.is ne) refl }

low_again : (n b c : ℕ) → c ≤ b → n % 2 ^ b % 2 ^ c ≡ n % 2 ^ c
low_again n b c l =
    let d = b - c in
    let whole : b ≡ d + c = omega (arith, l) in
    ap (λ k. n % 2 ^ k % 2 ^ c) whole ∙ ap (λ x. x % 2 ^ c) (mod-pow-add n d c) ∙ mul-add-mod_self_right (n / 2 ^ c % 2 ^ d) (2 ^ c) (n % 2 ^ c) ∙ mod-mod n (2 ^ c)

-- the lowest bits of a number that is cut above them
pub low_bits : (n b c : ℕ) → c ≤ b → bits_from (n % 2 ^ b) 0 c ≡ bits_from n 0 c
low_bits n b c l =
    same_number (bits_from (n % 2 ^ b) 0 c) (bits_from n 0 c) (length_from (n % 2 ^ b) 0 c ∙ sym (length_from n 0 c))
    (number_from (n % 2 ^ b) 0 c ∙ ap (λ x. x % 2 ^ c) (div-one (n % 2 ^ b)) ∙ low_again n b c l ∙ sym (number_from n 0 c ∙ ap (λ x. x % 2 ^ c) (div-one n)))

-- the first bits of a number's bytes are its lowest
pub bits_of_bytes : (k n c : ℕ) → 256 ^ k ≡ 2 ^ (8 * k) → c ≤ 8 * k → field_bits (little_bytes k n) 0 c ≡ bits_from n 0 c
bits_of_bytes k n c base l =
    let xs = little_bytes k n in
    let places : length xs ≡ k = length-bytes_low_first 0 k n in
    let value : little_number (length xs) xs ≡ n % 2 ^ (8 * k) =
    ap (λ j. little_number j xs) places ∙ ap (little_number k) (sym (append-nil xs)) ∙ little_from-bytes k 0 n [] ∙ ap (λ x. x % 256 ^ k) (div-one n) ∙ ap (λ b. n % b) base in
    let all : bits_of xs ≡ bits_from n 0 (8 * k) =
    same_number (bits_of xs) (bits_from n 0 (8 * k)) (length_of xs ∙ ap (λ j. 8 * j) places ∙ sym (length_from n 0 (8 * k)))
    (sym (one_number xs (small_bytes 0 k n)) ∙ value ∙ sym (number_from n 0 (8 * k) ∙ ap (λ x. x % 2 ^ (8 * k)) (div-one n))) in
    let front : bits_from n 0 (8 * k) ≡ bits_from n 0 c ++ bits_from n (0 + c) (8 * k - c) = ap (bits_from n 0) (omega (arith, l)) ∙ from_append n 0 c (8 * k - c) in
    ap (extended c) (all ∙ front) ∙ extended_front (bits_from n 0 c) (bits_from n (0 + c) (8 * k - c)) c (length_from n 0 c)

-- a unit with other bits in it, as a number
pub merged_is : (old first c : ℕ) (n : ℕ) → first + c ≤ 64 → old < 2 ^ 64
    → merged old first (bits_from n 0 c) ≡ old % 2 ^ first + (n % 2 ^ c) * 2 ^ first + (old - old % 2 ^ (first + c))
merged_is old first c n l fits =
    let new = bits_from n 0 c in
    let bits = bits_from old 0 64 in
    let long = length_from n 0 c in
    let d = 64 - (first + c) in
    let split : bits ≡ bits_from old 0 first ++ bits_from old (0 + first) (64 - first) = ap (bits_from old 0) (omega (arith, l)) ∙ from_append old 0 first (64 - first) in
    let front : take first bits ≡ bits_from old 0 first =
    ap (take first) split ∙ ap (λ k. take k (bits_from old 0 first ++ bits_from old (0 + first) (64 - first))) (sym (length_from old 0 first)) ∙ take-append_seam (bits_from old 0 first) (bits_from old (0 + first) (64 - first)) in
    let split2 : bits ≡ bits_from old 0 (first + c) ++ bits_from old (0 + (first + c)) d = ap (bits_from old 0) (omega (arith, l)) ∙ from_append old 0 (first + c) d in
    let back : drop (first + length new) bits ≡ bits_from old (0 + (first + c)) d =
    ap (λ k. drop (first + k) bits) long ∙ ap (drop (first + c)) split2 ∙ ap (λ k. drop k (bits_from old 0 (first + c) ++ bits_from old (0 + (first + c)) d)) (sym (length_from old 0 (first + c)))
    ∙ drop-append_seam (bits_from old 0 (first + c)) (bits_from old (0 + (first + c)) d) in
    let parts : number_of (put first new bits) ≡ number_of ((bits_from old 0 first ++ new) ++ bits_from old (0 + (first + c)) d) = ap (λ (a : List Bool). number_of ((a ++ new) ++ drop (first + length new) bits)) front ∙ ap (λ (a : List Bool). number_of ((bits_from old 0 first ++ new) ++ a)) back in
    let a = number_append (bits_from old 0 first ++ new) (bits_from old (0 + (first + c)) d) in
    let b = number_append (bits_from old 0 first) new in
    let room : length (bits_from old 0 first ++ new) ≡ first + c = let f = length_from old 0 first in let s = length-append (bits_from old 0 first) new in omega (arith, f, s, long) in
    let n0 : number_of (bits_from old 0 first) ≡ old % 2 ^ first = number_from old 0 first ∙ ap (λ x. x % 2 ^ first) (div-one old) in
    let n1 : number_of new ≡ n % 2 ^ c = number_from n 0 c ∙ ap (λ x. x % 2 ^ c) (div-one n) in
    let cut : old / 2 ^ (first + c) % 2 ^ d ≡ old / 2 ^ (first + c) = top old (first + c) d (omega (arith, l)) fits in
    let n2 : number_of (bits_from old (0 + (first + c)) d) ≡ old / 2 ^ (first + c) = number_from old (0 + (first + c)) d ∙ ap (λ k. old / 2 ^ k % 2 ^ d) (omega arith) ∙ cut in
    let low : number_of (bits_from old 0 first ++ new) ≡ old % 2 ^ first + (n % 2 ^ c) * 2 ^ first =
    b ∙ ap (λ x. x + 2 ^ length (bits_from old 0 first) * number_of new) n0 ∙ ap (λ k. old % 2 ^ first + 2 ^ k * number_of new) (length_from old 0 first) ∙ ap (λ x. old % 2 ^ first + 2 ^ first * x) n1
    ∙ ap (λ x. old % 2 ^ first + x) (mul_comm (2 ^ first) (n % 2 ^ c)) in
    let high : 2 ^ length (bits_from old 0 first ++ new) * number_of (bits_from old (0 + (first + c)) d) ≡ old - old % 2 ^ (first + c) =
    ap (λ k. 2 ^ k * number_of (bits_from old (0 + (first + c)) d)) room ∙ ap (λ x. 2 ^ (first + c) * x) n2 ∙ mul_comm (2 ^ (first + c)) (old / 2 ^ (first + c)) ∙ (let e = shr_split old (first + c) in omega (arith, e)) in
    parts ∙ a ∙ ap (λ x. x + 2 ^ length (bits_from old 0 first ++ new) * number_of (bits_from old (0 + (first + c)) d)) low ∙ ap (λ x. old % 2 ^ first + (n % 2 ^ c) * 2 ^ first + x) high
  where
    top : (x k d : ℕ) → k + d ≡ 64 → x < 2 ^ 64 → x / 2 ^ k % 2 ^ d ≡ x / 2 ^ k
    top x k d e fits = mod-eq_of_lt (by (cases_lt (x / 2 ^ k) (2 ^ d)))
      where
        by : (x / 2 ^ k < 2 ^ d) ⊎ (2 ^ d ≤ x / 2 ^ k) → x / 2 ^ k < 2 ^ d
        by (inl l) = l
        by (inr l) =
            let product : 2 ^ d * 2 ^ k ≤ x / 2 ^ k * 2 ^ k = mul-le-mul_right (2 ^ k) l in
            let whole = shr_split x k in
            let all : 64 ≡ d + k = omega (arith, e) in
            let size : 2 ^ 64 ≡ 2 ^ d * 2 ^ k = ap (λ j. 2 ^ j) all ∙ pow-add 2 d k in
            absurd (omega (arith, product, whole, size, fits))

-- a whole unit is replaced
pub merged_whole : (old n : ℕ) → n < 2 ^ 64 → n ≡ merged old 0 (bits_from n 0 64)
unfolding number_of
merged_whole old n fits =
    let new = bits_from n 0 64 in
    let bits = bits_from old 0 64 in
    let none : drop (0 + length new) bits ≡ [] = let a = length_from n 0 64 in let b = length_from old 0 64 in drop_of_length-le bits (omega (arith, a, b)) in
    sym (ap (λ (l : List Bool). number_of (new ++ l)) none ∙ ap number_of (append-nil new) ∙ number_again n 64 fits)

pub merged_small : (old first c n : ℕ) → first + c ≤ 64 → merged old first (bits_from n 0 c) < 2 ^ 64
merged_small old first c n l =
    let new = bits_from n 0 c in
    let bits = bits_from old 0 64 in
    let room : first + length new ≤ length bits = let a = length_from n 0 c in let b = length_from old 0 64 in omega (arith, a, b, l) in
    let long : length (put first new bits) ≡ 64 = length_put first new bits room ∙ length_from old 0 64 in
    subst (λ k. number_of (put first new bits) < 2 ^ k) long (number_below (put first new bits))

-- bits of a number, moved to their place in a unit
pub part_is : (n first c : ℕ) → c < 64 → (n % 2 ^ c) * 2 ^ first < 2 ^ 64 → n % (1 * 2 ^ c % 2 ^ 64) * 2 ^ first % 2 ^ 64 ≡ (n % 2 ^ c) * 2 ^ first
part_is n first c l fits = ap (λ b. n % b * 2 ^ first % 2 ^ 64) (one_shl c 64 l) ∙ mod-eq_of_lt fits

pub merged_sum : (old first c n low high : ℕ) → first + c ≤ 64 → c < 64 → old < 2 ^ 64 → low ≡ old % 2 ^ first → high ≡ old % 2 ^ (first + c)
    → low + n % (1 * 2 ^ c % 2 ^ 64) * 2 ^ first % 2 ^ 64 + (old - high) ≡ merged old first (bits_from n 0 c)
merged_sum old first c n low high l lt fits e f =
    let total = merged_is old first c n l fits in
    let small = merged_small old first c n l in
    let part = part_is n first c lt (omega (arith, total, small)) in
    ap (λ x. low + x + (old - high)) part ∙ ap (λ x. x + (n % 2 ^ c) * 2 ^ first + (old - high)) e ∙ ap (λ x. old % 2 ^ first + (n % 2 ^ c) * 2 ^ first + (old - x)) f ∙ sym total
