-- Bits as numbers.
use Rattle.std.proofs.Common.{◌≡◌, ℕ, zero, suc, ◌+◌, ◌*◌, ◌/◌, ◌%◌, ◌^◌, ◌<◌, ◌==◌, Bool, true, false, if◌then◌else◌, List, [], ◌∷◌, ◌++◌, length, take, drop, replicate, slice_index, refl, ap, sym, ◌∙◌, subst, arith}
use Rattle.std.proofs.Math.Seq.{take-append_seam, drop-append_seam}
use Rattle.std.proofs.Math.ListN.{drop_of_length-le}
use Rattle.std.proofs.lemmas.List.{append-nil, take_all, length-replicate}
use Rattle.std.proofs.Math.Nat.{mod-one, div-div-eq-div-mul, div-one, mod-eq_of_lt, mod-lt, mul_assoc}
use Rattle.std.proofs.lemmas.Nat.{mod-pow-add, pow-add}
use Rattle.std.specs.Int.{bit_at, byte_at, bytes_low_first}
use Rattle.std.proofs.lemmas.Nat.Bits.{bit_at-lt, bit_at-zero}
use Rattle.byteorder.specs.Endian.{little_from, little_number, little_bytes}
use Rattle.byteorder.specs.Numbers.{little_from-bytes, length-bytes_low_first}
use Rattle.aml_fields.specs.Bits.{bit, bits_from, number_of, bits_of, bytes_within, byte_count, packed, put}
use Rattle.aml_fields.proofs.BitLists.{length_from, length_of}

as_number : (x : ℕ) → x < 2 → (if x == 1 then 1 else 0) ≡ x
as_number zero l = refl
as_number (suc zero) l = refl
as_number (suc (suc x)) l = absurd (omega arith)

halves : (n i : ℕ) → n / 2 ^ (i + 1) ≡ n / 2 ^ i / 2
halves n i = ap (λ x. n / x) (pow-add 2 i 1) ∙ sym (div-div-eq-div-mul n (2 ^ i) 2)

pub number_from : (n i k : ℕ) → number_of (bits_from n i k) ≡ n / 2 ^ i % 2 ^ k
unfolding number_of bits_from
number_from n i zero = sym (mod-one (n / 2 ^ i))
number_from n i (suc k) =
    let e : suc k ≡ k + 1 = omega arith in
    let low : (if bit n i then 1 else 0) ≡ n / 2 ^ i % 2 = as_number (bit_at n i) (bit_at-lt n i) in
    let high : number_of (bits_from n (i + 1) k) ≡ n / 2 ^ i / 2 % 2 ^ k = number_from n (i + 1) k ∙ ap (λ x. x % 2 ^ k) (halves n i) in
    let whole : n / 2 ^ i % 2 ^ (k + 1) ≡ (n / 2 ^ i / 2 % 2 ^ k) * 2 + n / 2 ^ i % 2 = mod-pow-add (n / 2 ^ i) k 1 in
    rw e (omega (arith, low, high, whole))

pub number_append : (xs ys : List Bool) → number_of (xs ++ ys) ≡ number_of xs + 2 ^ length xs * number_of ys
unfolding number_of
number_append [] ys = omega arith
number_append (b ∷ xs) ys =
    let one_more : suc (length xs) ≡ 1 + length xs = omega arith in
    let e : 2 ^ suc (length xs) * number_of ys ≡ 2 * (2 ^ length xs * number_of ys) =
    ap (λ x. 2 ^ x * number_of ys) one_more ∙ ap (λ x. x * number_of ys) (pow-add 2 1 (length xs)) ∙ mul_assoc 2 (2 ^ length xs) (number_of ys) in
    omega (arith, e, number_append xs ys)

pub same_number : (xs ys : List Bool) → length xs ≡ length ys → number_of xs ≡ number_of ys → xs ≡ ys
unfolding number_of
same_number [] [] e h = refl
same_number [] (c ∷ ys) e h = absurd (omega (arith, e))
same_number (b ∷ xs) [] e h = absurd (omega (arith, e))
same_number (true ∷ xs) (true ∷ ys) e h = ap (λ l. true ∷ l) (same_number xs ys (omega (arith, e)) (omega (arith, h)))
same_number (false ∷ xs) (false ∷ ys) e h = ap (λ l. false ∷ l) (same_number xs ys (omega (arith, e)) (omega (arith, h)))
same_number (true ∷ xs) (false ∷ ys) e h = absurd (omega (arith, h))
same_number (false ∷ xs) (true ∷ ys) e h = absurd (omega (arith, h))

pub little_rest : (i n x : ℕ) (xs : List ℕ) → little_from (suc i) n (x ∷ xs) ≡ little_from i n xs
little_rest i zero x xs = refl
little_rest i (suc n) x xs = ap (λ y. slice_index xs i + 256 * y) (little_rest (suc i) n x xs)

-- bytes and their bits are one number
pub one_number : (xs : List ℕ) → ((i : ℕ) → slice_index xs i < 256) → little_number (length xs) xs ≡ number_of (bits_of xs)
unfolding bits_of number_of
one_number [] h = refl
one_number (x ∷ xs) h =
    let byte : number_of (bits_from x 0 8) ≡ x = number_from x 0 8 ∙ ap (λ y. y % 2 ^ 8) (div-one x) ∙ mod-eq_of_lt (h 0) in
    let places : length (bits_from x 0 8) ≡ 8 = length_from x 0 8 in
    let all : number_of (bits_from x 0 8 ++ bits_of xs) ≡ number_of (bits_from x 0 8) + 2 ^ 8 * number_of (bits_of xs) = number_append (bits_from x 0 8) (bits_of xs) ∙ ap (λ k. number_of (bits_from x 0 8) + 2 ^ k * number_of (bits_of xs)) places in
    let others : little_from 1 (length xs) (x ∷ xs) ≡ number_of (bits_of xs) = little_rest 0 (length xs) x xs ∙ one_number xs (λ i. h (suc i)) in
    omega (arith, byte, all, others)

-- the bits of a number's bytes are its bits
pub bits_of_number : (n : ℕ) → n < 2 ^ 64 → ((i : ℕ) → slice_index (little_bytes 8 n) i < 256) → bits_of (little_bytes 8 n) ≡ bits_from n 0 64
bits_of_number n l h =
    let places : length (little_bytes 8 n) ≡ 8 = length-bytes_low_first 0 8 n in
    let value : little_number (length (little_bytes 8 n)) (little_bytes 8 n) ≡ n = ap (λ k. little_number k (little_bytes 8 n)) places ∙ ap (little_number 8) (sym (append-nil (little_bytes 8 n))) ∙ little_from-bytes 8 0 n [] ∙ ap (λ x. x % 256 ^ 8) (div-one n) ∙ mod-eq_of_lt l in
    same_number (bits_of (little_bytes 8 n)) (bits_from n 0 64)
    (length_of (little_bytes 8 n) ∙ ap (λ k. 8 * k) places ∙ sym (length_from n 0 64))
    (sym (one_number (little_bytes 8 n) h) ∙ value ∙ sym (number_from n 0 64 ∙ ap (λ x. x % 2 ^ 64) (div-one n) ∙ mod-eq_of_lt l))

-- bytes are what their bits are packed into
pub unpacked : (xs : List ℕ) → ((i : ℕ) → slice_index xs i < 256) → bytes_within (length xs) (bits_of xs) ≡ xs
unfolding bytes_within bits_of
unpacked [] h = refl
unpacked (x ∷ xs) h =
    let byte : number_of (bits_from x 0 8) ≡ x = number_from x 0 8 ∙ ap (λ y. y % 2 ^ 8) (div-one x) ∙ mod-eq_of_lt (h 0) in
    let places : length (bits_from x 0 8) ≡ 8 = length_from x 0 8 in
    let front : take 8 (bits_from x 0 8 ++ bits_of xs) ≡ bits_from x 0 8 = ap (λ k. take k (bits_from x 0 8 ++ bits_of xs)) (sym places) ∙ take-append_seam (bits_from x 0 8) (bits_of xs) in
    let back : drop 8 (bits_from x 0 8 ++ bits_of xs) ≡ bits_of xs = ap (λ k. drop k (bits_from x 0 8 ++ bits_of xs)) (sym places) ∙ drop-append_seam (bits_from x 0 8) (bits_of xs) in
    ap (λ y. number_of y ∷ bytes_within (length xs) (drop 8 (bits_from x 0 8 ++ bits_of xs))) front
    ∙ ap (λ y. number_of (bits_from x 0 8) ∷ bytes_within (length xs) y) back
    ∙ ap (λ y. y ∷ bytes_within (length xs) (bits_of xs)) byte
    ∙ ap (λ y. x ∷ y) (unpacked xs (λ i. h (suc i)))

-- zeros behind bits change nothing
abbrev pub AreZeros : List Bool → Type 0
AreZeros [] = Unit {0}
AreZeros (b ∷ bs) = (b ≡ false) × AreZeros bs

zero_number : (n : ℕ) (zs : List Bool) → AreZeros zs → number_of (take n zs) ≡ 0
unfolding number_of
zero_number zero zs h = refl
zero_number (suc n) [] h = refl
zero_number (suc n) (z ∷ zs) h = let e = zero_number n zs h.1 in rw h.0 (omega (arith, e))

number_with_zeros : (n : ℕ) (xs zs : List Bool) → AreZeros zs → number_of (take n (xs ++ zs)) ≡ number_of (take n xs)
unfolding number_of
number_with_zeros zero xs zs h = refl
number_with_zeros (suc n) [] zs h = zero_number (suc n) zs h
number_with_zeros (suc n) (x ∷ xs) zs h = ap (λ y. (if x then 1 else 0) + 2 * y) (number_with_zeros n xs zs h)

pub drop_zeros : (n : ℕ) (zs : List Bool) → AreZeros zs → AreZeros (drop n zs)
drop_zeros zero zs h = h
drop_zeros (suc n) [] h = tt
drop_zeros (suc n) (z ∷ zs) h = drop_zeros n zs h.1

drop_both : (n : ℕ) (xs zs : List Bool) → AreZeros zs → (ys : List Bool) × (drop n (xs ++ zs) ≡ drop n xs ++ ys) × AreZeros ys
drop_both zero xs zs h = (zs, refl, h)
drop_both (suc n) [] zs h = (drop (suc n) zs, refl, drop_zeros (suc n) zs h)
drop_both (suc n) (x ∷ xs) zs h = drop_both n xs zs h

pub zeros_behind : (m : ℕ) (xs zs : List Bool) → AreZeros zs → bytes_within m (xs ++ zs) ≡ bytes_within m xs
unfolding bytes_within
zeros_behind zero xs zs h = refl
zeros_behind (suc m) xs zs h =
    let d = drop_both 8 xs zs h in
    ap (λ y. y ∷ bytes_within m (drop 8 (xs ++ zs))) (number_with_zeros 8 xs zs h)
    ∙ ap (λ y. number_of (take 8 xs) ∷ bytes_within m y) d.1
    ∙ ap (λ y. number_of (take 8 xs) ∷ y) (zeros_behind m (drop 8 xs) d.0 d.2)

append_zeros : (xs ys : List Bool) → AreZeros xs → AreZeros ys → AreZeros (xs ++ ys)
append_zeros [] ys h k = k
append_zeros (x ∷ xs) ys h k = (h.0, append_zeros xs ys h.1 k)

bits_of_zero : (i k : ℕ) → AreZeros (bits_from 0 i k)
unfolding bits_from
bits_of_zero i zero = tt
bits_of_zero i (suc k) = (ap (λ x. x == 1) (bit_at-zero i), bits_of_zero (i + 1) k)

pub zero_bytes : (n : ℕ) → AreZeros (bits_of (replicate n 0))
unfolding bits_of
zero_bytes zero = tt
zero_bytes (suc n) = append_zeros (bits_from 0 0 8) (bits_of (replicate n 0)) (bits_of_zero 0 8) (zero_bytes n)

small_byte : (j n : ℕ) → byte_at j n < 256
small_byte zero n = mod-lt n (omega arith)
small_byte (suc j) n = mod-lt (n / 256 ^ suc j) (omega arith)

pub small_bytes : (j k n i : ℕ) → slice_index (bytes_low_first j k n) i < 256
small_bytes j zero n i = omega arith
small_bytes j (suc k) n zero = small_byte j n
small_bytes j (suc k) n (suc i) = small_bytes (suc j) k n i

-- bytes are known by how many they are and by their bits
pub known_by_bits : (xs : List ℕ) (n : ℕ) (bits : List Bool) → ((i : ℕ) → slice_index xs i < 256) → length xs ≡ n → bits_of xs ≡ bits → xs ≡ bytes_within n bits
known_by_bits xs n bits h e f = sym (unpacked xs h) ∙ ap (λ k. bytes_within k (bits_of xs)) e ∙ ap (bytes_within n) f

pub take_whole : (t old : List ℕ) (k : ℕ) → length t ≡ k → length old ≡ k → take k (t ++ drop (length t) old) ≡ t
take_whole t old k e f =
    ap (λ l. take k (t ++ l)) (drop_of_length-le old (omega (arith, e, f)))
    ∙ ap (take k) (append-nil t)
    ∙ take_all k t (omega (arith, e))

-- a field that is copied over zeros
pub over_zeros : (t old : List ℕ) (k : ℕ) (n : ℕ) (field : List Bool) → old ≡ replicate (byte_count n) 0 → length field ≡ n → length t ≡ length old → k ≡ byte_count n
    → t ≡ bytes_within (length old) (put 0 field (bits_of old)) → take k (t ++ drop (length t) old) ≡ packed field
over_zeros t old k n field zeros e f room value =
    let count : length old ≡ byte_count n = ap length zeros ∙ length-replicate (byte_count n) 0 in
    take_whole t old k (f ∙ count ∙ sym room) (count ∙ sym room)
    ∙ value
    ∙ ap (λ m. bytes_within m (field ++ drop (0 + length field) (bits_of old))) count
    ∙ zeros_behind (byte_count n) field (drop (0 + length field) (bits_of old)) (drop_zeros (0 + length field) (bits_of old) (subst (λ l. AreZeros (bits_of l)) (sym zeros) (zero_bytes (byte_count n))))
    ∙ ap (λ m. bytes_within (byte_count m) field) (sym e)

pub small_zeros : (n i : ℕ) → slice_index (replicate n 0) i < 256
small_zeros zero i = omega arith
small_zeros (suc n) zero = omega arith
small_zeros (suc n) (suc i) = small_zeros n i

pub number_again : (n count : ℕ) → n < 2 ^ count → number_of (bits_from n 0 count) ≡ n
number_again n count l = number_from n 0 count ∙ ap (λ x. x % 2 ^ count) (div-one n) ∙ mod-eq_of_lt l

pub packed_again : (bytes : List ℕ) → ((i : ℕ) → slice_index bytes i < 256) → packed (bits_of bytes) ≡ bytes
packed_again bytes h =
    let e = length_of bytes in
    let count : byte_count (length (bits_of bytes)) ≡ length bytes = omega (arith, e) in
    ap (λ n. bytes_within n (bits_of bytes)) count ∙ unpacked bytes h
