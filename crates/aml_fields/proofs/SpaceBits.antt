-- The bits of an address space of bytes.
use Rattle.std.proofs.Common.{◌≡◌, ◌<◌, ◌≤◌, ℕ, zero, suc, ◌+◌, ◌-◌, ◌*◌, ◌/◌, ◌%◌, ◌^◌, ◌==◌, Bool, true, false, if◌then◌else◌, List, [], ◌∷◌, ◌++◌, length, take, drop, get_or, slice_index, Option, Some, refl, ap, sym, ◌∙◌, arith, length-append, length-drop}
use Rattle.std.proofs.Math.Nat.{div-div-eq-div-mul, div-one, mod-eq_of_lt, mod-mod}
use Rattle.std.proofs.lemmas.Nat.{pow-add}
use Rattle.std.proofs.lemmas.List.{get_or_append_left, get_or-append_right, get_or-drop, get_or-take, length-take-le}
use Rattle.std.specs.Option.{option_map}
use Rattle.byteorder.specs.Endian.{little_number}
use Rattle.ar_space.specs.Bytes.{Bytes}
use Rattle.aml_fields.specs.Bits.{bit, bits_from, bits_of, number_of, put}
use Rattle.aml_fields.proofs.BitLists.{length_from, length_of, bit_of}
use Rattle.aml_fields.proofs.Numbers.{number_from, same_number, one_number, little_rest}
use Rattle.aml_fields.proofs.Cells.{Cells, Stand, little, digits}

-- a list of bits is known by its number
pub number_below : (zs : List Bool) → number_of zs < 2 ^ length zs
unfolding number_of
number_below [] = omega arith
number_below (z ∷ zs) =
    let one : suc (length zs) ≡ 1 + length zs = omega arith in
    let p : 2 ^ suc (length zs) ≡ 2 * 2 ^ length zs = ap (λ k. 2 ^ k) one ∙ pow-add 2 1 (length zs) in
    let h = number_below zs in
    let b : (if z then 1 else 0) ≤ 1 = at_most_one z in
    omega (arith, p, h, b) where
      at_most_one : (z : Bool) → (if z then 1 else 0) ≤ 1
      at_most_one true = omega arith
      at_most_one false = omega arith

pub bits_again : (zs : List Bool) → bits_from (number_of zs) 0 (length zs) ≡ zs
bits_again zs = same_number (bits_from (number_of zs) 0 (length zs)) zs (length_from (number_of zs) 0 (length zs))
    (number_from (number_of zs) 0 (length zs) ∙ ap (λ x. x % 2 ^ length zs) (div-one (number_of zs)) ∙ mod-eq_of_lt (number_below zs))

pub from_append : (n i j k : ℕ) → bits_from n i (j + k) ≡ bits_from n i j ++ bits_from n (i + j) k
unfolding bits_from
from_append n i zero k = let e : 0 + k ≡ k = omega arith in let f : i + 0 ≡ i = omega arith in rw (e, f) refl
from_append n i (suc j) k =
    let e : suc j + k ≡ suc (j + k) = omega arith in
    let f : i + suc j ≡ i + 1 + j = omega arith in
    rw (e, f) (ap (λ l. bit n i ∷ l) (from_append n (i + 1) j k))

above_byte : (v i k : ℕ) → bits_from v (8 + i) k ≡ bits_from (v / 256) i k
unfolding bits_from
above_byte v i zero = refl
above_byte v i (suc k) =
    let here : bit v (8 + i) ≡ bit (v / 256) i = ap (λ x. x % 2 == 1) (ap (λ x. v / x) (pow-add 2 8 i) ∙ sym (div-div-eq-div-mul v 256 (2 ^ i))) in
    let next : 8 + i + 1 ≡ 8 + (i + 1) = omega arith in
    ap (λ b. b ∷ bits_from v (8 + i + 1) k) here ∙ ap (λ j. bit (v / 256) i ∷ bits_from v j k) next ∙ ap (λ l. bit (v / 256) i ∷ l) (above_byte v (i + 1) k)

low_byte : (v : ℕ) → bits_from (v % 256) 0 8 ≡ bits_from v 0 8
low_byte v = same_number (bits_from (v % 256) 0 8) (bits_from v 0 8) (length_from (v % 256) 0 8 ∙ sym (length_from v 0 8))
    (number_from (v % 256) 0 8 ∙ ap (λ x. x % 256) (div-one (v % 256)) ∙ mod-mod v 256 ∙ sym (number_from v 0 8 ∙ ap (λ x. x % 256) (div-one v)))

no_bits : (v i : ℕ) → bits_from v i 0 ≡ []
unfolding bits_from
no_bits v i = refl

pub bits_of_digits : (count v : ℕ) → bits_of (digits count v) ≡ bits_from v 0 (8 * count)
unfolding bits_of
bits_of_digits zero v = let e : 8 * 0 ≡ 0 = omega arith in sym (ap (bits_from v 0) e ∙ no_bits v 0)
bits_of_digits (suc count) v =
    let e : 8 * suc count ≡ 8 + 8 * count = omega arith in
    ap (λ l. l ++ bits_of (digits count (v / 256))) (low_byte v)
    ∙ ap (λ l. bits_from v 0 8 ++ l) (bits_of_digits count (v / 256) ∙ sym (above_byte v 0 (8 * count)))
    ∙ sym (ap (bits_from v 0) e ∙ from_append v 0 8 (8 * count))

little_is : (xs : List ℕ) → little xs ≡ little_number (length xs) xs
little_is [] = refl
little_is (x ∷ xs) = ap (λ y. x + 256 * y) (little_is xs ∙ sym (little_rest 0 (length xs) x xs))

-- the bits of the number of some bytes are theirs
pub bits_of_little : (xs : List ℕ) (v : ℕ) → ((i : ℕ) → slice_index xs i < 256) → v ≡ little xs → bits_from v 0 (8 * length xs) ≡ bits_of xs
bits_of_little xs v small e =
    let value : number_of (bits_of xs) ≡ v = sym (e ∙ little_is xs ∙ one_number xs small) in
    ap (λ n. bits_from n 0 (8 * length xs)) (sym value) ∙ ap (bits_from (number_of (bits_of xs)) 0) (sym (length_of xs)) ∙ bits_again (bits_of xs)

-- bits that are put in place of others, one by one
pub put_before : (to m : ℕ) (new old : List Bool) → m < to → to ≤ length old → get_or (put to new old) m false ≡ get_or old m false
put_before to m new old l within =
    let front : m < length (take to old) = let h = length-take-le to old within in omega (arith, h, l) in
    get_or_append_left (take to old ++ new) (drop (to + length new) old) false m (let h = length-append (take to old) new in omega (arith, h, front))
    ∙ get_or_append_left (take to old) new false m front ∙ get_or-take to old m false l

pub put_inside : (to m : ℕ) (new old : List Bool) → m < length new → to ≤ length old → get_or (put to new old) (to + m) false ≡ get_or new m false
put_inside to m new old l within =
    let front : length (take to old) ≡ to = length-take-le to old within in
    get_or_append_left (take to old ++ new) (drop (to + length new) old) false (to + m) (let h = length-append (take to old) new in omega (arith, h, front, l))
    ∙ get_or-append_right (take to old) new to (to + m) false front (omega arith) ∙ ap (λ i. get_or new i false) (omega arith)

pub put_behind : (to m : ℕ) (new old : List Bool) → to + length new ≤ m → to + length new ≤ length old → get_or (put to new old) m false ≡ get_or old m false
put_behind to m new old l within =
    let front : length (take to old ++ new) ≡ to + length new = let h = length-append (take to old) new in let k = length-take-le to old (omega (arith, within)) in omega (arith, h, k) in
    let same : to + length new + (m - (to + length new)) ≡ m = omega (arith, l) in
    get_or-append_right (take to old ++ new) (drop (to + length new) old) (to + length new) m false front l
    ∙ get_or-drop (to + length new) old (m - (to + length new)) false ∙ ap (λ i. get_or old i false) same

pub length_put : (to : ℕ) (new old : List Bool) → to + length new ≤ length old → length (put to new old) ≡ length old
length_put to new old l =
    let a = length-append (take to old ++ new) (drop (to + length new) old) in
    let b = length-append (take to old) new in
    let t = length-take-le to old (omega (arith, l)) in
    let d = length-drop (to + length new) old in
    omega (arith, a, b, t, d, l)

module _ (c : Cells) where
  -- one bit of the address space, counted from its first byte
  abbrev pub space_bit : Bytes → ℕ → Option Bool
  space_bit b k = option_map (λ x. bit x (k % 8)) (c.get b (k / 8))

  pub stand_at : (b : Bytes) (m : ℕ) (xs : List ℕ) (q : ℕ) → Stand c b m xs → q < length xs → c.get b (m + q) ≡ Some (get_or xs q 0)
  stand_at b m [] q h l = absurd (omega (arith, l))
  stand_at b m (x ∷ xs) zero h l = ap (c.get b) (omega arith) ∙ h.0
  stand_at b m (x ∷ xs) (suc q) h l = ap (c.get b) (omega arith) ∙ stand_at b (m + 1) xs q h.2 (omega (arith, l))

  pub stand_bit : (b : Bytes) (m : ℕ) (xs : List ℕ) (i : ℕ) → Stand c b m xs → i < 8 * length xs → space_bit b (8 * m + i) ≡ Some (get_or (bits_of xs) i false)
  stand_bit b m xs i h l =
      let byte : (8 * m + i) / 8 ≡ m + i / 8 = omega arith in
      let place : (8 * m + i) % 8 ≡ i % 8 = omega arith in
      rw (byte, place) (ap (option_map (λ x. bit x (i % 8))) (stand_at b m xs (i / 8) h (omega (arith, l))) ∙ ap Some (sym (bit_of xs i)))
