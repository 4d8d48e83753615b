-- The bits of a source in a field, and how great a number with bits put in it is.
use Rattle.std.specs.Prelude.{◌≡◌, ◌<◌, ◌≤◌, ◌+◌, ◌*◌, ◌/◌, ◌%◌, ◌^◌, ◌==◌, ℕ, zero, suc, Bool, true, false, if◌then◌else◌, List, [], ◌∷◌, length, drop, get_or, slice_get, Some, refl}
use Rattle.std.proofs.Common.{arith, ap, ◌∙◌, ◌⊎◌, inl, inr}
use Rattle.std.proofs.lemmas.Nat.{pow-add}
use Rattle.std.proofs.lemmas.Nat.Bits.{bit_at_above}
use Rattle.std.proofs.lemmas.List.{get_or-drop, get_or_default, get_or_past}
use Rattle.std.proofs.lemmas.Option.{get_or_from_slice_get}
use Rattle.std.proofs.lemmas.Bool.{cases_lt}
use Rattle.aml_fields.specs.Bits.{bit, bits_from, bits_of, field_bits, merged, number_of, put}
use Rattle.aml_fields.proofs.BitLists.{bit_of, from_at, length_from, length_of}
use Rattle.aml_fields.proofs.Putting.{length_extended}
use Rattle.aml_fields.proofs.SpaceBits.{put_behind}
use Rattle.aml_fields.proofs.UnitWrites.{extended_at}

-- ---- the bits of a source

pub as_many_bits : (bytes : List ℕ) (offset count : ℕ) → length (field_bits bytes offset count) ≡ count
as_many_bits bytes offset count = length_extended count (drop offset (bits_of bytes))

pub of_source : (bytes : List ℕ) (offset count m : ℕ) → m < count → get_or (field_bits bytes offset count) m false ≡ get_or (bits_of bytes) (offset + m) false
of_source bytes offset count m less = extended_at count (drop offset (bits_of bytes)) m less ∙ get_or-drop offset (bits_of bytes) m false

pub own_bit : (bytes : List ℕ) (offset count m b : ℕ) → m < count → slice_get bytes ((offset + m) / 8) ≡ Some b → get_or (field_bits bytes offset count) m false ≡ bit b ((offset + m) % 8)
own_bit bytes offset count m b less at =
    of_source bytes offset count m less ∙ bit_of bytes (offset + m) ∙ ap (λ x. bit x ((offset + m) % 8)) (get_or_from_slice_get bytes ((offset + m) / 8) b 0 at)

pub zero_behind : (bytes : List ℕ) (offset count m : ℕ) → m < count → 8 * length bytes ≤ offset + m → get_or (field_bits bytes offset count) m true ≡ false
zero_behind bytes offset count m less behind =
    let many = as_many_bits bytes offset count in let long = length_of bytes in
    get_or_default (field_bits bytes offset count) m true false (omega (arith, many, less))
    ∙ of_source bytes offset count m less ∙ get_or_past (bits_of bytes) (offset + m) false (omega (arith, long, behind))

pub ruleset a_source_ends_with_zeros = (as_many_bits, own_bit, zero_behind)

-- ---- a number whose bits all stand below one

double : (k : ℕ) → 2 ^ suc k ≡ 2 * 2 ^ k
double k = let one : suc k ≡ 1 + k = omega arith in ap (λ n. 2 ^ n) one ∙ pow-add 2 1 k

abbrev digit : Bool → ℕ
digit b = if b then 1 else 0

at_most_one : (b : Bool) → digit b ≤ 1
at_most_one true = omega arith
at_most_one false = omega arith

pub number_without_higher_bits : (k : ℕ) (bits : List Bool) → ((j : ℕ) → k ≤ j → get_or bits j false ≡ false) → number_of bits < 2 ^ k
unfolding number_of
number_without_higher_bits zero [] none = omega arith
number_without_higher_bits zero (b ∷ bits) none =
    let h = number_without_higher_bits zero bits (λ j from. none (suc j) (omega arith)) in
    let z : digit b ≡ 0 = ap digit (none 0 (omega arith)) in
    omega (arith, h, z)
number_without_higher_bits (suc k) [] none = let h = number_without_higher_bits k [] (λ j from. refl) in let p = double k in omega (arith, h, p)
number_without_higher_bits (suc k) (b ∷ bits) none =
    let h = number_without_higher_bits k bits (λ j from. none (suc j) (omega (arith, from))) in
    let p = double k in let o = at_most_one b in
    omega (arith, h, p, o)

no_higher_bit : (rest k j : ℕ) → rest < 2 ^ k → k ≤ j → get_or (bits_from rest 0 64) j false ≡ false
no_higher_bit rest k j small from = by_place (cases_lt j 64) where
  by_place : (j < 64) ⊎ (64 ≤ j) → get_or (bits_from rest 0 64) j false ≡ false
  by_place (inl less) = from_at rest 0 64 j less ∙ ap (bit rest) (omega arith) ∙ ap (λ b. b == 1) (bit_at_above rest k j small from)
  by_place (inr past) = let long = length_from rest 0 64 in get_or_past (bits_from rest 0 64) j false (omega (arith, long, past))

pub merged_fits : (rest first k : ℕ) (new : List Bool) → first + length new ≤ k → k ≤ 64 → rest < 2 ^ k → merged rest first new < 2 ^ k
merged_fits rest first k new within few small =
    number_without_higher_bits k (put first new (bits_from rest 0 64)) (λ j from.
    let long = length_from rest 0 64 in
    put_behind first j new (bits_from rest 0 64) (omega (arith, within, from)) (omega (arith, long, within, few)) ∙ no_higher_bit rest k j small from)
