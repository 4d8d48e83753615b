-- A field has one unit for each aligned piece of its region that it touches.
use Rattle.std.proofs.Common.{◌≡◌, ◌<◌, ◌≤◌, ℕ, zero, suc, ◌+◌, ◌-◌, ◌*◌, ◌/◌, ◌%◌, ◌==◌, Bool, true, false, [], if◌then◌else◌, ◌⊎◌, inl, inr, refl, ap, sym, subst, ◌∙◌, arith, rules}
use Rattle.std.proofs.Math.Nat.{div-mul-le_self, lt-div-mul-add, mul-mod_left, mul_assoc, add-mul, one-mul, mul-le-mul_right}
use Rattle.std.proofs.Math.Numerals.{suc-eq-add-one}
use Rattle.std.proofs.lemmas.Bool.{cases_lt}
use Rattle.ar_space.specs.declared.space.Width.{Width}
use Rattle.ar_space.specs.declared.space.Width.TheVariants.{W8, W16, W32, W64}
use Rattle.ar_space.specs.Accesses.{byte_count, bit_count}
use Rattle.aml_fields.specs.Units.{unit_at, units_from, units_up_to, units_of}
use Rattle.aml_laws.specs.TouchedUnits.{HoldsItsBits, TouchedFrom, TouchedInTurn}
use Rattle.aml_laws.proofs.IndexRegisters.{some_bits}

-- ---- bits and bytes

eight : (w : Width) → bit_count w ≡ byte_count w * 8
eight W8 = refl
eight W16 = refl
eight W32 = refl
eight W64 = refl

bytes_of_bits : (w : Width) (k : ℕ) → k * bit_count w ≡ k * byte_count w * 8
bytes_of_bits w k = ap (λ u. k * u) (eight w) ∙ sym (mul_assoc k (byte_count w) 8)

eighth : (w : Width) (k : ℕ) → k * bit_count w / 8 ≡ k * byte_count w
eighth w k = let e = bytes_of_bits w k in omega (arith, e)

one_on : (k u : ℕ) → (k + 1) * u ≡ k * u + u
one_on k u = add-mul k 1 u ∙ ap (λ x. k * u + x) (one-mul u)

many_on : (m u : ℕ) → suc m * u ≡ m * u + u
many_on m u = ap (λ x. x * u) (suc-eq-add-one m) ∙ one_on m u

-- ---- one unit

holds : (o n : ℕ) (w : Width) (k : ℕ) → 0 < n → o < k * bit_count w + bit_count w → k * bit_count w < o + n → HoldsItsBits o n w (unit_at o n w k)
holds o n w k bits after before =
    let b = bytes_of_bits w k in
    let q = eighth w k in
    let u = some_bits w in
    record {
      some = omega (arith, bits, after, before, u);
      all = λ i of_field in_piece.
          let f = of_field.0 in
          let g = of_field.1 in
          let p = in_piece.0 in
          let r = in_piece.1 in
          (omega (arith, f, p, b, q), omega (arith, f, g, p, r, b, q));
      alone = λ i in_unit.
          let f = in_unit.0 in
          let g = in_unit.1 in
          ((omega (arith, f, g, after, before, b, q), omega (arith, f, g, after, before, b, q)), (omega (arith, f, g, after, before, b, q), omega (arith, f, g, after, before, b, q)));
      position = omega (arith, after, before, b, q);
    }

-- ---- all units

touched_from : (o n : ℕ) (w : Width) (k m : ℕ) → 0 < n → o < k * bit_count w + bit_count w → o + n ≤ k * bit_count w + m * bit_count w → (0 < m → k * bit_count w + m * bit_count w < o + n + bit_count w) → TouchedFrom o n w (k * byte_count w) (units_from o n w k m)
unfolding units_from
touched_from o n w k zero bits after all few =
    let none : 0 * bit_count w ≡ 0 = omega arith in
    let b = bytes_of_bits w k in
    omega (arith, all, none, b)
touched_from o n w k (suc m) bits after all few =
    let u = some_bits w in
    let more = many_on m (bit_count w) in
    let next = one_on k (bit_count w) in
    let f = few (omega arith) in
    let before : k * bit_count w < o + n = omega (arith, more, f) in
    let further : TouchedFrom o n w ((k + 1) * byte_count w) (units_from o n w (k + 1) m) = touched_from o n w (k + 1) m bits (omega (arith, next, after, u)) (omega (arith, next, more, all)) (λ p. omega (arith, next, more, f)) in
    (eighth w k, holds o n w k bits after before, subst (λ x. TouchedFrom o n w x (units_from o n w (k + 1) m)) (one_on k (byte_count w)) further)

-- ---- the units of a field

up_to_end : (end : ℕ) (w : Width) → (end ≤ units_up_to end w * bit_count w) × (0 < end → units_up_to end w * bit_count w < end + bit_count w)
up_to_end end w =
    let u = some_bits w in
    let low = div-mul-le_self (end + bit_count w - 1) (bit_count w) in
    let high : end + bit_count w - 1 < (end + bit_count w - 1) / bit_count w * bit_count w + bit_count w = lt-div-mul-add u in
    (omega (arith, u, high), λ p. omega (arith, u, low, p))

no_more : (k c u : ℕ) → k * u < c * u → k ≤ c
no_more k c u h = by_order (cases_lt c k) where
  by_order : (c < k) ⊎ (k ≤ c) → k ≤ c
  by_order (inl l) = absurd (let g : c * u ≤ k * u = mul-le-mul_right u (omega arith) in omega (arith, g, h))
  by_order (inr l) = l

rest_of : (k c u : ℕ) → k ≤ c → k * u + (c - k) * u ≡ c * u
rest_of k c u l = sym (add-mul k (c - k) u) ∙ ap (λ x. x * u) (omega arith)

from_first : (o n : ℕ) (w : Width) → 0 < n → TouchedInTurn o n w (units_from o n w (o / bit_count w) (units_up_to (o + n) w - o / bit_count w))
from_first o n w bits =
    let u = some_bits w in
    let k = o / bit_count w in
    let c = units_up_to (o + n) w in
    let low : k * bit_count w ≤ o = div-mul-le_self o (bit_count w) in
    let high : o < k * bit_count w + bit_count w = lt-div-mul-add u in
    let end = up_to_end (o + n) w in
    let all = end.0 in
    let few = end.1 (omega (arith, bits)) in
    let r : k * bit_count w + (c - k) * bit_count w ≡ c * bit_count w = rest_of k c (bit_count w) (no_more k c (bit_count w) (omega (arith, low, all, bits))) in
    let b = bytes_of_bits w k in
    record {
      offset = k * byte_count w;
      aligned = mul-mod_left k (byte_count w);
      begins = (omega (arith, low, b), omega (arith, high, b));
      each = touched_from o n w k (c - k) bits high (omega (arith, r, all)) (λ p. omega (arith, r, few));
    }

by_bits : (b : Bool) (o n : ℕ) (w : Width) → 0 < n → (n == 0) ≡ b → TouchedInTurn o n w (if b then [] else units_from o n w (o / bit_count w) (units_up_to (o + n) w - o / bit_count w))
by_bits true o n w bits e = absurd (search (rules, bits, e))
by_bits false o n w bits e = from_first o n w bits

pub units_touched : (o n : ℕ) (w : Width) → 0 < n → TouchedInTurn o n w (units_of o n w)
units_touched o n w bits = by_bits (n == 0) o n w bits refl
