-- The units of a field hold its bits in order.
use Rattle.std.proofs.Common.{◌≡◌, ◌<◌, ◌≤◌, ℕ, zero, suc, ◌+◌, ◌-◌, ◌*◌, ◌/◌, ◌%◌, ◌==◌, min, Bool, true, false, [], if◌then◌else◌, ◌⊎◌, inl, inr, refl, ap, sym, ◌∙◌, arith, rules}
use Rattle.std.proofs.Math.Nat.{div-mul-le_self, lt-div-mul-add, mul-mod_left, mul_assoc, add-mul, one-mul, mul-le-mul_right}
use Rattle.std.proofs.Math.Numerals.{suc-eq-add-one}
use Rattle.std.proofs.lemmas.Bool.{cases_lt}
use Rattle.ar_space.specs.declared.space.Width.{Width}
use Rattle.ar_space.specs.declared.space.Width.TheVariants.{W8, W16, W32, W64}
use Rattle.ar_space.specs.Accesses.{byte_count, bit_count}
use Rattle.aml_fields.specs.Units.{unit_at, units_from, units_up_to, units_of}
use Rattle.aml_fields.specs.Covering.{IsUnit, Cover}

eight : (w : Width) → bit_count w ≡ byte_count w * 8
eight W8 = refl
eight W16 = refl
eight W32 = refl
eight W64 = refl

wide : (w : Width) → 0 < bit_count w
wide W8 = omega arith
wide W16 = omega arith
wide W32 = omega arith
wide W64 = omega arith

bytes_of_bits : (w : Width) (k : ℕ) → k * bit_count w ≡ k * byte_count w * 8
bytes_of_bits w k = ap (λ u. k * u) (eight w) ∙ sym (mul_assoc k (byte_count w) 8)

one_on : (k u : ℕ) → (k + 1) * u ≡ k * u + u
one_on k u = add-mul k 1 u ∙ ap (λ x. k * u + x) (one-mul u)

many_on : (m u : ℕ) → suc m * u ≡ m * u + u
many_on m u = ap (λ x. x * u) (suc-eq-add-one m) ∙ one_on m u

eighth : (w : Width) (k : ℕ) → k * bit_count w / 8 ≡ k * byte_count w
eighth w k = let e = bytes_of_bits w k in omega (arith, e)

is_unit : (o n d : ℕ) (w : Width) (k : ℕ) → 0 < n → o < k * bit_count w + bit_count w → k * bit_count w < o + n → d ≡ min (k * bit_count w - o) n → IsUnit o w d (unit_at o n w k)
is_unit o n d w k bits after before e =
    let b = bytes_of_bits w k in
    let q = eighth w k in
    let u = wide w in
    record {
      aligned = ap (λ x. x % byte_count w) q ∙ mul-mod_left k (byte_count w);
      here = omega (arith, e, before);
      there = omega (arith, e, before, b, q);
      some = omega (arith, bits, after, before, u);
      inside = omega (arith, after, before, u);
    }

-- from a unit that holds some bit, with as many units as hold the others
covers : (o n d : ℕ) (w : Width) (k m : ℕ) → 0 < n → o < k * bit_count w + bit_count w → d ≡ min (k * bit_count w - o) n → o + n ≤ k * bit_count w + m * bit_count w → (0 < m → k * bit_count w + m * bit_count w < o + n + bit_count w)
    → Cover o n w d (units_from o n w k m)
unfolding units_from
covers o n d w k zero bits after e all few = let z : 0 * bit_count w ≡ 0 = omega arith in omega (arith, e, all, z)
covers o n d w k (suc m) bits after e all few =
    let u = wide w in
    let more = many_on m (bit_count w) in
    let next = one_on k (bit_count w) in
    let f = few (omega arith) in
    let before : k * bit_count w < o + n = omega (arith, more, f) in (
      is_unit o n d w k bits after before e,
      omega (arith, e, before),
      covers o n (d + (unit_at o n w k).count) w (k + 1) m bits (omega (arith, next, after, u)) (omega (arith, next, e, before, after, u)) (omega (arith, next, more, all)) (λ p. omega (arith, next, more, f)),
    )

up_to_end : (end : ℕ) (w : Width) → (end ≤ units_up_to end w * bit_count w) × (0 < end → units_up_to end w * bit_count w < end + bit_count w)
up_to_end end w =
    let u = wide w in
    let low = div-mul-le_self (end + bit_count w - 1) (bit_count w) in
    let high : end + bit_count w - 1 < (end + bit_count w - 1) / bit_count w * bit_count w + bit_count w = lt-div-mul-add u in
    (omega (arith, u, high), λ p. omega (arith, u, low, p))

no_more : (k c u : ℕ) → k * u < c * u → k ≤ c
no_more k c u h = by_order (cases_lt c k) where
  by_order : (c < k) ⊎ (k ≤ c) → k ≤ c
  by_order (inl l) = absurd (let g : c * u ≤ k * u = mul-le-mul_right u (omega arith) in omega (arith, g, h))
  by_order (inr l) = l

rest_of : (k c u : ℕ) → k ≤ c → k * u + (c - k) * u ≡ c * u
rest_of k c u l = sym (add-mul k (c - k) u) ∙ ap (λ x. x * u) (omega arith)

some_bits : (o n : ℕ) (w : Width) → 0 < n → Cover o n w 0 (units_from o n w (o / bit_count w) (units_up_to (o + n) w - o / bit_count w))
some_bits o n w bits =
    let u = wide w in
    let low = div-mul-le_self o (bit_count w) in
    let high : o < o / bit_count w * bit_count w + bit_count w = lt-div-mul-add u in
    let end = up_to_end (o + n) w in
    let all = end.0 in
    let few = end.1 (omega (arith, bits)) in
    let r = rest_of (o / bit_count w) (units_up_to (o + n) w) (bit_count w) (no_more (o / bit_count w) (units_up_to (o + n) w) (bit_count w) (omega (arith, low, all, bits))) in
    covers o n 0 w (o / bit_count w) (units_up_to (o + n) w - o / bit_count w) bits high (omega (arith, low, bits)) (omega (arith, r, all)) (λ p. omega (arith, r, few))

by_bits : (b : Bool) (o n : ℕ) (w : Width) → (n == 0) ≡ b → Cover o n w 0 (if b then [] else units_from o n w (o / bit_count w) (units_up_to (o + n) w - o / bit_count w))
by_bits true o n w e = search rules
by_bits false o n w e = some_bits o n w (search rules)

pub units_cover : (o n : ℕ) (w : Width) → Cover o n w 0 (units_of o n w)
units_cover o n w = by_bits (n == 0) o n w refl
