-- A write of a field rests on the field's bits alone, so bytes that begin with the same bits are written alike.
use Rattle.std.proofs.Common.{◌≡◌, ◌<◌, ◌≤◌, ℕ, ◌+◌, ◌-◌, Bool, false, List, [], ◌∷◌, ◌++◌, length, drop, get_or, refl, ap, sym, ◌∙◌, subst, arith, ext_get_or, get_or-drop}
use Rattle.ar_space.specs.Accesses.{Accesses}
use Rattle.ar_space.specs.Change.{Change, settle, ◌>>=◌, ◌>>◌}
use Rattle.aml_objects.specs.declared.entry.FieldUnit.{FieldUnit}
use Rattle.aml_fields.specs.declared.region.Region.{Region}
use Rattle.aml_fields.specs.declared.field_units.Unit.{Unit as Access}
use Rattle.aml_fields.specs.Bits.{bits_from, bits_of, extended, field_bits, rest_of_unit, merged}
use Rattle.aml_fields.specs.Covering.{Cover}
use Rattle.aml_fields.specs.Units.{units_of}
use Rattle.aml_fields.specs.Regions.{unit_place, read_access, write_access, write_unit, write_field}
use Rattle.aml_fields.specs.UnitByUnit.{kept, write_units}
use Rattle.aml_fields.proofs.BitLists.{length_from}
use Rattle.aml_fields.proofs.Covers.{units_cover}
use Rattle.aml_fields.proofs.OneUnit.{extended_front}
use Rattle.aml_fields.proofs.Putting.{length_extended}
use Rattle.aml_fields.proofs.SpaceBits.{from_append}
use Rattle.aml_fields.proofs.UnitLoops.{in_field}
use Rattle.aml_fields.proofs.UnitWrites.{extended_at}

-- the bits of a part are those of the whole
part_at : (xs : List Bool) (n p c i : ℕ) → p + c ≤ n → i < c → get_or (extended c (drop p xs)) i false ≡ get_or (extended n (drop 0 xs)) (p + i) false
part_at xs n p c i l m =
    extended_at c (drop p xs) i m
    ∙ get_or-drop p xs i false
    ∙ sym (extended_at n (drop 0 xs) (p + i) (omega (arith, l, m)) ∙ get_or-drop 0 xs (p + i) false ∙ ap (λ k. get_or xs k false) (omega arith))

part_same : (xs ys : List Bool) (n p c : ℕ) → p + c ≤ n → extended n (drop 0 xs) ≡ extended n (drop 0 ys) → extended c (drop p xs) ≡ extended c (drop p ys)
part_same xs ys n p c l e =
    ext_get_or false _ _ (length_extended c (drop p xs) ∙ sym (length_extended c (drop p ys)))
    (λ i m.
    let here : i < c = subst (λ k. i < k) (length_extended c (drop p xs)) m in
    part_at xs n p c i l here ∙ ap (λ zs. get_or zs (p + i) false) e ∙ sym (part_at ys n p c i l here))

module _ {S : Type 0} (accesses : Accesses S) (r : Region) (f : FieldUnit) (s t : List ℕ) (same : field_bits s 0 f.bits ≡ field_bits t 0 f.bits) where
  unit_same : (u : Access) → u.position + u.count ≤ f.bits → write_unit accesses r f s u ≡ write_unit accesses r f t u
  unfolding write_unit
  unit_same u l = ap
      (λ (bits : List Bool). settle (unit_place r f.access u.offset) >>= (λ p. kept f u (read_access accesses p f.access) >>= (λ old. write_access accesses p f.access (merged (rest_of_unit f.update f.access old) u.first bits))))
      (part_same (bits_of s) (bits_of t) f.bits u.position u.count l same)

  units_same : (d : ℕ) (us : List Access) → Cover f.bit_offset f.bits f.access d us → write_units (write_unit accesses r f s) us ≡ write_units (write_unit accesses r f t) us
  unfolding write_units
  units_same d [] c = refl
  units_same d (u ∷ us) c =
      ap (λ (w : Change S (Unit {0})). w >> write_units (write_unit accesses r f s) us) (unit_same u (in_field f.bit_offset f.bits d f.access u us (u ∷ us) refl c))
      ∙ ap (λ (w : Change S (Unit {0})). write_unit accesses r f t u >> w) (units_same (d + u.count) us c.2)

  pub write_same : write_field accesses r f s ≡ write_field accesses r f t
  write_same = units_same 0 (units_of f.bit_offset f.bits f.access) (units_cover f.bit_offset f.bits f.access)

-- the first bits of a number's bits
pub front_bits : (number count : ℕ) (bytes : List ℕ) → count ≤ 64 → bits_of bytes ≡ bits_from number 0 64 → field_bits bytes 0 count ≡ bits_from number 0 count
front_bits number count bytes l e =
    let split : bits_from number 0 64 ≡ bits_from number 0 count ++ bits_from number (0 + count) (64 - count) = ap (bits_from number 0) (omega (arith, l)) ∙ from_append number 0 count (64 - count) in
    ap (extended count) (e ∙ split) ∙ extended_front (bits_from number 0 count) (bits_from number (0 + count) (64 - count)) count (length_from number 0 count)
