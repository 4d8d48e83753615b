-- What the write of a field does to the bits of an address space.
use Rattle.std.proofs.Common.{◌≡◌, ◌<◌, ◌≤◌, ℕ, ◌+◌, ◌-◌, ◌*◌, Bool, false, List, [], ◌∷◌, length, drop, get_or, Option, Some, Ok, ◌⊎◌, inl, inr, ap, sym, ◌∙◌, subst, arith, get_or-drop}
use Rattle.std.specs.Option.{is_some}
use Rattle.std.proofs.lemmas.Bool.{cases_lt}
use Rattle.ar_space.specs.declared.space.Place.{Place}
use Rattle.ar_space.specs.Accesses.{byte_count as bytes_wide, bit_count}
use Rattle.ar_space.specs.Change.{settle, give}
use Rattle.ar_space.specs.Bytes.{Bytes, number_on, written_on, byte_accesses}
use Rattle.aml_objects.specs.declared.entry.FieldUnit.{FieldUnit}
use Rattle.aml_objects.specs.declared.entry.UpdateRule.TheVariants.{Preserve}
use Rattle.aml_fields.specs.declared.region.Region.{Region}
use Rattle.aml_fields.specs.declared.field_units.Unit.{Unit as Access}
use Rattle.aml_fields.specs.Bits.{bit, bits_from, bits_of, number_of, put, field_bits, rest_of_unit, merged}
use Rattle.aml_fields.specs.Covering.{IsUnit, Cover}
use Rattle.aml_fields.specs.Regions.{write_unit}
use Rattle.aml_fields.specs.UnitByUnit.{write_units}
use Rattle.aml_fields.proofs.BitLists.{length_from, from_at}
use Rattle.aml_fields.proofs.Putting.{length_extended}
use Rattle.aml_fields.proofs.Cells.{Cells}
use Rattle.aml_fields.proofs.SpaceBits.{space_bit, bits_again, put_before, put_inside, put_behind, length_put}
use Rattle.aml_fields.proofs.UnitWrites.{steps, IsOf, place_is, kept_is, replaced_by, Small, Swapped, swapped, extended_at, narrow}

-- the bits of a source from one on stand in an address space from one on
pub record Wrote (c : Cells) (from done count : ℕ) (source : List ℕ) (b b' : Bytes) : Type 0 where
  pub inside : (i : ℕ) → i < count → space_bit c b' (from + done + i) ≡ Some (get_or (bits_of source) (done + i) false)
  pub below : (k : ℕ) → k < from + done → space_bit c b' k ≡ space_bit c b k
  pub above : (k : ℕ) → from + done + count ≤ k → space_bit c b' k ≡ space_bit c b k
  pub present : (m : ℕ) → is_some (c.get b' m) ≡ is_some (c.get b m)
  pub others : c.others b' ≡ c.others b
  pub small : Small c b'

-- the bits of a merged unit, one by one
pub merged_bits : (rest first m : ℕ) (new : List Bool) → first + length new ≤ 64 → m < 64 → bit (merged rest first new) m ≡ get_or (put first new (bits_from rest 0 64)) m false
merged_bits rest first m new l n =
    let zs = put first new (bits_from rest 0 64) in
    let long : length zs ≡ 64 = length_put first new (bits_from rest 0 64) (let h = length_from rest 0 64 in omega (arith, h, l)) ∙ length_from rest 0 64 in
    let value = number_of zs in
    sym (from_at value 0 64 m n ∙ ap (bit value) (omega arith)) ∙ ap (λ z. get_or z m false) (ap (bits_from value 0) (sym long) ∙ bits_again zs)

module _ (c : Cells) (r : Region) (of : IsOf c r) (f : FieldUnit) (rule : f.update ≡ Preserve) (source : List ℕ) where
  by_swap : (u : Access) (done old before : ℕ) (b b' : Bytes) → IsUnit f.bit_offset f.access done u → ((u.count ≡ bit_count f.access) ⊎ (old ≡ before))
      → Swapped c (r.offset + u.offset) f.access (merged old u.first (field_bits source u.position u.count)) before b b' → Wrote c (8 * r.offset + f.bit_offset) done u.count source b b'
  by_swap u done old before b b' unit how s =
      let w = f.access in
      let new = field_bits source u.position u.count in
      let n = narrow w in
      let many : length new ≡ u.count = length_extended u.count (drop u.position (bits_of source)) in
      let fits : u.first + length new ≤ 64 = let i = unit.inside in omega (arith, i, n, many) in
      let there = unit.there in
      let some = unit.some in
      let inside = unit.inside in
      let room : u.first ≤ length (bits_from old 0 64) = let h = length_from old 0 64 in omega (arith, h, fits) in
      let room' : u.first + length new ≤ length (bits_from old 0 64) = let h = length_from old 0 64 in omega (arith, h, fits) in
      record {
        inside = λ i l.
            let place : 8 * r.offset + f.bit_offset + done + i ≡ 8 * (r.offset + u.offset) + (u.first + i) = omega (arith, there) in
            ap (space_bit c b') place
            ∙ s.holds (u.first + i) (omega (arith, l, inside))
            ∙ ap Some (merged_bits old u.first (u.first + i) new fits (omega (arith, l, inside, n))
            ∙ put_inside u.first i new (bits_from old 0 64) (omega (arith, l, many)) room
            ∙ extended_at u.count (drop u.position (bits_of source)) i l
            ∙ get_or-drop u.position (bits_of source) i false
            ∙ ap (λ k. get_or (bits_of source) (k + i) false) unit.here);
        below = λ k l. under_field k l how (cases_lt k (8 * (r.offset + u.offset)));
        above = λ k l. over_field k l how (cases_lt k (8 * (r.offset + u.offset) + bit_count w));
        present = s.present;
        others = s.others;
        small = s.small;
      } where
        same_bit : (m : ℕ) → m < bit_count f.access → old ≡ before → get_or (put u.first (field_bits source u.position u.count) (bits_from old 0 64)) m false ≡ bit old m → space_bit c b' (8 * (r.offset + u.offset) + m) ≡ space_bit c b (8 * (r.offset + u.offset) + m)
        same_bit m l e h =
            let n = narrow f.access in
            let many : length (field_bits source u.position u.count) ≡ u.count = length_extended u.count (drop u.position (bits_of source)) in
            let i = unit.inside in
            s.holds m l ∙ ap Some (merged_bits old u.first m (field_bits source u.position u.count) (omega (arith, i, n, many)) (omega (arith, l, n)) ∙ h ∙ ap (λ v. bit v m) e) ∙ sym (s.held m l)

        old_bit : (m : ℕ) → m < 64 → get_or (bits_from old 0 64) m false ≡ bit old m
        old_bit m l = from_at old 0 64 m l ∙ ap (bit old) (omega arith)

        under_field : (k : ℕ) → k < 8 * r.offset + f.bit_offset + done → ((u.count ≡ bit_count f.access) ⊎ (old ≡ before)) → (k < 8 * (r.offset + u.offset)) ⊎ (8 * (r.offset + u.offset) ≤ k) → space_bit c b' k ≡ space_bit c b k
        under_field k l h (inl g) = s.under k g
        under_field k l (inl whole) (inr g) = let there = unit.there in let i = unit.inside in absurd (omega (arith, l, g, whole, there, i))
        under_field k l (inr e) (inr g) =
            let there = unit.there in
            let i = unit.inside in
            let n = narrow f.access in
            let at : 8 * (r.offset + u.offset) + (k - 8 * (r.offset + u.offset)) ≡ k = omega (arith, g) in
            let m = k - 8 * (r.offset + u.offset) in
            let before_it : m < u.first = omega (arith, l, g, there) in
            ap (space_bit c b') (sym at)
            ∙ same_bit m (omega (arith, before_it, i)) e (put_before u.first m (field_bits source u.position u.count) (bits_from old 0 64) before_it (let h = length_from old 0 64 in omega (arith, h, i, n)) ∙ old_bit m (omega (arith, before_it, i, n)))
            ∙ ap (space_bit c b) at

        over_field : (k : ℕ) → 8 * r.offset + f.bit_offset + done + u.count ≤ k → ((u.count ≡ bit_count f.access) ⊎ (old ≡ before)) → (k < 8 * (r.offset + u.offset) + bit_count f.access) ⊎ (8 * (r.offset + u.offset) + bit_count f.access ≤ k) → space_bit c b' k ≡ space_bit c b k
        over_field k l h (inr g) = s.over k g
        over_field k l (inl whole) (inl g) = let there = unit.there in let i = unit.inside in absurd (omega (arith, l, g, whole, there, i))
        over_field k l (inr e) (inl g) =
            let there = unit.there in
            let i = unit.inside in
            let n = narrow f.access in
            let many : length (field_bits source u.position u.count) ≡ u.count = length_extended u.count (drop u.position (bits_of source)) in
            let at : 8 * (r.offset + u.offset) + (k - 8 * (r.offset + u.offset)) ≡ k = omega (arith, l, there) in
            let m = k - 8 * (r.offset + u.offset) in
            let behind : u.first + length (field_bits source u.position u.count) ≤ m = omega (arith, l, there, many) in
            ap (space_bit c b') (sym at)
            ∙ same_bit m (omega (arith, l, g, there)) e (put_behind u.first m (field_bits source u.position u.count) (bits_from old 0 64) behind (let h = length_from old 0 64 in omega (arith, h, i, n, many)) ∙ old_bit m (omega (arith, l, g, there, n)))
            ∙ ap (space_bit c b) at

  -- one unit is written
  pub unit_wrote : (u : Access) (done : ℕ) (b b' : Bytes) → IsUnit f.bit_offset f.access done u → Small c b → write_unit byte_accesses r f source u b ≡ (Ok tt, b') → Wrote c (8 * r.offset + f.bit_offset) done u.count source b b'
  unfolding write_unit settle
  unit_wrote u done b b' unit small e =
      let at = steps _ _ b tt b' e in
      let here : at.middle ≡ b = sym (ap (λ x. x.1) at.first) in
      let p : at.value ≡ c.place (r.offset + u.offset) = place_is c r of f.access u.offset at.value (ap (λ x. x.0) at.first) in
      let held = steps _ _ at.middle tt b' at.second in
      let k = kept_is c r of f u at.value held.value at.middle held.middle rule held.first in
      let wrote = replaced_by c r of at.value f.access _ held.middle b' held.second in
      let same : held.middle ≡ b = k.0 ∙ here in
      let read : number_on b (c.place (r.offset + u.offset)) 0 (bytes_wide f.access) ≡ Some wrote.before = ap (λ q. number_on b q 0 (bytes_wide f.access)) (sym p) ∙ ap (λ s. number_on s at.value 0 (bytes_wide f.access)) (sym same) ∙ wrote.read in
      let value = merged (rest_of_unit f.update f.access held.value) u.first (field_bits source u.position u.count) in
      let plain : value ≡ merged held.value u.first (field_bits source u.position u.count) = ap (λ x. merged (rest_of_unit x f.access held.value) u.first (field_bits source u.position u.count)) rule in
      let after : b' ≡ written_on b (c.place (r.offset + u.offset)) 0 (bytes_wide f.access) (merged held.value u.first (field_bits source u.position u.count)) =
      wrote.after ∙ ap (λ s. written_on s at.value 0 (bytes_wide f.access) value) same ∙ ap (λ q. written_on b q 0 (bytes_wide f.access) value) p ∙ ap (written_on b (c.place (r.offset + u.offset)) 0 (bytes_wide f.access)) plain in
      let how : (u.count ≡ bit_count f.access) ⊎ (held.value ≡ wrote.before) = by_kept at.value at.middle held.value wrote.before k.1 (λ n. let g : ◌≡◌ {A = Option ℕ} (Some held.value) (Some wrote.before) = sym n ∙ ap (λ s. number_on s at.value 0 (bytes_wide f.access)) (sym k.0) ∙ wrote.read in cc g) in
      by_swap u done held.value wrote.before b b' unit how (subst (Swapped c (r.offset + u.offset) f.access (merged held.value u.first (field_bits source u.position u.count)) wrote.before b) (sym after) (swapped c (r.offset + u.offset) f.access (merged held.value u.first (field_bits source u.position u.count)) wrote.before b small read)) where
        by_kept : (p : Place) (s : Bytes) (old before : ℕ) → (u.count ≡ bit_count f.access) ⊎ (number_on s p 0 (bytes_wide f.access) ≡ Some old) → (number_on s p 0 (bytes_wide f.access) ≡ Some old → old ≡ before) → (u.count ≡ bit_count f.access) ⊎ (old ≡ before)
        by_kept p s old before (inl whole) h = inl whole
        by_kept p s old before (inr n) h = inr (h n)

  -- all units from one on are written
  pub units_wrote : (us : List Access) (done : ℕ) (b b' : Bytes) → Cover f.bit_offset f.bits f.access done us → Small c b → write_units (write_unit byte_accesses r f source) us b ≡ (Ok tt, b') → Wrote c (8 * r.offset + f.bit_offset) done (f.bits - done) source b b'
  unfolding write_units give
  units_wrote [] done b b' cover small e =
      let same : b' ≡ b = sym (ap (λ x. x.1) e) in
      let none : f.bits - done ≡ 0 = omega (arith, cover) in
      record {
        inside = λ i l. absurd (omega (arith, l, none));
        below = λ k l. ap (λ s. space_bit c s k) same;
        above = λ k l. ap (λ s. space_bit c s k) same;
        present = λ m. ap (λ s. is_some (c.get s m)) same;
        others = ap c.others same;
        small = subst (Small c) (sym same) small;
      }
  units_wrote (u ∷ us) done b b' cover small e =
      let two = steps _ _ b tt b' e in
      let first = unit_wrote u done b two.middle cover.0 small two.first in
      let others = units_wrote us (done + u.count) two.middle b' cover.2 first.small two.second in
      let fits = cover.1 in
      record {
        inside = λ i l. by_place i l (cases_lt i u.count) first others fits;
        below = λ k l. others.below k (omega (arith, l)) ∙ first.below k l;
        above = λ k l. others.above k (omega (arith, l, fits)) ∙ first.above k (omega (arith, l, fits));
        present = λ m. others.present m ∙ first.present m;
        others = others.others ∙ first.others;
        small = others.small;
      } where
        by_place : {s : Bytes} (i : ℕ) → i < f.bits - done → (i < u.count) ⊎ (u.count ≤ i) → Wrote c (8 * r.offset + f.bit_offset) done u.count source b s → Wrote c (8 * r.offset + f.bit_offset) (done + u.count) (f.bits - (done + u.count)) source s b' → done + u.count ≤ f.bits
            → space_bit c b' (8 * r.offset + f.bit_offset + done + i) ≡ Some (get_or (bits_of source) (done + i) false)
        by_place i l (inl m) first others fits = others.below (8 * r.offset + f.bit_offset + done + i) (omega (arith, m)) ∙ first.inside i m
        by_place i l (inr m) first others fits =
            let there : 8 * r.offset + f.bit_offset + done + i ≡ 8 * r.offset + f.bit_offset + (done + u.count) + (i - u.count) = omega (arith, m) in
            let bit : done + u.count + (i - u.count) ≡ done + i = omega (arith, m) in
            ap (space_bit c b') there ∙ others.inside (i - u.count) (omega (arith, l, m)) ∙ ap (λ k. Some (get_or (bits_of source) k false)) bit
