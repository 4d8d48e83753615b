-- What a field is read as after it was written.
use Rattle.std.proofs.Common.{◌≡◌, ◌<◌, ℕ, zero, suc, ◌+◌, ◌-◌, ◌*◌, Bool, true, false, List, [], ◌∷◌, ◌++◌, length, drop, get_or, Option, Some, None, Ok, refl, ap, sym, ◌∙◌, subst, arith, get_or-drop, ext_get_or}
use Rattle.std.specs.Option.{is_some}
use Rattle.std.proofs.lemmas.List.{append_assoc, append-nil, drop-drop}
use Rattle.ar_space.specs.declared.space.Width.{Width}
use Rattle.ar_space.specs.Accesses.{byte_count as bytes_wide}
use Rattle.ar_space.specs.Change.{settle, give, go_on, ◌>>=◌}
use Rattle.ar_space.specs.Bytes.{Bytes, number_on, byte_accesses, read_step}
use Rattle.aml_objects.specs.declared.entry.FieldUnit.{FieldUnit}
use Rattle.aml_objects.specs.declared.entry.UpdateRule.TheVariants.{Preserve}
use Rattle.aml_fields.specs.declared.region.Region.{Region}
use Rattle.aml_fields.specs.declared.field_units.Unit.{Unit as Access}
use Rattle.aml_fields.specs.Bits.{bit, bits_from, bits_of, extended, field_bits, packed}
use Rattle.aml_fields.specs.Covering.{IsUnit, Cover}
use Rattle.aml_fields.specs.Units.{units_of}
use Rattle.aml_fields.specs.Regions.{unit_place, read_access, read_unit, read_field, write_unit, write_field}
use Rattle.aml_fields.specs.UnitByUnit.{bits_read, read_units, write_units}
use Rattle.aml_fields.proofs.BitLists.{from_at}
use Rattle.aml_fields.proofs.Putting.{extended_more, extended_none, length_extended}
use Rattle.aml_fields.proofs.Covers.{units_cover}
use Rattle.aml_fields.proofs.Cells.{Cells, Stand, little, read_stand, stand_read}
use Rattle.aml_fields.proofs.SpaceBits.{space_bit, stand_bit, bits_of_little}
use Rattle.aml_fields.proofs.UnitWrites.{steps, IsOf, place_is, kept_is, replaced_by, Small, stand_small, extended_at, narrow, eight}
use Rattle.aml_fields.proofs.FieldWrites.{Wrote, unit_wrote, units_wrote}

extended_append : (a b : ℕ) (xs : List Bool) → extended (a + b) xs ≡ extended a xs ++ extended b (drop a xs)
extended_append a zero xs = let e : a + 0 ≡ a = omega arith in ap (λ n. extended n xs) e ∙ sym (ap (λ l. extended a xs ++ l) (extended_none (drop a xs)) ∙ append-nil (extended a xs))
extended_append a (suc b) xs =
    let e : a + suc b ≡ suc (a + b) = omega arith in
    ap (λ n. extended n xs) e ∙ extended_more (a + b) xs
    ∙ ap (λ l. l ++ get_or xs (a + b) false ∷ []) (extended_append a b xs)
    ∙ append_assoc (extended a xs) (extended b (drop a xs)) (get_or xs (a + b) false ∷ [])
    ∙ ap (λ y. extended a xs ++ (extended b (drop a xs) ++ y ∷ [])) (sym (get_or-drop a xs b false))
    ∙ ap (λ l. extended a xs ++ l) (sym (extended_more b (drop a xs)))

module _ (c : Cells) (r : Region) (of : IsOf c r) (w : Width) where
  -- the bytes of a unit stand, at its place
  pub record Ready (b : Bytes) (u : Access) : Type 0 where
    pub place : unit_place r w u.offset ≡ Ok (c.place (r.offset + u.offset))
    pub bytes : List ℕ
    pub many : length bytes ≡ bytes_wide w
    pub stand : Stand c b (r.offset + u.offset) bytes

  record Standing (b : Bytes) (m count : ℕ) : Type 0 where
    bytes : List ℕ
    many : length bytes ≡ count
    stand : Stand c b m bytes

  still : (b b' : Bytes) (m : ℕ) (xs : List ℕ) → ((k : ℕ) → is_some (c.get b' k) ≡ is_some (c.get b k)) → Stand c b m xs → Standing b' m (length xs)
  still b b' m [] same h = record { bytes = []; many = refl; stand = tt }
  still b b' m (x ∷ xs) same h = by_byte (c.get b' m) refl (same m ∙ ap is_some h.0) (still b b' (m + 1) xs same h.2) where
    by_byte : (o : Option ℕ) → c.get b' m ≡ o → is_some (c.get b' m) ≡ true → Standing b' (m + 1) (length xs) → Standing b' m (suc (length xs))
    by_byte None is e rest = absurd (let g = sym (ap is_some is) ∙ e in cc g)
    by_byte (Some y) is e rest = record { bytes = y ∷ rest.bytes; many = ap suc rest.many; stand = (is, h.1, rest.stand) }

  ready_still : (b b' : Bytes) (u : Access) → ((k : ℕ) → is_some (c.get b' k) ≡ is_some (c.get b k)) → Ready b u → Ready b' u
  ready_still b b' u same h =
      let s = still b b' (r.offset + u.offset) h.bytes same h.stand in
      record { place = h.place; bytes = s.bytes; many = s.many ∙ h.many; stand = s.stand }

  AllReady : Bytes → List Access → Type 0
  AllReady b [] = Unit {0}
  AllReady b (u ∷ us) = Ready b u × AllReady b us

  -- a unit is read as its bytes
  unit_read : (b : Bytes) (u : Access) → (h : Ready b u) → read_unit byte_accesses r w u b ≡ (Ok (little h.bytes), b)
  unfolding read_unit read_access read_step settle ◌>>=◌ go_on
  unit_read b u h =
      let start : r.offset + u.offset + 0 ≡ r.offset + u.offset = omega arith in
      let value : number_on b (c.place (r.offset + u.offset)) 0 (bytes_wide w) ≡ Some (little h.bytes) = ap (number_on b (c.place (r.offset + u.offset)) 0) (sym h.many) ∙ stand_read c b (r.offset + u.offset) 0 h.bytes (subst (λ m. Stand c b m h.bytes) (sym start) h.stand) in
      rw (h.place, value) refl

  -- and its part of the field is what stands there
  part_read : (b : Bytes) (u : Access) (from done : ℕ) (bit_offset : ℕ) (source : List ℕ) → from ≡ 8 * r.offset + bit_offset → (h : Ready b u) → Small c b → IsUnit bit_offset w done u
      → ((i : ℕ) → i < u.count → space_bit c b (from + done + i) ≡ Some (get_or (bits_of source) (done + i) false))
      → extended u.count (drop u.first (bits_from (little h.bytes) 0 64)) ≡ field_bits source done u.count
  part_read b u from done bit_offset source start h small unit bits =
      ext_get_or false _ _ (length_extended u.count _ ∙ sym (length_extended u.count _)) (λ i l. at_bit i (subst (λ k. i < k) (length_extended u.count (drop u.first (bits_from (little h.bytes) 0 64))) l)) where
        at_bit : (i : ℕ) → i < u.count → get_or (extended u.count (drop u.first (bits_from (little h.bytes) 0 64))) i false ≡ get_or (field_bits source done u.count) i false
        at_bit i l =
            let inside = unit.inside in
            let there = unit.there in
            let n = narrow w in
            let wide = eight w in
            let many = h.many in
            let value = little h.bytes in
            let m = u.first + i in
            let place : from + done + i ≡ 8 * (r.offset + u.offset) + m = omega (arith, there, start) in
            let small_xs = stand_small c b (r.offset + u.offset) h.bytes small h.stand in
            let held : space_bit c b (from + done + i) ≡ Some (bit value m) =
            ap (space_bit c b) place ∙ stand_bit c b (r.offset + u.offset) h.bytes m h.stand (omega (arith, l, inside, many, wide))
            ∙ ap Some (ap (λ z. get_or z m false) (sym (bits_of_little h.bytes value small_xs refl)) ∙ from_at value 0 (8 * length h.bytes) m (omega (arith, l, inside, many, wide)) ∙ ap (bit value) (omega arith)) in
            let same : bit value m ≡ get_or (bits_of source) (done + i) false = let g = sym held ∙ bits i l in cc g in
            extended_at u.count (drop u.first (bits_from value 0 64)) i l
            ∙ get_or-drop u.first (bits_from value 0 64) i false
            ∙ from_at value 0 64 m (omega (arith, l, inside, n)) ∙ ap (bit value) (omega arith)
            ∙ same
            ∙ sym (extended_at u.count (drop done (bits_of source)) i l ∙ get_or-drop done (bits_of source) i false)

  -- the units from one on are read as the rest of the field
  units_read : (us : List Access) (b : Bytes) (from done bits bit_offset : ℕ) (source : List ℕ) → from ≡ 8 * r.offset + bit_offset → AllReady b us → Small c b → Cover bit_offset bits w done us
      → ((i : ℕ) → i < bits - done → space_bit c b (from + done + i) ≡ Some (get_or (bits_of source) (done + i) false))
      → read_units (read_unit byte_accesses r w) us b ≡ (Ok (field_bits source done (bits - done)), b)
  unfolding read_units AllReady give ◌>>=◌ go_on
  units_read [] b from done bits bit_offset source start ready small cover h =
      let none : bits - done ≡ 0 = omega (arith, cover) in
      ap (λ l. (Ok l, b)) (sym (ap (λ n. field_bits source done n) none ∙ extended_none (drop done (bits_of source))))
  units_read (u ∷ us) b from done bits bit_offset source start ready small cover h =
      let fits = cover.1 in
      let first = part_read b u from done bit_offset source start ready.0 small cover.0 (λ i l. h i (omega (arith, l, fits))) in
      let others = units_read us b from (done + u.count) bits bit_offset source start ready.1 small cover.2 (λ i l.
      let place : from + (done + u.count) + i ≡ from + done + (u.count + i) = omega arith in
      let bit : done + (u.count + i) ≡ done + u.count + i = omega arith in
      ap (space_bit c b) place ∙ h (u.count + i) (omega (arith, l, fits)) ∙ ap (λ k. Some (get_or (bits_of source) k false)) bit) in
      let all : bits - done ≡ u.count + (bits - (done + u.count)) = omega (arith, fits) in
      rw (unit_read b u ready.0, others) (ap (λ l. (Ok l, b))
      (ap (λ l. l ++ field_bits source (done + u.count) (bits - (done + u.count))) first
      ∙ ap (λ l. field_bits source done u.count ++ extended (bits - (done + u.count)) l) (sym (drop-drop u.count done (bits_of source)))
      ∙ sym (ap (λ n. field_bits source done n) all ∙ extended_append u.count (bits - (done + u.count)) (drop done (bits_of source)))))

module _ (c : Cells) (r : Region) (of : IsOf c r) (f : FieldUnit) (rule : f.update ≡ Preserve) (source : List ℕ) where
  -- a unit that was written can be read
  unit_ready : (u : Access) (b b' : Bytes) → write_unit byte_accesses r f source u b ≡ (Ok tt, b') → Ready c r of f.access b u
  unfolding write_unit settle
  unit_ready u b b' e =
      let at = steps _ _ b tt b' e in
      let here : at.middle ≡ b = sym (ap (λ x. x.1) at.first) in
      let p : at.value ≡ c.place (r.offset + u.offset) = place_is c r of f.access u.offset at.value (ap (λ x. x.0) at.first) in
      let held = steps _ _ at.middle tt b' at.second in
      let k = kept_is c r of f u at.value held.value at.middle held.middle rule held.first in
      let wrote = replaced_by c r of at.value f.access _ held.middle b' held.second in
      let read : number_on b (c.place (r.offset + u.offset)) 0 (bytes_wide f.access) ≡ Some wrote.before = ap (λ q. number_on b q 0 (bytes_wide f.access)) (sym p) ∙ ap (λ s. number_on s at.value 0 (bytes_wide f.access)) (sym (k.0 ∙ here)) ∙ wrote.read in
      let found = read_stand c b (r.offset + u.offset) 0 (bytes_wide f.access) wrote.before read in
      let start : r.offset + u.offset + 0 ≡ r.offset + u.offset = omega arith in
      record { place = ap (λ x. x.0) at.first ∙ ap Ok p; bytes = found.bytes; many = found.many; stand = subst (λ m. Stand c b m found.bytes) start found.stand }

  units_ready : (us : List Access) (done : ℕ) (b b' : Bytes) → Cover f.bit_offset f.bits f.access done us → Small c b → write_units (write_unit byte_accesses r f source) us b ≡ (Ok tt, b') → AllReady c r of f.access b' us
  unfolding write_units AllReady
  units_ready [] done b b' cover small e = tt
  units_ready (u ∷ us) done b b' cover small e =
      let two = steps _ _ b tt b' e in
      let first = unit_wrote c r of f rule source u done b two.middle cover.0 small two.first in
      let others = units_wrote c r of f rule source us (done + u.count) two.middle b' cover.2 first.small two.second in (
        ready_still c r of f.access b b' u (λ k. others.present k ∙ first.present k) (unit_ready u b two.middle two.first),
        units_ready us (done + u.count) two.middle b' cover.2 first.small two.second,
      )

  pub field_wrote : (b b' : Bytes) → Small c b → write_field byte_accesses r f source b ≡ (Ok tt, b') → Wrote c (8 * r.offset + f.bit_offset) 0 f.bits source b b'
  field_wrote b b' small e = let all : f.bits - 0 ≡ f.bits = omega arith in subst (λ n. Wrote c (8 * r.offset + f.bit_offset) 0 n source b b') all (units_wrote c r of f rule source (units_of f.bit_offset f.bits f.access) 0 b b' (units_cover f.bit_offset f.bits f.access) small e)

  pub read_back : (b b' : Bytes) → Small c b → write_field byte_accesses r f source b ≡ (Ok tt, b') → read_field byte_accesses r f b' ≡ (Ok (packed (field_bits source 0 f.bits)), b')
  unfolding bits_read give ◌>>=◌ go_on
  read_back b b' small e =
      let all : f.bits - 0 ≡ f.bits = omega arith in
      let wrote = field_wrote b b' small e in
      let ready = units_ready (units_of f.bit_offset f.bits f.access) 0 b b' (units_cover f.bit_offset f.bits f.access) small e in
      rw (units_read c r of f.access (units_of f.bit_offset f.bits f.access) b' (8 * r.offset + f.bit_offset) 0 f.bits f.bit_offset source refl ready wrote.small (units_cover f.bit_offset f.bits f.access) (λ i l. wrote.inside i (omega (arith, l)))) (ap (λ n. (Ok (packed (field_bits source 0 n)), b')) all)
