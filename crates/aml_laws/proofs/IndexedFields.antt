-- The units of a field behind an index register and a data register are read and written one after another.
use Rattle.std.specs.Prelude.{◌≡◌, ◌≢◌, ℕ, ◌/◌, ◌%◌, ◌^◌, ◌==◌, Bool, true, false, List, [], ◌∷◌, Ok, Err, refl, if◌then◌else◌}
use Rattle.std.proofs.Common.{arith, ap, sym, subst, ◌∙◌}
use Rattle.ar_space.specs.declared.space.Width.{Width}
use Rattle.ar_space.specs.Accesses.{Accesses, bit_count}
use Rattle.ar_space.specs.Outcome.{Outcome}
use Rattle.ar_space.specs.Change.{Change, give, settle, go_on, ◌>>=◌}
use Rattle.aml_path.specs.declared.segment.Seg.{Seg}
use Rattle.aml_objects.specs.declared.entry.FieldSource.TheVariants as sources
use Rattle.aml_objects.specs.declared.entry.FieldUnit.{FieldUnit}
use Rattle.aml_objects.specs.declared.entry.NamedObject.{NamedObject}
use Rattle.aml_objects.specs.declared.entry.NamedObject.TheVariants as object
use Rattle.aml_objects.specs.declared.entry.UpdateRule.{UpdateRule}
use Rattle.aml_objects.specs.declared.entry.UpdateRule.TheVariants.{Preserve, WriteAsOnes, WriteAsZeros}
use Rattle.aml_fields.specs.declared.region.Region.{Region}
use Rattle.aml_fields.specs.declared.field_units.Unit.{Unit as Access}
use Rattle.aml_fields.specs.Bits.{field_bits, merged, rest_of_unit}
use Rattle.aml_fields.specs.Units.{units_of}
use Rattle.aml_fields.specs.UnitByUnit.{kept_by, kept, read_units, bits_read, write_units}
use Rattle.aml_fields.specs.Regions.{unit_place, read_access, write_access}
use Rattle.aml_fields.proofs.OneUnit.{single_unit}
use Rattle.aml_world.specs.declared.fields.regions.RegionField.{RegionField}
use Rattle.aml_world.specs.fields.Regions.{region_declared, region_field, field_of_object, field_declared}
use Rattle.aml_world.specs.values.StoreTargets.{declaration}
use Rattle.aml_world.specs.state.State.{State, on_space}
use Rattle.aml_world.specs.state.Run.{Run, lift}
use Rattle.aml_world.specs.fields.Fields.{unit_bytes, unit_of, located, region_bits, region_written, index_unit, index_unit_written, index_bits, index_written}
use Rattle.aml_laws.specs.IndexRegisters.{Register, IsRegister, chosen_and_read, chosen_and_written, kept_and_written}
use Rattle.aml_laws.specs.PlainRegions.{IsPlainRegion, in_memory, among_ports}
use Rattle.aml_laws.proofs.IndexRegisters.{IsWhole, register_written, register_read, bits_of_register, read_number, some_bits}

-- ---- a region of SystemMemory or SystemIO

module _ {S : Type 0} (accesses : Accesses S) (call : List Seg → Run S ℕ) where
  pub located_is : (w : State S) (steps n : ℕ) (q : Region) → IsPlainRegion w n q → located accesses call n (w, steps) ≡ (Ok q, (w, steps))
  unfolding located region_declared declaration lift give settle ◌>>=◌ go_on
  located_is w steps n q (in_memory entry r stands is space) = rw (stands, is, space) refl
  located_is w steps n q (among_ports entry r stands is space) = rw (stands, is, space) refl

-- and it is the same with another register space
plain_with : {S : Type 0} (w : State S) (s : S) (n : ℕ) (q : Region) → IsPlainRegion w n q → IsPlainRegion (record w { space = s }) n q
plain_with w s n q (in_memory entry r stands is space) = in_memory entry r stands is space
plain_with w s n q (among_ports entry r stands is space) = among_ports entry r stands is space

-- ---- a field unit of an operation region

pub unit_found : (o : NamedObject) (field : RegionField) → o ≡ object.FieldUnit field.unit → field.unit.source ≡ sources.Region field.region → field_of_object o ≡ Ok field
unit_found o field declared source = ap field_of_object declared ∙ ap (λ x. region_field x field.unit) source

-- ---- evaluations that change the register space alone

module _ {S : Type 0} (w : State S) (steps : ℕ) where
  -- the world and the steps, with this register space
  abbrev pub with_space : S → State S × ℕ
  with_space s = (record w { space = s }, steps)

  abbrev pub over : {A : Type 0} → Outcome A × S → Outcome A × (State S × ℕ)
  over x = (x.0, with_space x.1)

  pub record Over {A : Type 0} (m : Run S A) (k : Change S A) : Type 0 where
    pub over_is : (s : S) → m (with_space s) ≡ over (k s)

  go_over : {A B : Type 0} (r : Outcome A) (s : S) (j : A → Run S B) (l : A → Change S B) → ((a : A) → Over (j a) (l a)) → go_on r (with_space s) j ≡ over (go_on r s l)
  unfolding go_on
  go_over (Ok a) s j l all = (all a).over_is s
  go_over (Err e) s j l all = refl

  pub then_over : {A B : Type 0} (m : Run S A) (k : Change S A) (j : A → Run S B) (l : A → Change S B) → Over m k → ((a : A) → Over (j a) (l a)) → Over (m >>= j) (k >>= l)
  unfolding ◌>>=◌
  then_over {A} m k j l h all = record { over_is = λ s. ap (λ (x : Outcome A × (State S × ℕ)). go_on x.0 x.1 j) (h.over_is s) ∙ go_over (k s).0 (k s).1 j l all }

  give_over : {A : Type 0} (a : A) → Over (give a) (give a)
  unfolding give
  give_over a = record { over_is = λ s. refl }

  pub space_over : {A : Type 0} (k l : Change S A) → ((s : S) → k s ≡ l s) → Over (lift (on_space k)) l
  unfolding lift on_space
  space_over k l same = record { over_is = λ s. ap (λ x. over x) (same s) }

  read_units_over : (m : Access → Run S ℕ) (k : Access → Change S ℕ) → ((u : Access) → Over (m u) (k u)) → (us : List Access) → Over (read_units m us) (read_units k us)
  unfolding read_units
  read_units_over m k each [] = give_over _
  read_units_over m k each (u ∷ us) = then_over _ _ _ _ (each u) (λ unit. then_over _ _ _ _ (read_units_over m k each us) (λ bits. give_over _))

  pub bits_read_over : (m : Access → Run S ℕ) (k : Access → Change S ℕ) → ((u : Access) → Over (m u) (k u)) → (f : FieldUnit) → Over (bits_read m f) (bits_read k f)
  unfolding bits_read
  bits_read_over m k each f = then_over _ _ _ _ (read_units_over m k each (units_of f.bit_offset f.bits f.access)) (λ bits. give_over _)

  pub write_units_over : (m : Access → Run S (Unit {0})) (k : Access → Change S (Unit {0})) → ((u : Access) → Over (m u) (k u)) → (us : List Access) → Over (write_units m us) (write_units k us)
  unfolding write_units
  write_units_over m k each [] = give_over _
  write_units_over m k each (u ∷ us) = then_over _ _ _ _ (each u) (λ done. write_units_over m k each us)

  -- ---- registers

  module _ (accesses : Accesses S) (call : List Seg → Run S ℕ) where
    pub located_over : {A : Type 0} (n : ℕ) (q : Region) (m : Region → Run S A) (k : Change S A) → IsPlainRegion w n q → Over (m q) k → Over (located accesses call n >>= m) k
    unfolding ◌>>=◌ go_on
    located_over n q m k is h = record { over_is = λ s. ap (λ (x : Outcome Region × (State S × ℕ)). go_on x.0 x.1 m) (located_is accesses call (record w { space = s }) steps n q (plain_with w s n q is)) ∙ h.over_is s }

    pub declared_over : {A : Type 0} (n : ℕ) (register : Register) (is : IsRegister w n register) (m : RegionField → Run S A) (k : Change S A) → Over (m is.field) k → Over (lift (field_declared n) >>= m) k
    unfolding field_declared declaration lift settle ◌>>=◌ go_on
    declared_over n register is m k h = let found = unit_found is.entry.1.object is.field is.declared is.source in record { over_is = λ s. rw (is.stands, found) (h.over_is s) }

    whole_register : (n : ℕ) (register : Register) (is : IsRegister w n register) → IsWhole is.region is.field.unit register
    whole_register n register is =
        let u = is.field.unit in
        let c = bit_count register.width in
        let begins = is.begins in
        record {
          width = is.width;
          units =
              ap (λ x. units_of u.bit_offset u.bits x) is.width ∙ ap (λ k. units_of u.bit_offset k register.width) is.whole
              ∙ single_unit register.width u.bit_offset c is.units_before 0 (omega (arith, begins)) (some_bits register.width) (some_bits register.width) (omega arith);
          placed = ap (λ k. unit_place is.region register.width (k / 8)) (omega arith) ∙ is.placed;
        }

    pub chosen_over : (n : ℕ) (register : Register) (is : IsRegister w n register) (number : ℕ) → Over (region_written accesses call is.field (unit_bytes number)) (write_access accesses register.at register.width (number % 2 ^ bit_count register.width))
    unfolding region_written
    chosen_over n register is number = located_over is.field.region is.region _ _ is.plain (space_over _ _ (register_written accesses is.region is.field.unit register (whole_register n register is) number))

    read_over : (n : ℕ) (register : Register) (is : IsRegister w n register) → Over (region_bits accesses call is.field) (read_access accesses register.at register.width >>= (λ v. give (bits_of_register accesses is.region is.field.unit register (whole_register n register is) v)))
    unfolding region_bits
    read_over n register is = located_over is.field.region is.region _ _ is.plain (space_over _ _ (register_read accesses is.region is.field.unit register (whole_register n register is)))

-- ---- the law

-- under the update rules of ones and zeros no unit is read
kept_none : {H : Type 0} (rule : UpdateRule) (read : Change H ℕ) (h : H) → rule ≢ Preserve → kept_by rule read h ≡ (Ok 0, h)
kept_none Preserve read h other = absurd (other refl)
kept_none WriteAsOnes read h other = refl
kept_none WriteAsZeros read h other = refl

either_none : {H : Type 0} (b : Bool) (h : H) (x : Outcome ℕ × H) → x ≡ (Ok 0, h) → (if b then (Ok 0, h) else x) ≡ (Ok 0, h)
either_none true h x e = refl
either_none false h x e = e

given_by_cases : {S A B C : Type 0} (r : Outcome A) (s : S) (g : A → B) (h : B → C) (k : A → C) → ((a : A) → h (g a) ≡ k a) → go_on (go_on r s (λ v. give (g v))).0 (go_on r s (λ v. give (g v))).1 (λ b. give (h b)) ≡ go_on r s (λ v. give (k v))
unfolding go_on give
given_by_cases (Ok a) s g h k same = ap (λ c. (Ok c, s)) (same a)
given_by_cases (Err e) s g h k same = refl

same_over : {S A : Type 0} (w : State S) (steps : ℕ) (m : Run S A) (k l : Change S A) → Over w steps m k → ((s : S) → k s ≡ l s) → Over w steps m l
same_over w steps m k l h same = record { over_is = λ s. h.over_is s ∙ ap (λ x. over w steps x) (same s) }

module _ {S : Type 0} (w : State S) (steps : ℕ) (accesses : Accesses S) (call : List Seg → Run S ℕ) (i d : ℕ) (index behind : Register) (is : IsRegister w i index) (so : IsRegister w d behind) where
  value_read : (s : S) → ((read_access accesses behind.at behind.width >>= (λ v. give (bits_of_register accesses so.region so.field.unit behind (whole_register w steps accesses call d behind so) v))) >>= (λ bytes. give (unit_of behind.width bytes))) s
      ≡ (read_access accesses behind.at behind.width >>= (λ v. give (v % 2 ^ bit_count behind.width))) s
  unfolding ◌>>=◌
  value_read s = given_by_cases (read_access accesses behind.at behind.width s).0 (read_access accesses behind.at behind.width s).1 _ (unit_of behind.width) (λ v. v % 2 ^ bit_count behind.width) (read_number behind.width)

  unit_read_over : (u : Access) → Over w steps (index_unit accesses call is.field so.field behind.width u) (chosen_and_read accesses index behind u)
  unfolding index_unit chosen_and_read
  unit_read_over u =
      then_over w steps _ _ _ _ (chosen_over w steps accesses call i index is u.offset)
      (λ chosen. same_over w steps _ _ _ (then_over w steps _ _ _ _ (read_over w steps accesses call d behind so) (λ bytes. give_over w steps _)) value_read)

  pub read_in_turn : (f : FieldUnit) → f.access ≡ behind.width → index_bits accesses call i d f (w, steps) ≡ lift (on_space (bits_read (chosen_and_read accesses index behind) f)) (w, steps)
  unfolding index_bits lift on_space
  read_in_turn f wide =
      (declared_over w steps accesses call i index is _ _
      (declared_over w steps accesses call d behind so _ _
      (bits_read_over w steps _ _ (λ u. subst (λ x. Over w steps (index_unit accesses call is.field so.field x u) (chosen_and_read accesses index behind u)) (sym wide) (unit_read_over u)) f))).over_is w.space

  unit_written_over : (f : FieldUnit) (bytes : List ℕ) (u : Access) → f.update ≢ Preserve → Over w steps (index_unit_written accesses call is.field so.field f bytes u) (chosen_and_written accesses index behind f bytes u)
  unfolding index_unit_written chosen_and_written kept ◌>>=◌ go_on
  unit_written_over f bytes u other = record {
    over_is = λ s.
        ap (λ (x : Outcome ℕ × (State S × ℕ)). go_on x.0 x.1 (λ old. region_written accesses call is.field (unit_bytes u.offset) >>= (λ chosen. region_written accesses call so.field (unit_bytes (merged (rest_of_unit f.update f.access old) u.first (field_bits bytes u.position u.count))))))
        (either_none (u.count == bit_count f.access) (with_space w steps s) _ (kept_none f.update _ (with_space w steps s) other))
        ∙ (then_over w steps _ _ _ _ (chosen_over w steps accesses call i index is u.offset) (λ chosen. chosen_over w steps accesses call d behind so _)).over_is s;
  }

  pub written_in_turn : (f : FieldUnit) (bytes : List ℕ) → f.update ≢ Preserve → index_written accesses call i d f bytes (w, steps) ≡ lift (on_space (write_units (chosen_and_written accesses index behind f bytes) (units_of f.bit_offset f.bits f.access))) (w, steps)
  unfolding index_written lift on_space
  written_in_turn f bytes other =
      (declared_over w steps accesses call i index is _ _
      (declared_over w steps accesses call d behind so _ _
      (write_units_over w steps _ _ (λ u. unit_written_over f bytes u other) (units_of f.bit_offset f.bits f.access)))).over_is w.space

  -- ---- under Preserve

  kept_by_test : (b : Bool) (m : Run S ℕ) (k : Change S ℕ) → Over w steps m k → Over w steps (λ h. if b then (Ok 0, h) else m h) (λ s. if b then (Ok 0, s) else k s)
  kept_by_test true m k h = record { over_is = λ s. refl }
  kept_by_test false m k h = record { over_is = λ s. h.over_is s }

  kept_over : (rule : UpdateRule) (b : Bool) (m : Run S ℕ) (k : Change S ℕ) → rule ≡ Preserve → Over w steps m k → Over w steps (λ h. if b then (Ok 0, h) else kept_by rule m h) (λ s. if b then (Ok 0, s) else k s)
  kept_over Preserve b m k keeps h = kept_by_test b m k h
  kept_over WriteAsOnes b m k keeps h = absurd (cc keeps)
  kept_over WriteAsZeros b m k keeps h = absurd (cc keeps)

  rest_kept : (rule : UpdateRule) (width : Width) (old : ℕ) → rule ≡ Preserve → rest_of_unit rule width old ≡ old
  rest_kept Preserve width old keeps = refl
  rest_kept WriteAsOnes width old keeps = absurd (cc keeps)
  rest_kept WriteAsZeros width old keeps = absurd (cc keeps)

  unit_merged_over : (f : FieldUnit) (bytes : List ℕ) (u : Access) → f.update ≡ Preserve → f.access ≡ behind.width → Over w steps (index_unit_written accesses call is.field so.field f bytes u) (kept_and_written accesses index behind f bytes u)
  unfolding index_unit_written kept_and_written kept
  unit_merged_over f bytes u keeps wide =
      then_over w steps _ _ _ _
      (kept_over f.update (u.count == bit_count f.access) _ (chosen_and_read accesses index behind u) keeps (subst (λ x. Over w steps (index_unit accesses call is.field so.field x u) (chosen_and_read accesses index behind u)) (sym wide) (unit_read_over u)))
      (λ old. then_over w steps _ _ _ _ (chosen_over w steps accesses call i index is u.offset)
      (λ chosen. subst (λ x. Over w steps (region_written accesses call so.field (unit_bytes (merged (rest_of_unit f.update f.access old) u.first (field_bits bytes u.position u.count)))) (write_access accesses behind.at behind.width (merged x u.first (field_bits bytes u.position u.count) % 2 ^ bit_count behind.width)))
      (rest_kept f.update f.access old keeps)
      (chosen_over w steps accesses call d behind so (merged (rest_of_unit f.update f.access old) u.first (field_bits bytes u.position u.count)))))

  pub kept_in_turn : (f : FieldUnit) (bytes : List ℕ) → f.update ≡ Preserve → f.access ≡ behind.width → index_written accesses call i d f bytes (w, steps) ≡ lift (on_space (write_units (kept_and_written accesses index behind f bytes) (units_of f.bit_offset f.bits f.access))) (w, steps)
  unfolding index_written lift on_space
  kept_in_turn f bytes keeps wide =
      (declared_over w steps accesses call i index is _ _
      (declared_over w steps accesses call d behind so _ _
      (write_units_over w steps _ _ (λ u. unit_merged_over f bytes u keeps wide) (units_of f.bit_offset f.bits f.access)))).over_is w.space

pub ruleset index_fields_are_accessed_unit_by_unit = (read_in_turn, written_in_turn, kept_in_turn)
