-- Fields in a bank, whatever field selects it: unit by unit, and where they are refused.
use Rattle.std.specs.Prelude.{◌≡◌, ℕ, ◌<◌, ◌≤◌, ◌^◌, ◌==◌, nat_lt, Bool, true, false, List, [], ◌∷◌, Ok, Err, refl, if◌then◌else◌}
use Rattle.std.proofs.Common.{arith, ap, ◌∙◌}
use Rattle.std.proofs.lemmas.Bool.{lt-ltb, le-ltb}
use Rattle.ar_space.specs.declared.refusal.FieldFault.TheVariants.{RegionLimit}
use Rattle.ar_space.specs.declared.refusal.Refusal.{Refusal}
use Rattle.ar_space.specs.declared.refusal.Refusal.TheVariants as refusal
use Rattle.ar_space.specs.declared.space.Width.{Width}
use Rattle.ar_space.specs.Accesses.{Accesses, bit_count}
use Rattle.ar_space.specs.Outcome.{Outcome}
use Rattle.ar_space.specs.Change.{Change, settle, go_on, ◌>>=◌}
use Rattle.aml_path.specs.declared.segment.Seg.{Seg}
use Rattle.aml_objects.specs.declared.entry.Bank.{Bank}
use Rattle.aml_objects.specs.declared.entry.FieldUnit.{FieldUnit}
use Rattle.aml_objects.specs.declared.entry.UpdateRule.{UpdateRule}
use Rattle.aml_objects.specs.declared.entry.UpdateRule.TheVariants.{Preserve, WriteAsOnes, WriteAsZeros}
use Rattle.aml_fields.specs.declared.region.Region.{Region}
use Rattle.aml_fields.specs.declared.field_units.Unit.{Unit as Access}
use Rattle.aml_fields.specs.Covering.{Cover}
use Rattle.aml_fields.specs.Units.{units_of}
use Rattle.aml_fields.specs.UnitByUnit.{kept_by, kept, read_units, bits_read, write_units}
use Rattle.aml_fields.specs.Regions.{read_unit, write_field, write_whole}
use Rattle.aml_fields.proofs.Covers.{units_cover}
use Rattle.aml_world.specs.declared.fields.regions.RegionField.{RegionField}
use Rattle.aml_world.specs.fields.Regions.{bank_held, field_declared}
use Rattle.aml_world.specs.values.StoreTargets.{declaration}
use Rattle.aml_world.specs.state.State.{State, on_space}
use Rattle.aml_world.specs.state.Run.{Run, lift}
use Rattle.aml_world.specs.fields.Fields.{unit_bytes, located, region_written, bank_selected, bank_unit, bank_unit_written, bank_bits, bank_written}
use Rattle.aml_laws.specs.BankFields.{IsFieldUnit, eight_bytes, read_in_its_bank, written_in_its_bank}
use Rattle.aml_laws.specs.PlainRegions.{IsPlainRegion}
use Rattle.aml_laws.proofs.BankedFields.{kept_over}
use Rattle.aml_laws.proofs.IndexedFields.{Over, with_space, then_over, space_over, bits_read_over, write_units_over, located_over, located_is, unit_found}

-- ---- a bank field is written

held : (b : Bool) (e : Refusal) → b ≡ true → ◌≡◌ {A = Outcome (Unit {0})} (if b then Ok tt else Err e) (Ok tt)
held true e is = refl
held false e is = absurd (cc is)

not_held : (b : Bool) (e : Refusal) → b ≡ false → ◌≡◌ {A = Outcome (Unit {0})} (if b then Ok tt else Err e) (Err e)
not_held true e is = absurd (cc is)
not_held false e is = refl

pub value_held : (bank : RegionField) (value : ℕ) → value < 2 ^ bank.unit.bits → bank_held bank value ≡ Ok tt
value_held bank value fits = held (nat_lt value (2 ^ bank.unit.bits)) _ (lt-ltb value (2 ^ bank.unit.bits) fits)

value_not_held : (bank : RegionField) (value : ℕ) → 2 ^ bank.unit.bits ≤ value → bank_held bank value ≡ Err (refusal.Field RegionLimit)
value_not_held bank value large = not_held (nat_lt value (2 ^ bank.unit.bits)) _ (le-ltb value (2 ^ bank.unit.bits) large)

module _ {S : Type 0} (w : State S) (steps : ℕ) (accesses : Accesses S) (call : List Seg → Run S ℕ) (bank : RegionField) (value : ℕ) (at : Region) (plain : IsPlainRegion w bank.region at) (fits : value < 2 ^ bank.unit.bits) where
  selected_over : Over w steps (bank_selected accesses call bank value) (write_field accesses at bank.unit (eight_bytes value))
  unfolding bank_selected region_written settle ◌>>=◌ go_on
  selected_over = record {
    over_is = λ s.
        ap (λ o. (settle o >>= (λ held. region_written accesses call bank (unit_bytes value))) (with_space w steps s)) (value_held bank value fits)
        ∙ (located_over w steps accesses call bank.region at _ _ plain (space_over w steps _ (write_field accesses at bank.unit (eight_bytes value)) (λ s. refl))).over_is s;
  }

  pub selected_by_write : bank_selected accesses call bank value (w, steps) ≡ lift (on_space (write_field accesses at bank.unit (eight_bytes value))) (w, steps)
  unfolding lift on_space
  selected_by_write = selected_over.over_is w.space

  module _ (region : Region) where
    unit_read_over : (width : Width) (u : Access) → Over w steps (bank_unit accesses call bank value region width u) (read_in_its_bank accesses at bank.unit value region width u)
    unfolding bank_unit read_in_its_bank
    unit_read_over width u = then_over w steps _ _ _ _ selected_over (λ selected. space_over w steps _ (read_unit accesses region width u) (λ s. refl))

    unit_written_over : (f : FieldUnit) (bytes : List ℕ) (u : Access) → Over w steps (bank_unit_written accesses call bank value region f bytes u) (written_in_its_bank accesses at bank.unit value region f bytes u)
    unfolding bank_unit_written written_in_its_bank
    unit_written_over f bytes u =
        then_over w steps _ _ _ _ (kept_over w steps f u _ _ (unit_read_over f.access u))
        (λ old. then_over w steps _ _ _ _ selected_over (λ selected. space_over w steps _ (write_whole accesses region f.access u.offset _) (λ s. refl)))

-- ---- a field in its bank

module _ {S : Type 0} (w : State S) (steps : ℕ) (accesses : Accesses S) (call : List Seg → Run S ℕ) (n : ℕ) (b : Bank) (bank : RegionField) (is : IsFieldUnit w b.field bank) where
  declared_over : {A : Type 0} (m : RegionField → Run S A) (k : Change S A) → Over w steps (m bank) k → Over w steps (lift (field_declared b.field) >>= m) k
  unfolding field_declared declaration lift settle ◌>>=◌ go_on
  declared_over m k h = let found = unit_found is.entry.1.object bank is.declared is.source in record { over_is = λ s. rw (is.stands, found) (h.over_is s) }

  module _ (at region : Region) (lies : IsPlainRegion w bank.region at) (plain : IsPlainRegion w n region) (fits : b.value < 2 ^ bank.unit.bits) where
    pub read_in_any_bank : (f : FieldUnit) → bank_bits accesses call n b f (w, steps) ≡ lift (on_space (bits_read (read_in_its_bank accesses at bank.unit b.value region f.access) f)) (w, steps)
    unfolding bank_bits lift on_space
    read_in_any_bank f = (declared_over _ _ (located_over w steps accesses call n region _ _ plain (bits_read_over w steps _ _ (unit_read_over w steps accesses call bank b.value at lies fits region f.access) f))).over_is w.space

    pub written_in_any_bank : (f : FieldUnit) (bytes : List ℕ) → bank_written accesses call n b f bytes (w, steps) ≡ lift (on_space (write_units (written_in_its_bank accesses at bank.unit b.value region f bytes) (units_of f.bit_offset f.bits f.access))) (w, steps)
    unfolding bank_written lift on_space
    written_in_any_bank f bytes = (declared_over _ _ (located_over w steps accesses call n region _ _ plain (write_units_over w steps _ _ (unit_written_over w steps accesses call bank b.value at lies fits region f bytes) (units_of f.bit_offset f.bits f.access)))).over_is w.space

-- ---- the first unit is refused

record Nonempty (us : List Access) : Type 0 where
  first : Access
  others : List Access
  are : us ≡ first ∷ others

cover_nonempty : (o n : ℕ) (w : Width) (us : List Access) → 0 < n → Cover o n w 0 us → Nonempty us
cover_nonempty o n w [] some all = absurd (omega (arith, some, all))
cover_nonempty o n w (u ∷ us) some all = record { first = u; others = us; are = refl }

some_unit : (f : FieldUnit) → 0 < f.bits → Nonempty (units_of f.bit_offset f.bits f.access)
some_unit f some = cover_nonempty f.bit_offset f.bits f.access _ some (units_cover f.bit_offset f.bits f.access)

module _ {H : Type 0} (h : H) (e : Refusal) where
  read_refused : (read : Access → Change H ℕ) → ((u : Access) → read u h ≡ (Err e, h)) → (f : FieldUnit) → 0 < f.bits → bits_read read f h ≡ (Err e, h)
  unfolding bits_read read_units ◌>>=◌ go_on
  read_refused read all f some = let u = some_unit f some in let first = all u.first in rw (u.are, first) refl

  write_refused : (write : Access → Change H (Unit {0})) → ((u : Access) → write u h ≡ (Err e, h)) → (f : FieldUnit) → 0 < f.bits → write_units write (units_of f.bit_offset f.bits f.access) h ≡ (Err e, h)
  unfolding write_units ◌>>=◌ go_on
  write_refused write all f some = let u = some_unit f some in let first = all u.first in rw (u.are, first) refl

module _ {S : Type 0} (accesses : Accesses S) (call : List Seg → Run S ℕ) (bank : RegionField) (value : ℕ) (large : 2 ^ bank.unit.bits ≤ value) (s : State S × ℕ) where
  selected_refused : bank_selected accesses call bank value s ≡ (Err (refusal.Field RegionLimit), s)
  unfolding bank_selected settle ◌>>=◌ go_on
  selected_refused = rw (value_not_held bank value large) refl

  unit_refused : (region : Region) (width : Width) (u : Access) → bank_unit accesses call bank value region width u s ≡ (Err (refusal.Field RegionLimit), s)
  unfolding bank_unit ◌>>=◌ go_on
  unit_refused region width u = rw selected_refused refl

  kept_refused : (rule : UpdateRule) (whole : Bool) (read : Run S ℕ) (k : ℕ → Run S (Unit {0})) → read s ≡ (Err (refusal.Field RegionLimit), s) → ((old : ℕ) → k old s ≡ (Err (refusal.Field RegionLimit), s))
      → go_on (if whole then (Ok 0, s) else kept_by rule read s).0 (if whole then (Ok 0, s) else kept_by rule read s).1 k ≡ (Err (refusal.Field RegionLimit), s)
  unfolding go_on
  kept_refused rule true read k fails all = all 0
  kept_refused Preserve false read k fails all = ap (λ (x : Outcome ℕ × (State S × ℕ)). go_on x.0 x.1 k) fails
  kept_refused WriteAsOnes false read k fails all = all 0
  kept_refused WriteAsZeros false read k fails all = all 0

  unit_write_refused : (region : Region) (f : FieldUnit) (bytes : List ℕ) (u : Access) → bank_unit_written accesses call bank value region f bytes u s ≡ (Err (refusal.Field RegionLimit), s)
  unfolding bank_unit_written kept ◌>>=◌ go_on
  unit_write_refused region f bytes u = kept_refused f.update (u.count == bit_count f.access) _ _ (unit_refused region f.access u) (λ old. rw selected_refused refl)

module _ {S : Type 0} (accesses : Accesses S) (call : List Seg → Run S ℕ) (n : ℕ) (b : Bank) (bank : RegionField) (s : State S × ℕ) (is : IsFieldUnit s.0 b.field bank) where
  -- once the bank field is found
  pub read_where : (f : FieldUnit) (region : Outcome Region) (after : State S × ℕ) → located accesses call n s ≡ (region, after) → bank_bits accesses call n b f s ≡ go_on region after (λ r. bits_read (bank_unit accesses call bank b.value r f.access) f)
  unfolding bank_bits field_declared declaration lift settle ◌>>=◌ go_on
  read_where f region after there = rw (is.stands, is.declared, is.source, there) refl

  pub written_where : (f : FieldUnit) (bytes : List ℕ) (region : Outcome Region) (after : State S × ℕ) → located accesses call n s ≡ (region, after)
      → bank_written accesses call n b f bytes s ≡ go_on region after (λ r. write_units (bank_unit_written accesses call bank b.value r f bytes) (units_of f.bit_offset f.bits f.access))
  unfolding bank_written field_declared declaration lift settle ◌>>=◌ go_on
  written_where f bytes region after there = rw (is.stands, is.declared, is.source, there) refl

  -- the region isn't located
  pub nowhere_read : (after : State S × ℕ) (e : Refusal) → located accesses call n s ≡ (Err e, after) → (f : FieldUnit) → bank_bits accesses call n b f s ≡ (Err e, after)
  unfolding go_on
  nowhere_read after e nowhere f = read_where f (Err e) after nowhere

  pub nowhere_written : (after : State S × ℕ) (e : Refusal) → located accesses call n s ≡ (Err e, after) → (f : FieldUnit) (bytes : List ℕ) → bank_written accesses call n b f bytes s ≡ (Err e, after)
  unfolding go_on
  nowhere_written after e nowhere f bytes = written_where f bytes (Err e) after nowhere

  -- the bank field doesn't hold the value
  module _ (after : State S × ℕ) (region : Region) (there : located accesses call n s ≡ (Ok region, after)) (large : 2 ^ bank.unit.bits ≤ b.value) (f : FieldUnit) (some : 0 < f.bits) where
    pub large_read : bank_bits accesses call n b f s ≡ (Err (refusal.Field RegionLimit), after)
    unfolding go_on
    large_read = read_where f (Ok region) after there ∙ read_refused after _ _ (λ u. unit_refused accesses call bank b.value large after region f.access u) f some

    pub large_written : (bytes : List ℕ) → bank_written accesses call n b f bytes s ≡ (Err (refusal.Field RegionLimit), after)
    unfolding go_on
    large_written bytes = written_where f bytes (Ok region) after there ∙ write_refused after _ _ (λ u. unit_write_refused accesses call bank b.value large after region f bytes u) f some

-- in a region of SystemMemory or SystemIO
module _ {S : Type 0} (w : State S) (steps : ℕ) (accesses : Accesses S) (call : List Seg → Run S ℕ) (n : ℕ) (b : Bank) (bank : RegionField) (region : Region) (is : IsFieldUnit w b.field bank) (plain : IsPlainRegion w n region) (large : 2 ^ bank.unit.bits ≤ b.value) (f : FieldUnit) (some : 0 < f.bits) where
  pub too_large_read : bank_bits accesses call n b f (w, steps) ≡ (Err (refusal.Field RegionLimit), (w, steps))
  too_large_read = large_read accesses call n b bank (w, steps) is (w, steps) region (located_is accesses call w steps n region plain) large f some

  pub too_large_written : (bytes : List ℕ) → bank_written accesses call n b f bytes (w, steps) ≡ (Err (refusal.Field RegionLimit), (w, steps))
  too_large_written bytes = large_written accesses call n b bank (w, steps) is (w, steps) region (located_is accesses call w steps n region plain) large f some bytes

pub ruleset a_bank_is_selected_by_a_write_of_its_field = (selected_by_write, read_in_any_bank, written_in_any_bank)
