-- Fields in a bank, and behind an index field and a data field, wherever the regions of these lie.
use Rattle.std.specs.Prelude.{◌≡◌, ◌<◌, ◌^◌, ℕ, List, Ok, refl}
use Rattle.std.proofs.Common.{ap, sym, subst, ◌∙◌}
use Rattle.std.proofs.Math.Nat.{mod-eq_of_lt}
use Rattle.ar_space.specs.declared.space.Width.{Width}
use Rattle.ar_space.specs.Accesses.{Accesses, bit_count}
use Rattle.ar_space.specs.Change.{give, settle, go_on, ◌>>=◌}
use Rattle.aml_path.specs.declared.segment.Seg.{Seg}
use Rattle.aml_objects.specs.declared.entry.Bank.{Bank}
use Rattle.aml_objects.specs.declared.entry.Field.TheVariants as fields
use Rattle.aml_objects.specs.declared.entry.FieldSource.TheVariants as sources
use Rattle.aml_objects.specs.declared.entry.FieldUnit.{FieldUnit}
use Rattle.aml_objects.specs.declared.entry.UpdateRule.TheVariants.{WriteAsZeros}
use Rattle.aml_fields.specs.declared.region.Region.{Region}
use Rattle.aml_fields.specs.declared.field_units.Unit.{Unit as Access}
use Rattle.aml_fields.specs.Bits.{bits_from, bits_of, field_bits, merged, number_of, rest_of_unit}
use Rattle.aml_fields.specs.Units.{units_of}
use Rattle.aml_fields.specs.UnitByUnit.{kept, bits_read, write_units}
use Rattle.aml_fields.specs.Regions.{read_unit, write_whole}
use Rattle.aml_fields.proofs.Putting.{length_extended}
use Rattle.aml_fields.proofs.SpaceBits.{number_below, bits_again}
use Rattle.aml_world.specs.declared.fields.regions.RegionField.{RegionField}
use Rattle.aml_world.specs.fields.Regions.{field_declared}
use Rattle.aml_world.specs.values.StoreTargets.{declaration}
use Rattle.aml_world.specs.state.State.{State, on_space}
use Rattle.aml_world.specs.state.Run.{Run, lift}
use Rattle.aml_world.specs.fields.Fields.{unit_bytes, unit_of, bits_in, written_in, located, region_bits, region_written, index_unit, index_unit_written, index_bits, index_written, bank_selected, bank_unit, bank_unit_written, bank_bits, bank_written}
use Rattle.aml_laws.specs.BankFields.{IsFieldUnit}
use Rattle.aml_laws.specs.LocatedFields.{number_written, read_behind_bank_field, written_behind_bank_field, read_behind_index_field, written_behind_index_field}
use Rattle.aml_laws.proofs.BanksSelected.{value_held, read_where, written_where}
use Rattle.aml_laws.proofs.FieldSources.{in_region}
use Rattle.aml_laws.proofs.IndexRegisters.{whole_merged}

-- ---- a field of an operation region

module _ {S : Type 0} (accesses : Accesses S) (call : List Seg → Run S ℕ) (field : RegionField) (source : field.unit.source ≡ sources.Region field.region) where
  bits_are : region_bits accesses call field ≡ bits_in accesses call (fields.Unit field.unit)
  bits_are = sym (in_region accesses call field.unit field.region source).0

  written_are : (bytes : List ℕ) → region_written accesses call field bytes ≡ written_in accesses call (fields.Unit field.unit) bytes
  written_are bytes = sym ((in_region accesses call field.unit field.region source).1 bytes)

-- ---- in a bank

module _ {S : Type 0} (accesses : Accesses S) (call : List Seg → Run S ℕ) (bank : RegionField) (value : ℕ) (source : bank.unit.source ≡ sources.Region bank.region) (fits : value < 2 ^ bank.unit.bits) where
  pub selected_there : (s : State S × ℕ) → bank_selected accesses call bank value s ≡ number_written accesses call bank.unit value s
  unfolding bank_selected settle ◌>>=◌ go_on
  selected_there s = rw (value_held bank value fits) (ap (λ m. m s) (written_are accesses call bank source (unit_bytes value)))

  selected_is : bank_selected accesses call bank value ≡ number_written accesses call bank.unit value
  selected_is = λ i s. selected_there s i

  module _ (region : Region) where
    unit_read_is : (width : Width) (u : Access) → bank_unit accesses call bank value region width u ≡ read_behind_bank_field accesses call bank.unit value region width u
    unfolding bank_unit read_behind_bank_field
    unit_read_is width u = ap (λ (m : Run S (Unit {0})). m >>= (λ selected. lift (on_space (read_unit accesses region width u)))) selected_is

    unit_written_is : (f : FieldUnit) (bytes : List ℕ) (u : Access) → bank_unit_written accesses call bank value region f bytes u ≡ written_behind_bank_field accesses call bank.unit value region f bytes u
    unfolding bank_unit_written written_behind_bank_field
    unit_written_is f bytes u = λ i.
        kept f u (unit_read_is f.access u i) >>= (λ old.
        selected_is i >>= (λ selected.
        lift (on_space (write_whole accesses region f.access u.offset (merged (rest_of_unit f.update f.access old) u.first (field_bits bytes u.position u.count))))))

module _ {S : Type 0} (s after : State S × ℕ) (accesses : Accesses S) (call : List Seg → Run S ℕ) (n : ℕ) (b : Bank) (bank : RegionField) (region : Region) (is : IsFieldUnit s.0 b.field bank) (there : located accesses call n s ≡ (Ok region, after)) (fits : b.value < 2 ^ bank.unit.bits) where
  pub read_there : (f : FieldUnit) → bank_bits accesses call n b f s ≡ bits_read (read_behind_bank_field accesses call bank.unit b.value region f.access) f after
  unfolding go_on
  read_there f =
      read_where accesses call n b bank s is f (Ok region) after there
      ∙ ap (λ (read : Access → Run S ℕ). bits_read read f after) (λ i u. unit_read_is accesses call bank b.value is.source fits region f.access u i)

  pub written_there : (f : FieldUnit) (bytes : List ℕ) → bank_written accesses call n b f bytes s ≡ write_units (written_behind_bank_field accesses call bank.unit b.value region f bytes) (units_of f.bit_offset f.bits f.access) after
  unfolding go_on
  written_there f bytes =
      written_where accesses call n b bank s is f bytes (Ok region) after there
      ∙ ap (λ (write : Access → Run S (Unit {0})). write_units write (units_of f.bit_offset f.bits f.access) after) (λ i u. unit_written_is accesses call bank b.value is.source fits region f bytes u i)

-- ---- behind an index field

-- the lowest bits of bytes are the number of a unit
unit_number : (w : Width) (bytes : List ℕ) → unit_of w bytes ≡ number_of (field_bits bytes 0 (bit_count w))
unit_number w bytes =
    let c = bit_count w in
    let bits = field_bits bytes 0 c in
    let long = length_extended c (bits_of bytes) in
    let again : bits_from (number_of bits) 0 c ≡ bits = ap (λ k. bits_from (number_of bits) 0 k) (sym long) ∙ bits_again bits in
    let below : number_of bits < 2 ^ c = subst (λ k. number_of bits < 2 ^ k) long (number_below bits) in
    ap (merged 0 0) (sym again) ∙ whole_merged WriteAsZeros w (number_of bits) ∙ mod-eq_of_lt below

module _ {S : Type 0} (accesses : Accesses S) (call : List Seg → Run S ℕ) (index behind : RegionField) (source : index.unit.source ≡ sources.Region index.region) (other : behind.unit.source ≡ sources.Region behind.region) where
  unit_chosen_is : (width : Width) (u : Access) → index_unit accesses call index behind width u ≡ read_behind_index_field accesses call index.unit behind.unit width u
  unfolding index_unit read_behind_index_field
  unit_chosen_is width u = λ i.
      written_are accesses call index source (unit_bytes u.offset) i >>= (λ chosen.
      bits_are accesses call behind other i >>= (λ bytes.
      give (unit_number width bytes i)))

  unit_put_is : (f : FieldUnit) (bytes : List ℕ) (u : Access) → index_unit_written accesses call index behind f bytes u ≡ written_behind_index_field accesses call index.unit behind.unit f bytes u
  unfolding index_unit_written written_behind_index_field
  unit_put_is f bytes u = λ i.
      kept f u (unit_chosen_is f.access u i) >>= (λ old.
      written_are accesses call index source (unit_bytes u.offset) i >>= (λ chosen.
      written_are accesses call behind other (unit_bytes (merged (rest_of_unit f.update f.access old) u.first (field_bits bytes u.position u.count))) i))

module _ {S : Type 0} (s : State S × ℕ) (accesses : Accesses S) (call : List Seg → Run S ℕ) (i d : ℕ) (index behind : RegionField) (is : IsFieldUnit s.0 i index) (so : IsFieldUnit s.0 d behind) where
  found_read : (f : FieldUnit) → index_bits accesses call i d f s ≡ bits_read (index_unit accesses call index behind f.access) f s
  unfolding index_bits field_declared declaration lift settle ◌>>=◌ go_on
  found_read f = rw (is.stands, is.declared, is.source, so.stands, so.declared, so.source) refl

  found_written : (f : FieldUnit) (bytes : List ℕ) → index_written accesses call i d f bytes s ≡ write_units (index_unit_written accesses call index behind f bytes) (units_of f.bit_offset f.bits f.access) s
  unfolding index_written field_declared declaration lift settle ◌>>=◌ go_on
  found_written f bytes = rw (is.stands, is.declared, is.source, so.stands, so.declared, so.source) refl

  pub chosen_read : (f : FieldUnit) → index_bits accesses call i d f s ≡ bits_read (read_behind_index_field accesses call index.unit behind.unit f.access) f s
  chosen_read f =
      found_read f
      ∙ ap (λ (read : Access → Run S ℕ). bits_read read f s) (λ j u. unit_chosen_is accesses call index behind is.source so.source f.access u j)

  pub chosen_written : (f : FieldUnit) (bytes : List ℕ) → index_written accesses call i d f bytes s ≡ write_units (written_behind_index_field accesses call index.unit behind.unit f bytes) (units_of f.bit_offset f.bits f.access) s
  chosen_written f bytes =
      found_written f bytes
      ∙ ap (λ (write : Access → Run S (Unit {0})). write_units write (units_of f.bit_offset f.bits f.access) s) (λ j u. unit_put_is accesses call index behind is.source so.source f bytes u j)
