-- Field units whose addresses are asked for by calls that agree are read and written alike.
use Rattle.std.specs.Prelude.{ℕ, ◌==◌, List, [], ◌∷◌, Bool, true, false, Option, Some, None, Ok, if◌then◌else◌}
use Rattle.ar_space.specs.Accesses.{Accesses, bit_count}
use Rattle.ar_space.specs.declared.space.Width.{Width}
use Rattle.ar_space.specs.Change.{give}
use Rattle.aml_path.specs.declared.segment.Seg.{Seg}
use Rattle.aml_objects.specs.declared.value.Value.{Value}
use Rattle.aml_objects.specs.declared.entry.Field.{Field}
use Rattle.aml_objects.specs.declared.entry.Field.TheVariants as field
use Rattle.aml_objects.specs.declared.entry.FieldUnit.{FieldUnit}
use Rattle.aml_objects.specs.declared.entry.FieldSource.{FieldSource}
use Rattle.aml_objects.specs.declared.entry.FieldSource.TheVariants as sources
use Rattle.aml_objects.specs.declared.entry.UpdateRule.{UpdateRule}
use Rattle.aml_objects.specs.declared.entry.UpdateRule.TheVariants.{Preserve, WriteAsOnes, WriteAsZeros}
use Rattle.aml_fields.specs.declared.region.Region.{Region}
use Rattle.aml_fields.specs.declared.field_units.Unit.{Unit as Access}
use Rattle.aml_fields.specs.Units.{units_of}
use Rattle.aml_fields.specs.UnitByUnit.{read_units, bits_read, write_units, kept_by, kept}
use Rattle.aml_world.specs.declared.fields.regions.RegionSpace.{RegionSpace}
use Rattle.aml_world.specs.declared.fields.regions.RegionSpace.TheVariants as kinds
use Rattle.aml_world.specs.declared.fields.regions.RegionField.{RegionField}
use Rattle.aml_world.specs.state.Run.{Run}
use Rattle.aml_world.specs.fields.Fields.{part_in, inherited, bus_behind, bus_behind_all, pci_address, space_at, located, region_bits, region_written, index_unit, index_unit_written, index_bits, index_written, bank_selected, bank_unit, bank_unit_written, bank_bits, bank_written, field_unit_bits, field_unit_written, bits_in, written_in, field_value, field_integer, field_part, field_referent, field_stored}
use Rattle.aml_meaning.proofs.Agree.{Agree, agree_give, agree_stop, agree_settle, agree_lift, agree_bind}

-- ---- unit by unit

module _ {S : Type 0} {n : ℕ} where
  agree_units : (read other : Access → Run S ℕ) → ((u : Access) → Agree n (read u) (other u)) → (us : List Access) → Agree n (read_units read us) (read_units other us)
  unfolding read_units
  agree_units read other alike [] = agree_give _
  agree_units read other alike (u ∷ us) = agree_bind _ _ _ _ (alike u) (λ unit. agree_bind _ _ _ _ (agree_units read other alike us) (λ bits. agree_give _))

  agree_bits : (read other : Access → Run S ℕ) → ((u : Access) → Agree n (read u) (other u)) → (f : FieldUnit) → Agree n (bits_read read f) (bits_read other f)
  unfolding bits_read
  agree_bits read other alike f = agree_bind _ _ _ _ (agree_units read other alike (units_of f.bit_offset f.bits f.access)) (λ bits. agree_give _)

  agree_writes : (write other : Access → Run S (Unit {0})) → ((u : Access) → Agree n (write u) (other u)) → (us : List Access) → Agree n (write_units write us) (write_units other us)
  unfolding write_units
  agree_writes write other alike [] = agree_give _
  agree_writes write other alike (u ∷ us) = agree_bind _ _ _ _ (alike u) (λ done. agree_writes write other alike us)

  agree_kept_by : (rule : UpdateRule) (whole : Bool) (read other : Run S ℕ) → Agree n read other → Agree n (λ h. if whole then (Ok 0, h) else kept_by rule read h) (λ h. if whole then (Ok 0, h) else kept_by rule other h)
  unfolding give
  agree_kept_by rule true read other alike = agree_give _
  agree_kept_by Preserve false read other alike = alike
  agree_kept_by WriteAsOnes false read other alike = agree_give _
  agree_kept_by WriteAsZeros false read other alike = agree_give _

  agree_kept : (f : FieldUnit) (u : Access) (read other : Run S ℕ) → Agree n read other → Agree n (kept f u read) (kept f u other)
  unfolding kept
  agree_kept f u read other alike = agree_kept_by f.update (u.count == bit_count f.access) read other alike

-- ---- field units

module _ {S : Type 0} {n : ℕ} (accesses : Accesses S) (call other : List Seg → Run S ℕ) (alike : (p : List Seg) → Agree n (call p) (other p)) where
  agree_part_in : (s : Seg) (o : Option (List Seg)) → Agree n (part_in accesses call s o) (part_in accesses other s o)
  agree_part_in s None = agree_give _
  agree_part_in s (Some p) = alike _

  agree_inherited : (s : Seg) (p : List Seg) → Agree n (inherited accesses call s p) (inherited accesses other s p)
  unfolding inherited
  agree_inherited s p = agree_bind _ _ _ _ (agree_lift _) (λ o. agree_part_in s o)

  agree_bus_behind : (seg bus : ℕ) (p : List Seg) → Agree n (bus_behind accesses call seg bus p) (bus_behind accesses other seg bus p)
  unfolding bus_behind
  agree_bus_behind seg bus p = agree_bind _ _ _ _ (alike _) (λ address. agree_lift _)

  agree_buses : (seg bus : ℕ) (ps : List (List Seg)) → Agree n (bus_behind_all accesses call seg bus ps) (bus_behind_all accesses other seg bus ps)
  unfolding bus_behind_all
  agree_buses seg bus [] = agree_give _
  agree_buses seg bus (p ∷ ps) = agree_bind _ _ _ _ (agree_bus_behind seg bus p) (λ behind. agree_buses seg behind ps)

  agree_pci : (scope : List Seg) → Agree n (pci_address accesses call scope) (pci_address accesses other scope)
  unfolding pci_address
  agree_pci scope = agree_bind _ _ _ _ (agree_lift _) (λ p. agree_bind _ _ _ _ (agree_lift _) (λ bridges. agree_bind _ _ _ _ (agree_inherited _ p) (λ seg. agree_bind _ _ _ _ (agree_inherited _ p) (λ bus. agree_bind _ _ _ _ (agree_buses seg bus bridges) (λ behind. agree_bind _ _ _ _ (alike _) (λ address. agree_settle _))))))

  agree_space : (k : RegionSpace) (scope : List Seg) → Agree n (space_at accesses call k scope) (space_at accesses other k scope)
  agree_space kinds.SystemMemory scope = agree_give _
  agree_space kinds.SystemIo scope = agree_give _
  agree_space kinds.PciConfig scope = agree_pci scope
  agree_space kinds.Other scope = agree_stop _

  agree_located : (k : ℕ) → Agree n (located accesses call k) (located accesses other k)
  unfolding located
  agree_located k = agree_bind _ _ _ _ (agree_lift _) (λ d. agree_bind _ _ _ _ (agree_space _ d.0) (λ space. agree_give _))

  agree_region_bits : (f : RegionField) → Agree n (region_bits accesses call f) (region_bits accesses other f)
  unfolding region_bits
  agree_region_bits f = agree_bind _ _ _ _ (agree_located f.region) (λ r. agree_lift _)

  agree_region_written : (f : RegionField) (bytes : List ℕ) → Agree n (region_written accesses call f bytes) (region_written accesses other f bytes)
  unfolding region_written
  agree_region_written f bytes = agree_bind _ _ _ _ (agree_located f.region) (λ r. agree_lift _)

  agree_index_unit : (index behind : RegionField) (w : Width) (u : Access) → Agree n (index_unit accesses call index behind w u) (index_unit accesses other index behind w u)
  unfolding index_unit
  agree_index_unit index behind w u = agree_bind _ _ _ _ (agree_region_written index _) (λ chosen. agree_bind _ _ _ _ (agree_region_bits behind) (λ bytes. agree_give _))

  agree_index_written : (index behind : RegionField) (f : FieldUnit) (bytes : List ℕ) (u : Access) → Agree n (index_unit_written accesses call index behind f bytes u) (index_unit_written accesses other index behind f bytes u)
  unfolding index_unit_written
  agree_index_written index behind f bytes u =
      agree_bind _ _ _ _ (agree_kept f u _ _ (agree_index_unit index behind f.access u)) (λ old. agree_bind _ _ _ _ (agree_region_written index _) (λ chosen. agree_region_written behind _))

  agree_selected : (bank : RegionField) (value : ℕ) → Agree n (bank_selected accesses call bank value) (bank_selected accesses other bank value)
  unfolding bank_selected
  agree_selected bank value = agree_bind _ _ _ _ (agree_settle _) (λ held. agree_region_written bank _)

  agree_bank_unit : (bank : RegionField) (value : ℕ) (r : Region) (w : Width) (u : Access) → Agree n (bank_unit accesses call bank value r w u) (bank_unit accesses other bank value r w u)
  unfolding bank_unit
  agree_bank_unit bank value r w u = agree_bind _ _ _ _ (agree_selected bank value) (λ selected. agree_lift _)

  agree_bank_written : (bank : RegionField) (value : ℕ) (r : Region) (f : FieldUnit) (bytes : List ℕ) (u : Access) → Agree n (bank_unit_written accesses call bank value r f bytes u) (bank_unit_written accesses other bank value r f bytes u)
  unfolding bank_unit_written
  agree_bank_written bank value r f bytes u =
      agree_bind _ _ _ _ (agree_kept f u _ _ (agree_bank_unit bank value r f.access u)) (λ old. agree_bind _ _ _ _ (agree_selected bank value) (λ selected. agree_lift _))

  agree_unit_bits : (source : FieldSource) (f : FieldUnit) → Agree n (field_unit_bits accesses call source f) (field_unit_bits accesses other source f)
  unfolding index_bits bank_bits
  agree_unit_bits (sources.Region k) f = agree_region_bits _
  agree_unit_bits (sources.Index i d) f = agree_bind _ _ _ _ (agree_lift _) (λ index. agree_bind _ _ _ _ (agree_lift _) (λ behind. agree_bits _ _ (agree_index_unit index behind f.access) f))
  agree_unit_bits (sources.Bank k b) f = agree_bind _ _ _ _ (agree_lift _) (λ bank. agree_bind _ _ _ _ (agree_located k) (λ r. agree_bits _ _ (agree_bank_unit bank b.value r f.access) f))

  agree_unit_written : (source : FieldSource) (f : FieldUnit) (bytes : List ℕ) → Agree n (field_unit_written accesses call source f bytes) (field_unit_written accesses other source f bytes)
  unfolding index_written bank_written
  agree_unit_written (sources.Region k) f bytes = agree_region_written _ bytes
  agree_unit_written (sources.Index i d) f bytes = agree_bind _ _ _ _ (agree_lift _) (λ index. agree_bind _ _ _ _ (agree_lift _) (λ behind. agree_writes _ _ (agree_index_written index behind f bytes) (units_of f.bit_offset f.bits f.access)))
  agree_unit_written (sources.Bank k b) f bytes = agree_bind _ _ _ _ (agree_lift _) (λ bank. agree_bind _ _ _ _ (agree_located k) (λ r. agree_writes _ _ (agree_bank_written bank b.value r f bytes) (units_of f.bit_offset f.bits f.access)))

  agree_bits_in : (f : Field) → Agree n (bits_in accesses call f) (bits_in accesses other f)
  agree_bits_in (field.Unit u) = agree_unit_bits u.source u
  agree_bits_in (field.Buffer b) = agree_lift _

  agree_written_in : (f : Field) (bytes : List ℕ) → Agree n (written_in accesses call f bytes) (written_in accesses other f bytes)
  agree_written_in (field.Unit u) bytes = agree_unit_written u.source u bytes
  agree_written_in (field.Buffer b) bytes = agree_lift _

  pub agree_field_value : (f : Field) → Agree n (field_value accesses call f) (field_value accesses other f)
  unfolding field_value
  agree_field_value f = agree_bind _ _ _ _ (agree_bits_in f) (λ bytes. agree_lift _)

  pub agree_field_stored : (f : Field) (v : Value) → Agree n (field_stored accesses call f v) (field_stored accesses other f v)
  unfolding field_stored
  agree_field_stored f v = agree_bind _ _ _ _ (agree_lift _) (λ bytes. agree_written_in f bytes)

  pub agree_field_integer : (f : Field) → Agree n (field_integer accesses call f) (field_integer accesses other f)
  unfolding field_integer
  agree_field_integer f = agree_bind _ _ _ _ (agree_bits_in f) (λ bytes. agree_lift _)

  pub agree_field_referent : (f : Field) → Agree n (field_referent accesses call f) (field_referent accesses other f)
  unfolding field_referent
  agree_field_referent f = agree_bind _ _ _ _ (agree_bits_in f) (λ bytes. agree_lift _)

  pub agree_field_part : (f : Field) → Agree n (field_part accesses call f) (field_part accesses other f)
  unfolding field_part
  agree_field_part f = agree_bind _ _ _ _ (agree_bits_in f) (λ bytes. agree_lift _)
