-- Field units are read and written alike, whatever terms do where more than 33 frames stand.
use Rattle.std.specs.Prelude.{◌≡◌, ℕ, ◌==◌, List, [], ◌∷◌, Bool, true, false, Option, Some, None, Ok, refl, if◌then◌else◌}
use Rattle.std.proofs.Common.{ap}
use Rattle.ar_space.specs.Accesses.{Accesses, bit_count}
use Rattle.ar_space.specs.declared.space.Width.{Width}
use Rattle.ar_space.specs.Change.{give}
use Rattle.aml_path.specs.declared.segment.Seg.{Seg}
use Rattle.aml_objects.specs.declared.value.Value.{Value}
use Rattle.aml_objects.specs.declared.entry.Field.{Field}
use Rattle.aml_objects.specs.declared.entry.Field.TheVariants as field
use Rattle.aml_objects.specs.declared.entry.FieldUnit.{FieldUnit}
use Rattle.aml_objects.specs.declared.entry.FieldSource.{FieldSource}
use Rattle.aml_objects.specs.declared.entry.FieldSource.TheVariants as sources
use Rattle.aml_objects.specs.declared.entry.UpdateRule.{UpdateRule}
use Rattle.aml_objects.specs.declared.entry.UpdateRule.TheVariants.{Preserve, WriteAsOnes, WriteAsZeros}
use Rattle.aml_fields.specs.declared.region.Region.{Region}
use Rattle.aml_fields.specs.declared.field_units.Unit.{Unit as Access}
use Rattle.aml_fields.specs.Units.{units_of}
use Rattle.aml_fields.specs.UnitByUnit.{read_units, bits_read, write_units, kept_by, kept}
use Rattle.aml_world.specs.declared.fields.regions.RegionSpace.{RegionSpace}
use Rattle.aml_world.specs.declared.fields.regions.RegionSpace.TheVariants as kinds
use Rattle.aml_world.specs.declared.fields.regions.RegionField.{RegionField}
use Rattle.aml_world.specs.state.State.{State}
use Rattle.aml_world.specs.fields.PciFunctions.{pci_function}
use Rattle.aml_world.specs.fields.Bridges.{bridges_above}
use Rattle.aml_world.specs.state.Run.{Run}
use Rattle.aml_world.specs.fields.Fields.{part_in, inherited, bus_behind, bus_behind_all, pci_address, space_at, located, region_bits, region_written, index_unit, index_unit_written, index_bits, index_written, bank_selected, bank_unit, bank_unit_written, bank_bits, bank_written, field_unit_bits, field_unit_written, bits_in, written_in, field_value, field_integer, field_part, field_referent, field_stored}
use Rattle.aml_laws.proofs.ObjectKinds.{read_buffer_field_keeps_kinds, write_buffer_field_keeps_kinds}
use Rattle.aml_laws.proofs.ChangesNothing.{pci_function_changes_nothing}
use Rattle.aml_laws.proofs.FieldsPreserve.{nearest_preserves, region_declared_preserves, field_declared_preserves, value_of_bits_preserves, integer_of_bits_preserves, integer_alone_preserves, referent_of_bits_preserves}
use Rattle.aml_laws.proofs.StoreTargetsPreserve.{bytes_in_preserves}
use Rattle.aml_laws.proofs.WorldRelations.{on_objects_preserves}
use Rattle.aml_laws.proofs.InFrames.{InFrames, give_in_frames, stop_in_frames, settle_in_frames, lift_in_frames, still_in_frames, space_in_frames, then_in_frames}

-- ---- unit by unit

module _ {S : Type 0} {depth : ℕ} where
  read_units_in_frames : (read other : Access → Run S ℕ) → ((u : Access) → InFrames depth (read u) (other u)) → (us : List Access) → InFrames depth (read_units read us) (read_units other us)
  unfolding read_units
  read_units_in_frames read other alike [] = give_in_frames _
  read_units_in_frames read other alike (u ∷ us) = then_in_frames _ _ _ _ (alike u) (λ unit. then_in_frames _ _ _ _ (read_units_in_frames read other alike us) (λ bits. give_in_frames _))

  bits_read_in_frames : (read other : Access → Run S ℕ) → ((u : Access) → InFrames depth (read u) (other u)) → (f : FieldUnit) → InFrames depth (bits_read read f) (bits_read other f)
  unfolding bits_read
  bits_read_in_frames read other alike f = then_in_frames _ _ _ _ (read_units_in_frames read other alike (units_of f.bit_offset f.bits f.access)) (λ bits. give_in_frames _)

  write_units_in_frames : (write other : Access → Run S (Unit {0})) → ((u : Access) → InFrames depth (write u) (other u)) → (us : List Access) → InFrames depth (write_units write us) (write_units other us)
  unfolding write_units
  write_units_in_frames write other alike [] = give_in_frames _
  write_units_in_frames write other alike (u ∷ us) = then_in_frames _ _ _ _ (alike u) (λ done. write_units_in_frames write other alike us)

  kept_by_in_frames : (rule : UpdateRule) (whole : Bool) (read other : Run S ℕ) → InFrames depth read other → InFrames depth (λ h. if whole then (Ok 0, h) else kept_by rule read h) (λ h. if whole then (Ok 0, h) else kept_by rule other h)
  unfolding give
  kept_by_in_frames rule true read other alike = give_in_frames _
  kept_by_in_frames Preserve false read other alike = alike
  kept_by_in_frames WriteAsOnes false read other alike = give_in_frames _
  kept_by_in_frames WriteAsZeros false read other alike = give_in_frames _

  kept_in_frames : (f : FieldUnit) (u : Access) (read other : Run S ℕ) → InFrames depth read other → InFrames depth (kept f u read) (kept f u other)
  unfolding kept
  kept_in_frames f u read other alike = kept_by_in_frames f.update (u.count == bit_count f.access) read other alike

-- ---- what finds a function and the bridges above it

pci_function_is_still : {S : Type 0} (scope : List Seg) (w : State S) → (pci_function scope w).1.frames ≡ w.frames
pci_function_is_still {S} scope w = ap (λ (v : State S). v.frames) (pci_function_changes_nothing scope w)

bridges_are_still : {S : Type 0} (p : List Seg) (w : State S) → (bridges_above p w).1.frames ≡ w.frames
unfolding bridges_above
bridges_are_still p w = refl

-- ---- field units

module _ {S : Type 0} {depth : ℕ} (accesses : Accesses S) (call other : List Seg → Run S ℕ) (alike : (p : List Seg) → InFrames depth (call p) (other p)) where
  part_in_in_frames : (s : Seg) (o : Option (List Seg)) → InFrames depth (part_in accesses call s o) (part_in accesses other s o)
  part_in_in_frames s None = give_in_frames _
  part_in_in_frames s (Some p) = alike _

  inherited_in_frames : (s : Seg) (p : List Seg) → InFrames depth (inherited accesses call s p) (inherited accesses other s p)
  unfolding inherited
  inherited_in_frames s p = then_in_frames _ _ _ _ (lift_in_frames accesses _ (nearest_preserves _ p)) (λ o. part_in_in_frames s o)

  bus_behind_in_frames : (seg bus : ℕ) (p : List Seg) → InFrames depth (bus_behind accesses call seg bus p) (bus_behind accesses other seg bus p)
  unfolding bus_behind
  bus_behind_in_frames seg bus p = then_in_frames _ _ _ _ (alike _) (λ address. space_in_frames _)

  bus_behind_all_in_frames : (seg bus : ℕ) (ps : List (List Seg)) → InFrames depth (bus_behind_all accesses call seg bus ps) (bus_behind_all accesses other seg bus ps)
  unfolding bus_behind_all
  bus_behind_all_in_frames seg bus [] = give_in_frames _
  bus_behind_all_in_frames seg bus (p ∷ ps) = then_in_frames _ _ _ _ (bus_behind_in_frames seg bus p) (λ behind. bus_behind_all_in_frames seg behind ps)

  pci_address_in_frames : (scope : List Seg) → InFrames depth (pci_address accesses call scope) (pci_address accesses other scope)
  unfolding pci_address
  pci_address_in_frames scope = then_in_frames _ _ _ _ (still_in_frames _ (pci_function_is_still scope)) (λ p. then_in_frames _ _ _ _ (still_in_frames _ (bridges_are_still p)) (λ bridges. then_in_frames _ _ _ _ (inherited_in_frames _ p) (λ seg. then_in_frames _ _ _ _ (inherited_in_frames _ p) (λ bus. then_in_frames _ _ _ _ (bus_behind_all_in_frames seg bus bridges) (λ behind. then_in_frames _ _ _ _ (alike _) (λ address. settle_in_frames _))))))

  space_at_in_frames : (k : RegionSpace) (scope : List Seg) → InFrames depth (space_at accesses call k scope) (space_at accesses other k scope)
  space_at_in_frames kinds.SystemMemory scope = give_in_frames _
  space_at_in_frames kinds.SystemIo scope = give_in_frames _
  space_at_in_frames kinds.PciConfig scope = pci_address_in_frames scope
  space_at_in_frames kinds.Other scope = stop_in_frames _

  located_in_frames : (k : ℕ) → InFrames depth (located accesses call k) (located accesses other k)
  unfolding located
  located_in_frames k = then_in_frames _ _ _ _ (lift_in_frames accesses _ (region_declared_preserves k)) (λ d. then_in_frames _ _ _ _ (space_at_in_frames _ d.0) (λ space. give_in_frames _))

  region_bits_in_frames : (f : RegionField) → InFrames depth (region_bits accesses call f) (region_bits accesses other f)
  unfolding region_bits
  region_bits_in_frames f = then_in_frames _ _ _ _ (located_in_frames f.region) (λ r. space_in_frames _)

  region_written_in_frames : (f : RegionField) (bytes : List ℕ) → InFrames depth (region_written accesses call f bytes) (region_written accesses other f bytes)
  unfolding region_written
  region_written_in_frames f bytes = then_in_frames _ _ _ _ (located_in_frames f.region) (λ r. space_in_frames _)

  index_unit_in_frames : (index behind : RegionField) (w : Width) (u : Access) → InFrames depth (index_unit accesses call index behind w u) (index_unit accesses other index behind w u)
  unfolding index_unit
  index_unit_in_frames index behind w u = then_in_frames _ _ _ _ (region_written_in_frames index _) (λ chosen. then_in_frames _ _ _ _ (region_bits_in_frames behind) (λ bytes. give_in_frames _))

  index_unit_written_in_frames : (index behind : RegionField) (f : FieldUnit) (bytes : List ℕ) (u : Access) → InFrames depth (index_unit_written accesses call index behind f bytes u) (index_unit_written accesses other index behind f bytes u)
  unfolding index_unit_written
  index_unit_written_in_frames index behind f bytes u =
      then_in_frames _ _ _ _ (kept_in_frames f u _ _ (index_unit_in_frames index behind f.access u)) (λ old. then_in_frames _ _ _ _ (region_written_in_frames index _) (λ chosen. region_written_in_frames behind _))

  bank_selected_in_frames : (bank : RegionField) (value : ℕ) → InFrames depth (bank_selected accesses call bank value) (bank_selected accesses other bank value)
  unfolding bank_selected
  bank_selected_in_frames bank value = then_in_frames _ _ _ _ (settle_in_frames _) (λ held. region_written_in_frames bank _)

  bank_unit_in_frames : (bank : RegionField) (value : ℕ) (r : Region) (w : Width) (u : Access) → InFrames depth (bank_unit accesses call bank value r w u) (bank_unit accesses other bank value r w u)
  unfolding bank_unit
  bank_unit_in_frames bank value r w u = then_in_frames _ _ _ _ (bank_selected_in_frames bank value) (λ selected. space_in_frames _)

  bank_unit_written_in_frames : (bank : RegionField) (value : ℕ) (r : Region) (f : FieldUnit) (bytes : List ℕ) (u : Access) → InFrames depth (bank_unit_written accesses call bank value r f bytes u) (bank_unit_written accesses other bank value r f bytes u)
  unfolding bank_unit_written
  bank_unit_written_in_frames bank value r f bytes u =
      then_in_frames _ _ _ _ (kept_in_frames f u _ _ (bank_unit_in_frames bank value r f.access u)) (λ old. then_in_frames _ _ _ _ (bank_selected_in_frames bank value) (λ selected. space_in_frames _))

  field_unit_bits_in_frames : (source : FieldSource) (f : FieldUnit) → InFrames depth (field_unit_bits accesses call source f) (field_unit_bits accesses other source f)
  unfolding index_bits bank_bits
  field_unit_bits_in_frames (sources.Region k) f = region_bits_in_frames _
  field_unit_bits_in_frames (sources.Index i d) f = then_in_frames _ _ _ _ (lift_in_frames accesses _ (field_declared_preserves i)) (λ index. then_in_frames _ _ _ _ (lift_in_frames accesses _ (field_declared_preserves d)) (λ behind. bits_read_in_frames _ _ (index_unit_in_frames index behind f.access) f))
  field_unit_bits_in_frames (sources.Bank k b) f = then_in_frames _ _ _ _ (lift_in_frames accesses _ (field_declared_preserves b.field)) (λ bank. then_in_frames _ _ _ _ (located_in_frames k) (λ r. bits_read_in_frames _ _ (bank_unit_in_frames bank b.value r f.access) f))

  field_unit_written_in_frames : (source : FieldSource) (f : FieldUnit) (bytes : List ℕ) → InFrames depth (field_unit_written accesses call source f bytes) (field_unit_written accesses other source f bytes)
  unfolding index_written bank_written
  field_unit_written_in_frames (sources.Region k) f bytes = region_written_in_frames _ bytes
  field_unit_written_in_frames (sources.Index i d) f bytes = then_in_frames _ _ _ _ (lift_in_frames accesses _ (field_declared_preserves i)) (λ index. then_in_frames _ _ _ _ (lift_in_frames accesses _ (field_declared_preserves d)) (λ behind. write_units_in_frames _ _ (index_unit_written_in_frames index behind f bytes) (units_of f.bit_offset f.bits f.access)))
  field_unit_written_in_frames (sources.Bank k b) f bytes = then_in_frames _ _ _ _ (lift_in_frames accesses _ (field_declared_preserves b.field)) (λ bank. then_in_frames _ _ _ _ (located_in_frames k) (λ r. write_units_in_frames _ _ (bank_unit_written_in_frames bank b.value r f bytes) (units_of f.bit_offset f.bits f.access)))

  bits_in_in_frames : (f : Field) → InFrames depth (bits_in accesses call f) (bits_in accesses other f)
  bits_in_in_frames (field.Unit u) = field_unit_bits_in_frames u.source u
  bits_in_in_frames (field.Buffer b) = lift_in_frames accesses _ (on_objects_preserves _ (read_buffer_field_keeps_kinds b))

  written_in_in_frames : (f : Field) (bytes : List ℕ) → InFrames depth (written_in accesses call f bytes) (written_in accesses other f bytes)
  written_in_in_frames (field.Unit u) bytes = field_unit_written_in_frames u.source u bytes
  written_in_in_frames (field.Buffer b) bytes = lift_in_frames accesses _ (on_objects_preserves _ (write_buffer_field_keeps_kinds b bytes))

  pub field_value_in_frames : (f : Field) → InFrames depth (field_value accesses call f) (field_value accesses other f)
  unfolding field_value
  field_value_in_frames f = then_in_frames _ _ _ _ (bits_in_in_frames f) (λ bytes. lift_in_frames accesses _ (value_of_bits_preserves _ bytes))

  pub field_stored_in_frames : (f : Field) (v : Value) → InFrames depth (field_stored accesses call f v) (field_stored accesses other f v)
  unfolding field_stored
  field_stored_in_frames f v = then_in_frames _ _ _ _ (lift_in_frames accesses _ (bytes_in_preserves v)) (λ bytes. written_in_in_frames f bytes)

  pub field_integer_in_frames : (f : Field) → InFrames depth (field_integer accesses call f) (field_integer accesses other f)
  unfolding field_integer
  field_integer_in_frames f = then_in_frames _ _ _ _ (bits_in_in_frames f) (λ bytes. lift_in_frames accesses _ (integer_of_bits_preserves bytes))

  pub field_referent_in_frames : (f : Field) → InFrames depth (field_referent accesses call f) (field_referent accesses other f)
  unfolding field_referent
  field_referent_in_frames f = then_in_frames _ _ _ _ (bits_in_in_frames f) (λ bytes. lift_in_frames accesses _ (referent_of_bits_preserves _ bytes))

  pub field_part_in_frames : (f : Field) → InFrames depth (field_part accesses call f) (field_part accesses other f)
  unfolding field_part
  field_part_in_frames f = then_in_frames _ _ _ _ (bits_in_in_frames f) (λ bytes. lift_in_frames accesses _ (integer_alone_preserves _ bytes))
