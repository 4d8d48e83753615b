-- Fields, read and written unit by unit, and what that makes of register spaces.
use Rattle.std.specs.Prelude.{ℕ, ◌==◌, List, [], ◌∷◌, Result, refl}
use Rattle.std.proofs.Common.{inl, inr, ap}
use Rattle.std.specs.Prelude.{◌≡◌, ◌⊎◌}
use Rattle.ar_space.specs.declared.refusal.SpaceFault.{SpaceFault}
use Rattle.ar_space.specs.declared.space.Width.{Width}
use Rattle.ar_space.specs.declared.space.Place.{Place}
use Rattle.ar_space.specs.Accesses.{Accesses, bit_count}
use Rattle.ar_space.specs.Change.{Change}
use Rattle.aml_objects.specs.declared.entry.FieldUnit.{FieldUnit}
use Rattle.aml_objects.specs.declared.entry.UpdateRule.{UpdateRule}
use Rattle.aml_objects.specs.declared.entry.UpdateRule.TheVariants.{Preserve, WriteAsOnes, WriteAsZeros}
use Rattle.aml_fields.specs.declared.region.Region.{Region}
use Rattle.aml_fields.specs.declared.field_units.Unit.{Unit as Access}
use Rattle.aml_fields.specs.Units.{units_of}
use Rattle.aml_fields.specs.UnitByUnit.{read_units, bits_read, write_units, kept_by, kept}
use Rattle.aml_fields.specs.Regions.{faulted, read_access, read_unit, read_field, write_access, write_unit, write_field, write_whole}
use Rattle.aml_laws.proofs.Together.{Sides, Shape, spaces, Together, Comes, plain, give_together, settle_together, then_together, either_together}

module _ {S T X Y : Type 0} {accesses : Accesses S} {accesses2 : Accesses T} {side : Sides accesses accesses2} {shape : Shape S T X Y} where
  read_units_together : {read : Access → Change X ℕ} {read2 : Access → Change Y ℕ} → ((u : Access) → Together side shape (read u) (read2 u)) → (us : List Access) → Together side shape (read_units read us) (read_units read2 us)
  unfolding read_units
  read_units_together each [] = give_together _
  read_units_together each (u ∷ us) = then_together (each u) (λ unit. then_together (read_units_together each us) (λ bits. give_together _))

  pub bits_read_together : {read : Access → Change X ℕ} {read2 : Access → Change Y ℕ} → ((u : Access) → Together side shape (read u) (read2 u)) → (f : FieldUnit) → Together side shape (bits_read read f) (bits_read read2 f)
  unfolding bits_read
  bits_read_together each f = then_together (read_units_together each (units_of f.bit_offset f.bits f.access)) (λ bits. give_together _)

  pub write_units_together : {write : Access → Change X (Unit {0})} {write2 : Access → Change Y (Unit {0})} → ((u : Access) → Together side shape (write u) (write2 u)) → (us : List Access) → Together side shape (write_units write us) (write_units write2 us)
  unfolding write_units
  write_units_together each [] = give_together _
  write_units_together each (u ∷ us) = then_together (each u) (λ done. write_units_together each us)

  kept_by_together : {read : Change X ℕ} {read2 : Change Y ℕ} (rule : UpdateRule) → Together side shape read read2 → Together side shape (kept_by rule read) (kept_by rule read2)
  kept_by_together Preserve h = record { left_parted = h.left_parted; right_parted = h.right_parted; goes = h.goes }
  kept_by_together WriteAsOnes h = plain (λ x. refl) (λ y. refl) (λ x t. refl)
  kept_by_together WriteAsZeros h = plain (λ x. refl) (λ y. refl) (λ x t. refl)

  pub kept_together : {read : Change X ℕ} {read2 : Change Y ℕ} (f : FieldUnit) (u : Access) → Together side shape read read2 → Together side shape (kept f u read) (kept f u read2)
  unfolding kept
  kept_together f u h = either_together (u.count == bit_count f.access) (plain (λ x. refl) (λ y. refl) (λ x t. refl)) (kept_by_together f.update h)

-- ---- accesses

answered_goes : {S T A : Type 0} {accesses : Accesses S} {accesses2 : Accesses T} (side : Sides accesses accesses2) (p : Result A SpaceFault × S) (q : Result A SpaceFault × T) → side.beside.Parted p.1 q.1 ⊎ ((q.0 ≡ p.0) × side.beside.InStep p.1 q.1) → Comes side spaces (faulted p.0, p.1) (faulted q.0, q.1)
answered_goes side p q (inl parted) = inl parted
answered_goes side p q (inr (same, i)) = inr (inr (q.1, ap (λ r. (faulted r, q.1)) same, i))

module _ {S T : Type 0} {accesses : Accesses S} {accesses2 : Accesses T} {side : Sides accesses accesses2} where
  read_access_together : (p : Place) (width : Width) → Together side spaces (read_access accesses p width) (read_access accesses2 p width)
  unfolding read_access
  read_access_together p width = record {
    left_parted = λ s t h. side.beside.left_reads s t p width h;
    right_parted = λ s t h. side.beside.right_reads s t p width h;
    goes = λ s t i. answered_goes side (accesses.reads s p width) (accesses2.reads t p width) (side.beside.reads s t p width i);
  }

  write_access_together : (p : Place) (width : Width) (value : ℕ) → Together side spaces (write_access accesses p width value) (write_access accesses2 p width value)
  unfolding write_access
  write_access_together p width value = record {
    left_parted = λ s t h. side.beside.left_writes s t p width value h;
    right_parted = λ s t h. side.beside.right_writes s t p width value h;
    goes = λ s t i. answered_goes side (accesses.writes s p width value) (accesses2.writes t p width value) (side.beside.writes s t p width value i);
  }

  pub read_unit_together : (r : Region) (width : Width) (u : Access) → Together side spaces (read_unit accesses r width u) (read_unit accesses2 r width u)
  unfolding read_unit
  read_unit_together r width u = then_together (settle_together _) (λ p. read_access_together p width)

  pub write_whole_together : (r : Region) (width : Width) (offset value : ℕ) → Together side spaces (write_whole accesses r width offset value) (write_whole accesses2 r width offset value)
  unfolding write_whole
  write_whole_together r width offset value = then_together (settle_together _) (λ p. write_access_together p width value)

  write_unit_together : (r : Region) (f : FieldUnit) (source : List ℕ) (u : Access) → Together side spaces (write_unit accesses r f source u) (write_unit accesses2 r f source u)
  unfolding write_unit
  write_unit_together r f source u = then_together (settle_together _) (λ p. then_together (kept_together f u (read_access_together p f.access)) (λ old. write_access_together p f.access _))

  pub read_field_together : (r : Region) (f : FieldUnit) → Together side spaces (read_field accesses r f) (read_field accesses2 r f)
  read_field_together r f = bits_read_together (read_unit_together r f.access) f

  pub write_field_together : (r : Region) (f : FieldUnit) (source : List ℕ) → Together side spaces (write_field accesses r f source) (write_field accesses2 r f source)
  write_field_together r f source = write_units_together (write_unit_together r f source) (units_of f.bit_offset f.bits f.access)
