-- Fields of which a part is gone: their operation region, or their index, data or bank field (ACPI 6.5, 19.6: Field, IndexField, BankField).
use Rattle.std.specs.Prelude.{◌≡◌, ℕ, List, Some, Err}
use Rattle.std.specs.FinMap.{get}
use Rattle.ar_space.specs.declared.refusal.EvaluationFault.TheVariants.{DeadReference}
use Rattle.ar_space.specs.declared.refusal.Refusal.TheVariants as refusal
use Rattle.ar_space.specs.Accesses.{Accesses}
use Rattle.aml_path.specs.declared.segment.Seg.{Seg}
use Rattle.aml_objects.specs.declared.entry.Field.TheVariants as field
use Rattle.aml_objects.specs.declared.entry.FieldSource.TheVariants as sources
use Rattle.aml_objects.specs.declared.entry.FieldUnit.{FieldUnit}
use Rattle.aml_objects.specs.declared.entry.NamedObject.TheVariants as object
use Rattle.aml_objects.specs.declared.entry.OperationRegion.{OperationRegion}
use Rattle.aml_world.specs.state.State.{State}
use Rattle.aml_world.specs.state.Run.{Run}
use Rattle.aml_world.specs.fields.Fields.{bits_in, written_in}
use Rattle.aml_laws.specs.Histories.{numbered_entry, RegionAt}

-- no operation region that stands has this number
abbrev pub RegionGone : {S : Type 0} → State S → ℕ → Type 0
RegionGone w n = (path : List Seg) (region : OperationRegion) → RegionAt w.names.map path n region → ⊥

-- no field of an operation region that stands has this number
abbrev pub FieldGone : {S : Type 0} → State S → ℕ → Type 0
FieldGone w n = (path : List Seg) (unit : FieldUnit) (region : ℕ) → get w.names.map path ≡ Some (numbered_entry n (object.FieldUnit unit)) → unit.source ≡ sources.Region region → ⊥

-- a field is refused as dead, read or written; nothing is accessed, and the world and the steps are as they were
pub record IsDead {S : Type 0} (accesses : Accesses S) (call : List Seg → Run S ℕ) (f : FieldUnit) (s : State S × ℕ) : Type 0 where
  pub unread : bits_in accesses call (field.Unit f) s ≡ (Err (refusal.Evaluation DeadReference), s)
  pub unwritten : (bytes : List ℕ) → written_in accesses call (field.Unit f) bytes s ≡ (Err (refusal.Evaluation DeadReference), s)
