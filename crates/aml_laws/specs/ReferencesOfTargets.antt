-- References to what targets name, and which of them a conditional reference gives (ACPI 6.5, 19.6: CondRefOf, RefOf).
use Rattle.std.specs.Prelude.{◌≡◌, ◌≢◌, ℕ, suc, List, length, slice_get, Some}
use Rattle.std.specs.FinMap.{get}
use Rattle.aml_path.specs.declared.segment.Seg.{Seg}
use Rattle.aml_path.specs.Paths.{Name}
use Rattle.aml_objects.specs.declared.entry.Entry.{Entry}
use Rattle.aml_objects.specs.declared.value.Reference.{Reference}
use Rattle.aml_objects.specs.declared.value.Reference.TheVariants as reference
use Rattle.aml_objects.specs.declared.value.Slot.{Slot}
use Rattle.aml_objects.specs.declared.value.Value.{Value}
use Rattle.aml_objects.specs.declared.value.Value.TheVariants as value
use Rattle.aml_world.specs.declared.state.frame.Frame.{Frame}
use Rattle.aml_world.specs.declared.values.store_target.StoreTarget.{StoreTarget}
use Rattle.aml_world.specs.declared.values.store_target.StoreTarget.TheVariants as targets
use Rattle.aml_world.specs.state.State.{State}
use Rattle.aml_laws.specs.Dereferenced.{Holds}
use Rattle.aml_laws.specs.NamesInPackages.{HoldsName}

-- the reference to what a target names: to the declaration at a path, to a slot of the control method that runs, or the
-- reference that the target is
pub data RefersTo {S : Type 0} (w : State S) : StoreTarget → Reference → Type 0 where
  a_declaration : (path : List Seg) (e : Entry) → get w.names.map path ≡ Some e → RefersTo w (targets.Name path) (reference.Name e.number)
  a_slot : (s : Slot) (last : ℕ) (f : Frame) → length w.frames ≡ suc last → slice_get w.frames last ≡ Some f → RefersTo w (targets.Slot s) (reference.Slot s f.number)
  a_referent : (r : Reference) → RefersTo w (targets.Refers r) r

-- what a conditional reference refers to: a slot or an element that holds a value, an element that is a name, whatever
-- this finds, any declaration, and any byte
pub data IsReferable {S : Type 0} (w : State S) : Reference → Type 0 where
  with_value : (r : Reference) (v : Value) → Holds w r v → v ≢ value.Uninitialized → IsReferable w r
  a_named_element : (o i : ℕ) (n : Name) (home : List Seg) → HoldsName w o i n home → IsReferable w (reference.Element o i)
  any_name : (n : ℕ) → IsReferable w (reference.Name n)
  any_byte : (o i : ℕ) → IsReferable w (reference.Byte o i)
