-- Names and locals that hold a copy of what was stored (ACPI 6.5, 19.6: CopyObject, Store).
use Rattle.std.specs.Prelude.{◌≡◌, ◌+◌, ◌++◌, ℕ, List, Some, length}
use Rattle.std.specs.FinMap.{get, insert}
use Rattle.aml_path.specs.declared.segment.Seg.{Seg}
use Rattle.aml_objects.specs.Objects.{Objects}
use Rattle.aml_objects.specs.declared.entry.Entry.{Entry}
use Rattle.aml_objects.specs.declared.entry.NamedObject.TheVariants as object
use Rattle.aml_objects.specs.declared.value.Slot.TheVariants.{Local}
use Rattle.aml_objects.specs.declared.value.Value.{Value}
use Rattle.aml_world.specs.state.State.{State}
use Rattle.aml_world.specs.values.Stores.{slot_put}
use Rattle.aml_laws.specs.Copied.{IsCopy}

-- The value at a path is a copy that shares no object with anything that was there before, under the number of the declaration that stood
-- there. Nothing else of the world is another, but that objects stand behind all earlier ones, among them the copy's own.
pub record NameHoldsCopy {S : Type 0} (before after : State S) (path : List Seg) (v : Value) : Type 0 where
  pub copy : Value
  pub is : IsCopy (length before.objects) after.objects v copy
  pub entry : Entry
  pub stands : get after.names.map path ≡ Some entry
  pub holds : entry.object ≡ object.Data copy
  pub earlier : Entry
  pub stood : get before.names.map path ≡ Some earlier
  pub numbered : entry.number ≡ earlier.number
  pub made : Objects
  pub put : after ≡ record before { names = record before.names { map = insert before.names.map path entry }; objects = before.objects ++ made }

-- The same of a local of the control method that runs, whose frame is the latest one: nothing but this slot is another.
-- What `slot_put` does the law of slots says.
pub record LocalHoldsCopy {S : Type 0} (before after : State S) (i : ℕ) (v : Value) : Type 0 where
  pub copy : Value
  pub is : IsCopy (length before.objects) after.objects v copy
  pub frame : ℕ
  pub latest : length before.frames ≡ frame + 1
  pub put : after ≡ (slot_put frame (Local i) copy (record before { objects = after.objects })).1
  pub made : Objects
  pub added : after.objects ≡ before.objects ++ made
