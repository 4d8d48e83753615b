-- Stores of what an explicit conversion formed: the store makes no other one. A name that holds an integer, a string or a buffer of another
-- type holds a copy after it, as after CopyObject; every other place takes the value as Store does.
use Rattle.std.specs.Prelude.{ℕ, List, Bool, true, false, if◌then◌else◌}
use Rattle.ar_space.specs.declared.refusal.Refusal.TheVariants as refusal
use Rattle.ar_space.specs.declared.refusal.ValueFault.TheVariants.{WrongType}
use Rattle.ar_space.specs.Change.{Change, give, stop, ◌>>=◌}
use Rattle.aml_path.specs.declared.segment.Seg.{Seg}
use Rattle.aml_objects.specs.declared.value.Value.{Value}
use Rattle.aml_objects.specs.declared.value.Value.TheVariants as value
use Rattle.aml_objects.specs.declared.value.Reference.{Reference}
use Rattle.aml_objects.specs.declared.value.Reference.TheVariants as reference
use Rattle.aml_world.specs.declared.values.store_target.StoreTarget.{StoreTarget}
use Rattle.aml_world.specs.declared.values.store_target.StoreTarget.TheVariants as targets
use Rattle.aml_world.specs.declared.values.store_target.Holding.{Holding}
use Rattle.aml_world.specs.declared.values.store_target.Holding.TheVariants as holding
use Rattle.aml_world.specs.declared.values.store_target.Stored.{Stored}
use Rattle.aml_world.specs.declared.values.store_target.Stored.TheVariants as store
use Rattle.aml_world.specs.state.State.{State}
use Rattle.aml_world.specs.values.StoreTargets.{held_at, declaration, holding_of}
use Rattle.aml_world.specs.values.Stores.{copy_into_name, store_over_value, store_in_slot, store_to}

-- whether a value is an integer, a string, a buffer
abbrev pub is_integer : Value → Bool
is_integer (value.Integer n) = true
is_integer _ = false

abbrev pub is_string : Value → Bool
is_string (value.String o) = true
is_string _ = false

abbrev pub is_buffer : Value → Bool
is_buffer (value.Buffer o) = true
is_buffer _ = false

-- a store that would convert copies
abbrev pub formed_over_value : {S : Type 0} → Value → List Seg → Value → Change (State S) Stored
formed_over_value (value.Integer n) p v = if is_integer v then store_over_value (value.Integer n) p v else copy_into_name p v
formed_over_value (value.String o) p v = if is_string v then store_over_value (value.String o) p v else copy_into_name p v
formed_over_value (value.Buffer o) p v = if is_buffer v then store_over_value (value.Buffer o) p v else copy_into_name p v
formed_over_value (value.Package o) p v = store_over_value (value.Package o) p v
formed_over_value (value.Reference r) p v = store_over_value (value.Reference r) p v
formed_over_value value.Uninitialized p v = store_over_value value.Uninitialized p v

abbrev pub formed_over : {S : Type 0} → Holding → List Seg → Value → Change (State S) Stored
formed_over (holding.Value old) p v = formed_over_value old p v
formed_over (holding.Field f) p v = give (store.Field f)
formed_over holding.Nothing p v = stop (refusal.Value WrongType)

unfoldable pub formed_in_name : {S : Type 0} → List Seg → Value → Change (State S) Stored
formed_in_name p v = do
  h ← held_at p
  formed_over h p v

unfoldable pub formed_in_declared : {S : Type 0} → ℕ → Value → Change (State S) Stored
formed_in_declared n v = do
  e ← declaration n
  formed_over (holding_of e.1.object) e.0 v

-- what a reference refers to: a name that it names takes it as the name itself does
abbrev pub formed_through : {S : Type 0} → Reference → Value → Change (State S) Stored
formed_through (reference.Name n) v = formed_in_declared n v
formed_through (reference.Slot slot n) v = store_to (reference.Slot slot n) v
formed_through (reference.Element o i) v = store_to (reference.Element o i) v
formed_through (reference.Byte o i) v = store_to (reference.Byte o i) v

abbrev pub formed_to : {S : Type 0} → StoreTarget → Value → Change (State S) Stored
formed_to targets.Nowhere v = give store.Done
formed_to (targets.Slot slot) v = store_in_slot slot v
formed_to (targets.Name p) v = formed_in_name p v
formed_to (targets.Refers r) v = formed_through r v
