-- Values of a world: each object, declaration and frame that they name was given its number by this world, though a declaration
-- or a frame may have ended since.
use Rattle.std.specs.Prelude.{ℕ, Bool, true, nat_lt, length}
use Rattle.aml_objects.specs.declared.value.Value.{Value}
use Rattle.aml_objects.specs.declared.value.Value.TheVariants as value
use Rattle.aml_objects.specs.declared.value.Reference.{Reference}
use Rattle.aml_objects.specs.declared.value.Reference.TheVariants as reference
use Rattle.aml_world.specs.state.State.{State}

module _ {S : Type 0} (w : State S) where
  abbrev pub is_object : ℕ → Bool
  is_object o = nat_lt o (length w.objects)

  abbrev pub is_valid_reference : Reference → Bool
  is_valid_reference (reference.Name n) = nat_lt n w.names.next
  is_valid_reference (reference.Slot slot n) = nat_lt n w.started
  is_valid_reference (reference.Element o i) = is_object o
  is_valid_reference (reference.Byte o i) = is_object o

  abbrev pub is_valid_value : Value → Bool
  is_valid_value value.Uninitialized = true
  is_valid_value (value.Integer n) = true
  is_valid_value (value.String o) = is_object o
  is_valid_value (value.Buffer o) = is_object o
  is_valid_value (value.Package o) = is_object o
  is_valid_value (value.Reference r) = is_valid_reference r
