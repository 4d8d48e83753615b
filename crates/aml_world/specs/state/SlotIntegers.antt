-- Integers in slots, and which slots an integer is put into as it is (ACPI 6.5, 19.3.5.8).
use Rattle.std.specs.Prelude.{ℕ, Bool, true, false, not, Option, Some, None}
use Rattle.aml_objects.specs.declared.value.Value.{Value}
use Rattle.aml_objects.specs.declared.value.Value.TheVariants as value
use Rattle.aml_objects.specs.declared.value.Slot.{Slot}
use Rattle.aml_objects.specs.declared.value.Slot.TheVariants.{Local, Argument}

-- the integer that a value is, if it is one
abbrev pub integer_held : Value → Option ℕ
integer_held value.Uninitialized = None
integer_held (value.Integer n) = Some n
integer_held (value.String o) = None
integer_held (value.Buffer o) = None
integer_held (value.Package o) = None
integer_held (value.Reference r) = None

abbrev pub is_reference : Value → Bool
is_reference value.Uninitialized = false
is_reference (value.Integer n) = false
is_reference (value.String o) = false
is_reference (value.Buffer o) = false
is_reference (value.Package o) = false
is_reference (value.Reference r) = true

-- whether a slot that holds a value takes what is stored to it: an argument that holds a reference does not
abbrev pub takes_copy : Slot → Value → Bool
takes_copy (Local i) held = true
takes_copy (Argument i) held = not (is_reference held)
