-- Integers below two to the width, and bytes below 256.
use Rattle.std.specs.Prelude.{◌≡◌, ◌<◌, ◌^◌, ℕ, slice_index, Ok}
use Rattle.ar_space.specs.declared.integer_width.IntegerWidth.{IntegerWidth}
use Rattle.ar_space.specs.Change.{Change}
use Rattle.aml_objects.specs.Contents.{Content, Integer, String, Buffer, Other, content_in}
use Rattle.aml_objects.specs.declared.value.Value.{Value}
use Rattle.aml_objects.specs.declared.value.Value.TheVariants as value
use Rattle.aml_convert.specs.Integers.{bits_of}
use Rattle.aml_world.specs.state.State.{State}

abbrev pub Below : {S : Type 0} → State S → ℕ → Type 0
Below w n = n < 2 ^ bits_of w.width

-- what a value holds: an integer below two to the width, or bytes below 256
abbrev pub WithinContent : IntegerWidth → Content → Type 0
WithinContent width (Integer n) = n < 2 ^ bits_of width
WithinContent width (String bytes) = Unit {0}
WithinContent width (Buffer bytes) = (i : ℕ) → slice_index bytes i < 256
WithinContent width Other = Unit {0}

abbrev pub Within : {S : Type 0} → State S → Value → Type 0
Within w v = WithinContent w.width (content_in w.objects v)

-- a value that is formed: an integer is below two to the width
abbrev pub WithinWidth : IntegerWidth → Value → Type 0
WithinWidth width value.Uninitialized = Unit {0}
WithinWidth width (value.Integer n) = n < 2 ^ bits_of width
WithinWidth width (value.String o) = Unit {0}
WithinWidth width (value.Buffer o) = Unit {0}
WithinWidth width (value.Package o) = Unit {0}
WithinWidth width (value.Reference r) = Unit {0}

abbrev pub FormsWithin : {S : Type 0} → State S → Change (State S) Value → Type 0
FormsWithin w m = (v : Value) → (m w).0 ≡ Ok v → WithinWidth w.width v
