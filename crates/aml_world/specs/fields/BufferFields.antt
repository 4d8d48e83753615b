-- Buffer fields, as their terms make them (ACPI 6.5, 19.6: CreateField, CreateBitField and its like).
use Rattle.std.specs.Prelude.{ℕ, Ok, Err}
use Rattle.ar_space.specs.declared.refusal.Refusal.TheVariants as refusal
use Rattle.ar_space.specs.declared.refusal.ValueFault.TheVariants.{WrongType}
use Rattle.ar_space.specs.Outcome.{Outcome}
use Rattle.aml_objects.specs.declared.value.Value.{Value}
use Rattle.aml_objects.specs.declared.value.Value.TheVariants as value
use Rattle.aml_world.specs.declared.values.operation_kind.BufferFieldSize.{BufferFieldSize}
use Rattle.aml_world.specs.declared.values.operation_kind.BufferFieldSize.TheVariants as sizes

-- the object of a value that is a buffer
abbrev pub buffer_of : Value → Outcome ℕ
buffer_of (value.Buffer o) = Ok o
buffer_of value.Uninitialized = Err (refusal.Value WrongType)
buffer_of (value.Integer n) = Err (refusal.Value WrongType)
buffer_of (value.String o) = Err (refusal.Value WrongType)
buffer_of (value.Package o) = Err (refusal.Value WrongType)
buffer_of (value.Reference r) = Err (refusal.Value WrongType)

-- CreateBitField counts bits, the others of its kind bytes; and how many bits a field of a kind has
abbrev pub bits_of_step : BufferFieldSize → ℕ
bits_of_step sizes.Bit = 1
bits_of_step sizes.Byte = 8
bits_of_step sizes.Word = 8
bits_of_step sizes.DWord = 8
bits_of_step sizes.QWord = 8

abbrev pub bits_of_size : BufferFieldSize → ℕ
bits_of_size sizes.Bit = 1
bits_of_size sizes.Byte = 8
bits_of_size sizes.Word = 16
bits_of_size sizes.DWord = 32
bits_of_size sizes.QWord = 64
