-- Buffer fields: bits of a buffer, which are read and written in place, without accesses (ACPI 6.5, 19.6: CreateField and its like).
use Rattle.std.specs.Prelude.{ℕ, ◌+◌, ◌*◌, ◌^◌, nat_le, nat_lt, ◌&&◌, Bool, List, length, Ok, Err, if◌then◌else◌}
use Rattle.ar_space.specs.declared.refusal.Refusal.TheVariants as refusal
use Rattle.ar_space.specs.declared.refusal.EvaluationFault.TheVariants.{DeadReference}
use Rattle.ar_space.specs.declared.refusal.FieldFault.TheVariants.{FieldLimit}
use Rattle.ar_space.specs.Outcome.{Outcome}
use Rattle.ar_space.specs.Change.{Change, give, settle, ◌>>=◌}
use Rattle.aml_objects.specs.Objects.{Objects, buffer_at, exchange_buffer}
use Rattle.aml_objects.specs.declared.entry.BufferField.{BufferField}
use Rattle.aml_fields.specs.Bits.{bits_of, field_bits, put, bytes_within, packed}

-- whether so many bits, from one on, lie within a buffer; offsets are below 2^64, which no buffer reaches
abbrev pub lies_within : ℕ → ℕ → List ℕ → Bool
lies_within offset count bytes = nat_lt (offset + count) (2 ^ 64) && nat_le (offset + count) (8 * length bytes)

-- a new buffer field lies within its buffer
abbrev pub field_within : ℕ → ℕ → ℕ → List ℕ → Outcome BufferField
field_within o offset count bytes = if lies_within offset count bytes then Ok (record { buffer = o; bit_offset = offset; bits = count }) else Err (refusal.Field FieldLimit)

unfoldable pub new_buffer_field : ℕ → ℕ → ℕ → Change Objects BufferField
new_buffer_field o offset count = do
  bytes ← buffer_at o
  settle (field_within o offset count bytes)

-- it does so from then on: no store makes a buffer shorter
abbrev pub still_within : BufferField → List ℕ → Outcome (Unit {0})
still_within f bytes = if lies_within f.bit_offset f.bits bytes then Ok tt else Err (refusal.Evaluation DeadReference)

-- its bits, lowest first, as bytes
unfoldable pub read_buffer_field : BufferField → Change Objects (List ℕ)
read_buffer_field f = do
  bytes ← buffer_at f.buffer
  whole ← settle (still_within f bytes)
  give (packed (field_bits bytes f.bit_offset f.bits))

-- a buffer with the bits of some bytes in it, cut or with zeros behind them
abbrev pub with_field : BufferField → List ℕ → List ℕ → List ℕ
with_field f source bytes = bytes_within (length bytes) (put f.bit_offset (field_bits source 0 f.bits) (bits_of bytes))

unfoldable pub write_buffer_field : BufferField → List ℕ → Change Objects (Unit {0})
write_buffer_field f source = do
  bytes ← buffer_at f.buffer
  whole ← settle (still_within f bytes)
  old ← exchange_buffer f.buffer (with_field f source bytes)
  give tt
