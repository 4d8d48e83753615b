-- A buffer field that lies within its buffer is read and written.
use Rattle.std.specs.Prelude.{◌≡◌, ◌≤◌, ◌+◌, ◌*◌, ◌^◌, ℕ, nat_lt, nat_le, true, List, length, slice_get, slice_set, Some, Ok, refl}
use Rattle.std.proofs.Common.{arith}
use Rattle.std.proofs.lemmas.Bool.Decides.{nat_tests}
use Rattle.ar_space.specs.Change.{give, settle, go_on, ◌>>=◌}
use Rattle.aml_objects.specs.Objects.{Objects, buffer_at, exchange_buffer}
use Rattle.aml_objects.specs.declared.object.Object.TheVariants as object
use Rattle.aml_objects.specs.declared.entry.BufferField.{BufferField}
use Rattle.aml_fields.specs.Bits.{field_bits, packed}
use Rattle.aml_fields.specs.BufferFields.{lies_within, with_field, read_buffer_field, write_buffer_field}

module _ (f : BufferField) (h : Objects) (bytes : List ℕ) (at : slice_get h f.buffer ≡ Some (object.Buffer bytes)) (short : length bytes ≤ 1048576) (within : f.bit_offset + f.bits ≤ 8 * length bytes) where
  is_within : lies_within f.bit_offset f.bits bytes ≡ true
  is_within =
      let few : nat_lt (f.bit_offset + f.bits) (2 ^ 64) ≡ true = grind (arith, nat_tests) in
      let inside : nat_le (f.bit_offset + f.bits) (8 * length bytes) ≡ true = grind (arith, nat_tests) in
      rw (few, inside) refl

  pub field_is_read : read_buffer_field f h ≡ (Ok (packed (field_bits bytes f.bit_offset f.bits)), h)
  unfolding read_buffer_field buffer_at settle give go_on ◌>>=◌
  field_is_read = rw (at, is_within) refl

  pub field_is_written : (source : List ℕ) → write_buffer_field f source h ≡ (Ok tt, slice_set h f.buffer (object.Buffer (with_field f source bytes)))
  unfolding write_buffer_field buffer_at exchange_buffer settle give go_on ◌>>=◌
  field_is_written source = rw (at, is_within) (rw at refl)

pub field_answers : (f : BufferField) (h : Objects) (bytes source : List ℕ) → slice_get h f.buffer ≡ Some (object.Buffer bytes) → length bytes ≤ 1048576 → f.bit_offset + f.bits ≤ 8 * length bytes → (after : Objects) × (write_buffer_field f source h ≡ (Ok tt, after))
field_answers f h bytes source at short within = (slice_set h f.buffer (object.Buffer (with_field f source bytes)), field_is_written f h bytes at short within source)

pub ruleset a_buffer_field_within_its_buffer_is_accessed = (field_is_read, field_answers)
