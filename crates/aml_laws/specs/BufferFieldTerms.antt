-- Terms that create buffer fields (ACPI 6.5, 19.6: CreateBitField, CreateByteField, CreateDWordField, CreateField,
-- CreateQWordField, CreateWordField).
use Rattle.std.specs.Prelude.{◌≡◌, ◌≢◌, ◌⊎◌, ◌≤◌, ◌<◌, ◌+◌, ◌*◌, ℕ, List, length, slice_get, Some, Ok, Err}
use Rattle.ar_space.specs.declared.refusal.Refusal.{Refusal}
use Rattle.ar_space.specs.declared.refusal.Refusal.TheVariants as refusal
use Rattle.ar_space.specs.declared.refusal.FieldFault.TheVariants.{FieldLimit}
use Rattle.ar_space.specs.declared.refusal.ValueFault.TheVariants.{WrongType}
use Rattle.aml_path.specs.Paths.{Name}
use Rattle.aml_grammar.specs.declared.opcode.Opcode.{Opcode}
use Rattle.aml_grammar.specs.declared.opcode.Opcode.TheVariants as opcodes
use Rattle.aml_grammar.specs.Tree.{Tree, name, inner, no_parts, part}
use Rattle.aml_objects.specs.declared.entry.BufferField.{BufferField}
use Rattle.aml_objects.specs.declared.object.Object.TheVariants as object
use Rattle.aml_objects.specs.declared.value.Value.{Value}
use Rattle.aml_objects.specs.declared.value.Value.TheVariants as value
use Rattle.aml_world.specs.state.Readings.{integer_in}
use Rattle.aml_world.specs.state.State.{State}
use Rattle.aml_laws.specs.OperatorTerms.{of_opcode}

-- the buffer, the index, and the name that is declared
abbrev pub create : Opcode → Tree → Tree → Name → Tree
create op x y n = of_opcode op (part (inner x) (part (inner y) (part (name n) no_parts)))

-- the buffer, the index of the first bit, how many bits, and the name that is declared
abbrev pub create_field : Tree → Tree → Tree → Name → Tree
create_field x y z n = of_opcode opcodes.CreateField (part (inner x) (part (inner y) (part (inner z) (part (name n) no_parts))))

-- how many bits each step of the index has, and how many the field
pub data HasSize : Opcode → ℕ → ℕ → Type 0 where
  of_bit : HasSize opcodes.CreateBitField 1 1
  of_byte : HasSize opcodes.CreateByteField 8 8
  of_word : HasSize opcodes.CreateWordField 8 16
  of_double_word : HasSize opcodes.CreateDWordField 8 32
  of_quad_word : HasSize opcodes.CreateQWordField 8 64

-- a buffer of at most 1,048,576 bytes, as all are, has bits up to this one
pub record HasBits {S : Type 0} (w : State S) (o last : ℕ) : Type 0 where
  pub bytes : List ℕ
  pub stands : slice_get w.objects o ≡ Some (object.Buffer bytes)
  pub short : length bytes ≤ 1048576
  pub within : last ≤ 8 * length bytes

-- the bits of a buffer from one on
abbrev pub bits_from : ℕ → ℕ → ℕ → BufferField
bits_from o first count = record { buffer = o; bit_offset = first; bits = count }

-- or it hasn't
pub record LacksBits {S : Type 0} (w : State S) (o last : ℕ) : Type 0 where
  pub bytes : List ℕ
  pub stands : slice_get w.objects o ≡ Some (object.Buffer bytes)
  pub beyond : 8 * length bytes < last

-- The values of a source and of an index name no bits, so many from a bit on that the index counts by these steps;
-- and what refuses the term: the source is no buffer, the index is no integer, or the buffer hasn't these bits.
pub data NamesNoBits {S : Type 0} (w : State S) (source index : Value) (step count : ℕ) : Refusal → Type 0 where
  no_buffer : ((o : ℕ) → source ≢ value.Buffer o) → NamesNoBits w source index step count (refusal.Value WrongType)
  no_index : (o : ℕ) (e : Refusal) → source ≡ value.Buffer o → integer_in index w ≡ (Err e, w) → NamesNoBits w source index step count e
  beyond_end : (o i : ℕ) → source ≡ value.Buffer o → integer_in index w ≡ (Ok i, w) → LacksBits w o (step * i + count) → NamesNoBits w source index step count (refusal.Field FieldLimit)

-- the same where a third value says how many: it is an integer, from 1 to 8,388,608
pub data CountsNoBits {S : Type 0} (w : State S) (source index count : Value) : Refusal → Type 0 where
  of_no_buffer : ((o : ℕ) → source ≢ value.Buffer o) → CountsNoBits w source index count (refusal.Value WrongType)
  at_no_index : (o : ℕ) (e : Refusal) → source ≡ value.Buffer o → integer_in index w ≡ (Err e, w) → CountsNoBits w source index count e
  no_count : (o i : ℕ) (e : Refusal) → source ≡ value.Buffer o → integer_in index w ≡ (Ok i, w) → integer_in count w ≡ (Err e, w) → CountsNoBits w source index count e
  none_or_many : (o i k : ℕ) → source ≡ value.Buffer o → integer_in index w ≡ (Ok i, w) → integer_in count w ≡ (Ok k, w) → (k ≡ 0) ⊎ (8388608 < k) → CountsNoBits w source index count (refusal.Field FieldLimit)
  behind_end : (o i k : ℕ) → source ≡ value.Buffer o → integer_in index w ≡ (Ok i, w) → integer_in count w ≡ (Ok k, w) → 0 < k → k ≤ 8388608 → LacksBits w o (i + k) → CountsNoBits w source index count (refusal.Field FieldLimit)
