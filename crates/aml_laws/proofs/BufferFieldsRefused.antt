-- Terms that create buffer fields are refused where their operands name no bits of a buffer.
use Rattle.std.specs.Prelude.{◌≡◌, ◌≢◌, ◌⊎◌, ◌<◌, ◌≤◌, ◌+◌, ◌*◌, ◌^◌, ◌&&◌, ℕ, suc, nat_lt, nat_le, Bool, true, false, List, length, Ok, Err, refl, if◌then◌else◌}
use Rattle.std.proofs.Common.{arith, inl, inr, ◌∙◌}
use Rattle.std.proofs.lemmas.Bool.Decides.{nat_tests}
use Rattle.ar_space.specs.declared.refusal.Refusal.{Refusal}
use Rattle.ar_space.specs.declared.refusal.Refusal.TheVariants as refusal
use Rattle.ar_space.specs.declared.refusal.FieldFault.TheVariants.{FieldLimit}
use Rattle.ar_space.specs.declared.refusal.ValueFault.TheVariants.{WrongType}
use Rattle.ar_space.specs.Accesses.{Accesses}
use Rattle.ar_space.specs.Change.{give, settle, go_on, ◌>>=◌}
use Rattle.aml_path.specs.declared.segment.Seg.{Seg}
use Rattle.aml_path.specs.Paths.{Name}
use Rattle.aml_grammar.specs.declared.opcode.Opcode.{Opcode}
use Rattle.aml_grammar.specs.declared.opcode.Opcode.TheVariants as opcodes
use Rattle.aml_grammar.specs.Tree.{Tree}
use Rattle.aml_objects.specs.Objects.{buffer_at}
use Rattle.aml_objects.specs.declared.value.Value.{Value}
use Rattle.aml_objects.specs.declared.value.Value.TheVariants as value
use Rattle.aml_fields.specs.BufferFields.{lies_within, field_within, new_buffer_field}
use Rattle.aml_world.specs.declared.values.operation_kind.BufferFieldSize.{BufferFieldSize}
use Rattle.aml_world.specs.declared.values.operation_kind.BufferFieldSize.TheVariants as sizes
use Rattle.aml_world.specs.fields.BufferFields.{buffer_of, bits_of_step, bits_of_size}
use Rattle.aml_world.specs.state.Readings.{integer_in}
use Rattle.aml_world.specs.state.Run.{lift}
use Rattle.aml_world.specs.state.State.{State, on_objects}
use Rattle.aml_meaning.specs.declared.term_kind.RegionKind.TheVariants as regions
use Rattle.aml_meaning.specs.declared.term_kind.TermKind.TheVariants as kinds
use Rattle.aml_meaning.specs.Evaluation.{rule}
use Rattle.aml_meaning.specs.FieldTerms.{sized_field_rule, bits_field_rule}
use Rattle.aml_meaning.specs.Meaning.{meaning}
use Rattle.aml_meaning.specs.Tasks.{task, operand_value, value_at, two_values}
use Rattle.aml_meaning.specs.Terms.{kind_of}
use Rattle.aml_laws.specs.BufferFieldTerms.{create, create_field, HasSize, of_bit, of_byte, of_word, of_double_word, of_quad_word, LacksBits, NamesNoBits, no_buffer, no_index, beyond_end, CountsNoBits, of_no_buffer, at_no_index, no_count, none_or_many, behind_end}
use Rattle.aml_laws.specs.FieldsPut.{IsSized}
use Rattle.aml_laws.specs.OperatorTerms.{GivesValue, IsRefused}
use Rattle.aml_laws.specs.TestTerms.{TwoValues}
use Rattle.aml_laws.proofs.FieldsPut.{size_is, no_size}
use Rattle.aml_laws.proofs.TreesCost.{term_begins}

none_of : (source : Value) → ((o : ℕ) → source ≢ value.Buffer o) → buffer_of source ≡ Err (refusal.Value WrongType)
none_of value.Uninitialized other = refl
none_of (value.Integer n) other = refl
none_of (value.String o) other = refl
none_of (value.Buffer o) other = absurd (other o refl)
none_of (value.Package o) other = refl
none_of (value.Reference r) other = refl

outside : (o first count : ℕ) (bytes : List ℕ) → 8 * length bytes < first + count → field_within o first count bytes ≡ Err (refusal.Field FieldLimit)
outside o first count bytes beyond = by (nat_lt (first + count) (2 ^ 64)) (nat_le (first + count) (8 * length bytes)) refl refl
  where
    past : (n k : ℕ) → k < n → nat_le n k ≡ false
    past n k less = grind (arith, nat_tests)

    by : (a c : Bool) → nat_lt (first + count) (2 ^ 64) ≡ a → nat_le (first + count) (8 * length bytes) ≡ c → field_within o first count bytes ≡ Err (refusal.Field FieldLimit)
    by false c small within = rw small refl
    by true c small within = let not = past (first + count) (8 * length bytes) beyond in rw (small, not) refl

field_not_there : {S : Type 0} (w : State S) (o first count : ℕ) → LacksBits w o (first + count) → on_objects (new_buffer_field o first count) w ≡ (Err (refusal.Field FieldLimit), w)
unfolding on_objects new_buffer_field buffer_at settle go_on ◌>>=◌
field_not_there w o first count h = rw (h.stands, outside o first count h.bytes h.beyond) refl

-- ---- fields of a size

module _ {S : Type 0} (accesses : Accesses S) (scope : List Seg) (depth : ℕ) (n : Name) (w : State S) (steps : ℕ) (source index : Value) (after : State S × ℕ) where
  module _ (op : Opcode) (size : BufferFieldSize) (kind : kind_of op ≡ kinds.Region (regions.SizedBufferField size)) (x y : Tree) (h : TwoValues accesses scope depth x y (w, steps) source index after) where
    sized_refused : (e : Refusal) → NamesNoBits after.0 source index (bits_of_step size) (bits_of_size size) e → rule accesses (meaning accesses) (task scope depth (create op x y n)) (w, steps) ≡ (Err e, after)
    unfolding rule sized_field_rule two_values value_at operand_value settle lift give go_on ◌>>=◌
    sized_refused _ (no_buffer other) = rw (kind, h.first, h.second, none_of source other) refl
    sized_refused _ (no_index o e is none) = rw (kind, h.first, h.second, is, none) refl
    sized_refused _ (beyond_end o i is counts lacks) = rw (kind, h.first, h.second, is, counts, field_not_there after.0 o (bits_of_step size * i) (bits_of_size size) lacks) refl

    begun_refused : (e : Refusal) → NamesNoBits after.0 source index (bits_of_step size) (bits_of_size size) e → IsRefused accesses scope depth (create op x y n) (w, suc steps) e after
    begun_refused e none = (term_begins accesses (task scope depth (create op x y n))).paid w steps ∙ sized_refused e none

  pub sized_field_refused : (op : Opcode) (step count : ℕ) (x y : Tree) → HasSize op step count → TwoValues accesses scope depth x y (w, steps) source index after → (e : Refusal) → NamesNoBits after.0 source index step count e → IsRefused accesses scope depth (create op x y n) (w, suc steps) e after
  sized_field_refused _ _ _ x y of_bit h e none = begun_refused opcodes.CreateBitField sizes.Bit refl x y h e none
  sized_field_refused _ _ _ x y of_byte h e none = begun_refused opcodes.CreateByteField sizes.Byte refl x y h e none
  sized_field_refused _ _ _ x y of_word h e none = begun_refused opcodes.CreateWordField sizes.Word refl x y h e none
  sized_field_refused _ _ _ x y of_double_word h e none = begun_refused opcodes.CreateDWordField sizes.DWord refl x y h e none
  sized_field_refused _ _ _ x y of_quad_word h e none = begun_refused opcodes.CreateQWordField sizes.QWord refl x y h e none

  -- ---- fields of any bits

  module _ (x y z : Tree) (one other : State S × ℕ) (count : Value) (first : GivesValue accesses scope depth x (w, steps) source one) (second : GivesValue accesses scope depth y one index other) (third : GivesValue accesses scope depth z other count after) where
    bits_refused : (e : Refusal) → CountsNoBits after.0 source index count e → rule accesses (meaning accesses) (task scope depth (create_field x y z n)) (w, steps) ≡ (Err e, after)
    unfolding rule bits_field_rule value_at operand_value settle lift go_on ◌>>=◌
    bits_refused _ (of_no_buffer other) = rw (first, second, third, none_of source other) refl
    bits_refused _ (at_no_index o e is none) = rw (first, second, third, is, none) refl
    bits_refused _ (no_count o i e is converts none) = rw (first, second, third, is, converts, none) refl
    bits_refused _ (none_or_many o i k is converts counts none) = rw (first, second, third, is, converts, counts, no_size k none) refl
    bits_refused _ (behind_end o i k is converts counts some few lacks) = rw (first, second, third, is, converts, counts, size_is k (record { some = some; few = few }), field_not_there after.0 o i k lacks) refl

    pub field_of_bits_refused : (e : Refusal) → CountsNoBits after.0 source index count e → IsRefused accesses scope depth (create_field x y z n) (w, suc steps) e after
    field_of_bits_refused e none = (term_begins accesses (task scope depth (create_field x y z n))).paid w steps ∙ bits_refused e none
