-- Terms that create buffer fields declare the bits that they say.
use Rattle.std.specs.Prelude.{◌≡◌, ◌<◌, ◌≤◌, ◌+◌, ◌*◌, ◌^◌, ◌==◌, ℕ, suc, nat_lt, nat_le, true, false, List, length, Ok, refl}
use Rattle.std.proofs.Common.{arith, ◌∙◌}
use Rattle.std.proofs.lemmas.Bool.Decides.{nat_tests}
use Rattle.ar_space.specs.Accesses.{Accesses}
use Rattle.ar_space.specs.Change.{give, settle, go_on, ◌>>=◌}
use Rattle.aml_path.specs.declared.segment.Seg.{Seg}
use Rattle.aml_path.specs.Paths.{Name, resolved}
use Rattle.aml_grammar.specs.declared.opcode.Opcode.{Opcode}
use Rattle.aml_grammar.specs.declared.opcode.Opcode.TheVariants as opcodes
use Rattle.aml_grammar.specs.Tree.{Tree}
use Rattle.aml_objects.specs.Objects.{buffer_at}
use Rattle.aml_objects.specs.declared.entry.NamedObject.TheVariants as named
use Rattle.aml_objects.specs.declared.value.Value.{Value}
use Rattle.aml_objects.specs.declared.value.Value.TheVariants as value
use Rattle.aml_fields.specs.BufferFields.{new_buffer_field}
use Rattle.aml_world.specs.declared.values.operation_kind.BufferFieldSize.{BufferFieldSize}
use Rattle.aml_world.specs.declared.values.operation_kind.BufferFieldSize.TheVariants as sizes
use Rattle.aml_world.specs.state.State.{State, on_objects}
use Rattle.aml_world.specs.state.Run.{lift}
use Rattle.aml_world.specs.state.Readings.{integer_in}
use Rattle.aml_world.specs.fields.FieldLayouts.{sized}
use Rattle.aml_world.specs.fields.BufferFields.{bits_of_step, bits_of_size}
use Rattle.aml_meaning.specs.declared.term_kind.RegionKind.TheVariants as regions
use Rattle.aml_meaning.specs.declared.term_kind.TermKind.TheVariants as kinds
use Rattle.aml_meaning.specs.Terms.{kind_of}
use Rattle.aml_meaning.specs.Tasks.{task, operand_value, value_at, two_values}
use Rattle.aml_meaning.specs.DeclarationTerms.{declaring}
use Rattle.aml_meaning.specs.FieldTerms.{sized_field_rule, bits_field_rule}
use Rattle.aml_meaning.specs.Evaluation.{rule}
use Rattle.aml_meaning.specs.Meaning.{meaning}
use Rattle.aml_laws.specs.OperatorTerms.{GivesValue}
use Rattle.aml_laws.specs.TestTerms.{TwoValues}
use Rattle.aml_laws.specs.ObjectTerms.{Passes}
use Rattle.aml_laws.specs.DeclaredObjects.{IsFree, with_name}
use Rattle.aml_laws.specs.BufferFieldTerms.{create, create_field, HasSize, of_bit, of_byte, of_word, of_double_word, of_quad_word, HasBits, bits_from}
use Rattle.aml_laws.proofs.NamesDeclared.{declaring_so}
use Rattle.aml_laws.proofs.TreesCost.{term_begins}

pub field_there : {S : Type 0} (w : State S) (o first count : ℕ) → HasBits w o (first + count) → on_objects (new_buffer_field o first count) w ≡ (Ok (bits_from o first count), w)
unfolding on_objects new_buffer_field buffer_at settle go_on ◌>>=◌
field_there w o first count h =
    let small : nat_lt (first + count) (2 ^ 64) ≡ true = below (first + count) (length h.bytes) h.short h.within in
    let inside : nat_le (first + count) (8 * length h.bytes) ≡ true = at_most (first + count) (8 * length h.bytes) h.within in
    rw (h.stands, small, inside) refl
  where
    below : (n k : ℕ) → k ≤ 1048576 → n ≤ 8 * k → nat_lt n (2 ^ 64) ≡ true
    below n k short within = let less : n < 2 ^ 64 = omega arith in grind (arith, nat_tests)

    at_most : (n k : ℕ) → n ≤ k → nat_le n k ≡ true
    at_most n k le = grind (arith, nat_tests)

-- ---- fields of a size

module _ {S : Type 0} (accesses : Accesses S) (scope : List Seg) (depth : ℕ) (n : Name) (path : List Seg) (is : resolved n scope ≡ Ok path) (w : State S) (steps o i : ℕ) (after : State S × ℕ) (free : IsFree depth after.0 path) where
  create_so : (op : Opcode) (size : BufferFieldSize) (x y : Tree) (u : Value) → kind_of op ≡ kinds.Region (regions.SizedBufferField size) → TwoValues accesses scope depth x y (w, steps) (value.Buffer o) u after → integer_in u after.0 ≡ (Ok i, after.0)
      → HasBits after.0 o (bits_of_step size * i + bits_of_size size)
      → rule accesses (meaning accesses) (task scope depth (create op x y n)) (w, steps) ≡ declaring (meaning accesses) scope depth (create op x y n) 2 (named.BufferField (bits_from o (bits_of_step size * i) (bits_of_size size))) after
  unfolding rule sized_field_rule two_values value_at operand_value settle lift give go_on ◌>>=◌
  create_so op size x y u kind h converts room = rw (kind, h.first, h.second, converts, field_there after.0 o (bits_of_step size * i) (bits_of_size size) room) refl

  create_passes : (op : Opcode) (size : BufferFieldSize) (x y : Tree) (u : Value) → kind_of op ≡ kinds.Region (regions.SizedBufferField size) → TwoValues accesses scope depth x y (w, steps) (value.Buffer o) u after → integer_in u after.0 ≡ (Ok i, after.0)
      → HasBits after.0 o (bits_of_step size * i + bits_of_size size) → Passes accesses scope depth (create op x y n) (w, suc steps) (with_name after.0 path (named.BufferField (bits_from o (bits_of_step size * i) (bits_of_size size))), after.1)
  create_passes op size x y u kind h converts room =
      (term_begins accesses (task scope depth (create op x y n))).paid w steps
      ∙ (create_so op size x y u kind h converts room ∙ declaring_so accesses scope depth n path is (create op x y n) 2 (named.BufferField (bits_from o (bits_of_step size * i) (bits_of_size size))) after refl free)

  pub sized_field_declared : (op : Opcode) (step count : ℕ) (x y : Tree) (u : Value) → HasSize op step count → TwoValues accesses scope depth x y (w, steps) (value.Buffer o) u after → integer_in u after.0 ≡ (Ok i, after.0) → HasBits after.0 o (step * i + count)
      → Passes accesses scope depth (create op x y n) (w, suc steps) (with_name after.0 path (named.BufferField (bits_from o (step * i) count)), after.1)
  sized_field_declared _ _ _ x y u of_bit h converts room = create_passes opcodes.CreateBitField sizes.Bit x y u refl h converts room
  sized_field_declared _ _ _ x y u of_byte h converts room = create_passes opcodes.CreateByteField sizes.Byte x y u refl h converts room
  sized_field_declared _ _ _ x y u of_word h converts room = create_passes opcodes.CreateWordField sizes.Word x y u refl h converts room
  sized_field_declared _ _ _ x y u of_double_word h converts room = create_passes opcodes.CreateDWordField sizes.DWord x y u refl h converts room
  sized_field_declared _ _ _ x y u of_quad_word h converts room = create_passes opcodes.CreateQWordField sizes.QWord x y u refl h converts room

  -- ---- fields of any bits

  few_bits : (k : ℕ) → 0 < k → k ≤ 8388608 → sized k ≡ Ok k
  few_bits k some few =
      let no_zero : (k == 0) ≡ false = grind (arith, nat_tests) in
      let short : nat_lt 8388608 k ≡ false = grind (arith, nat_tests) in
      rw (no_zero, short) refl

  create_field_so : (x y z : Tree) (one other : State S × ℕ) (u v : Value) (k : ℕ) → GivesValue accesses scope depth x (w, steps) (value.Buffer o) one → GivesValue accesses scope depth y one u other → GivesValue accesses scope depth z other v after
      → integer_in u after.0 ≡ (Ok i, after.0) → integer_in v after.0 ≡ (Ok k, after.0) → 0 < k → k ≤ 8388608 → HasBits after.0 o (i + k)
      → rule accesses (meaning accesses) (task scope depth (create_field x y z n)) (w, steps) ≡ declaring (meaning accesses) scope depth (create_field x y z n) 3 (named.BufferField (bits_from o i k)) after
  unfolding rule bits_field_rule value_at operand_value settle lift go_on ◌>>=◌
  create_field_so x y z one other u v k first second third converts counts some few room = rw (first, second, third, converts, counts, few_bits k some few, field_there after.0 o i k room) refl

  pub field_declared : (x y z : Tree) (one other : State S × ℕ) (u v : Value) (k : ℕ) → GivesValue accesses scope depth x (w, steps) (value.Buffer o) one → GivesValue accesses scope depth y one u other → GivesValue accesses scope depth z other v after
      → integer_in u after.0 ≡ (Ok i, after.0) → integer_in v after.0 ≡ (Ok k, after.0) → 0 < k → k ≤ 8388608 → HasBits after.0 o (i + k)
      → Passes accesses scope depth (create_field x y z n) (w, suc steps) (with_name after.0 path (named.BufferField (bits_from o i k)), after.1)
  field_declared x y z one other u v k first second third converts counts some few room =
      (term_begins accesses (task scope depth (create_field x y z n))).paid w steps
      ∙ (create_field_so x y z one other u v k first second third converts counts some few room ∙ declaring_so accesses scope depth n path is (create_field x y z n) 3 (named.BufferField (bits_from o i k)) after refl free)
