-- Operation regions and the fields of buffers stand where names may stand, and their terms are refused where none may.
use Rattle.std.specs.Prelude.{◌≡◌, ◌<◌, ◌≤◌, ◌+◌, ◌*◌, ◌%◌, ℕ, suc, List, Ok, Err, refl}
use Rattle.std.proofs.Common.{arith, ap, ◌∙◌}
use Rattle.ar_space.specs.Accesses.{Accesses}
use Rattle.ar_space.specs.Change.{give, settle, go_on, ◌>>=◌}
use Rattle.ar_space.specs.declared.refusal.Refusal.{Refusal}
use Rattle.aml_path.specs.declared.segment.Seg.{Seg}
use Rattle.aml_path.specs.Paths.{Name, resolved}
use Rattle.aml_grammar.specs.declared.opcode.Opcode.{Opcode}
use Rattle.aml_grammar.specs.declared.opcode.Opcode.TheVariants as opcodes
use Rattle.aml_grammar.specs.Tree.{Tree}
use Rattle.aml_objects.specs.declared.entry.NamedObject.TheVariants as named
use Rattle.aml_objects.specs.declared.entry.OperationRegion.{OperationRegion}
use Rattle.aml_objects.specs.declared.value.Value.{Value}
use Rattle.aml_objects.specs.declared.value.Value.TheVariants as value
use Rattle.aml_world.specs.declared.values.operation_kind.BufferFieldSize.{BufferFieldSize}
use Rattle.aml_world.specs.declared.values.operation_kind.BufferFieldSize.TheVariants as sizes
use Rattle.aml_world.specs.fields.BufferFields.{bits_of_step, bits_of_size}
use Rattle.aml_world.specs.state.Readings.{integer_in}
use Rattle.aml_world.specs.state.Run.{Run, lift}
use Rattle.aml_world.specs.state.State.{State}
use Rattle.aml_meaning.specs.declared.flow.Flow.{Flow}
use Rattle.aml_meaning.specs.declared.flow.Flow.TheVariants as flow
use Rattle.aml_meaning.specs.declared.term_kind.RegionKind.TheVariants as regions
use Rattle.aml_meaning.specs.declared.term_kind.TermKind.TheVariants as kinds
use Rattle.aml_meaning.specs.DeclarationTerms.{declaring}
use Rattle.aml_meaning.specs.Evaluation.{rule}
use Rattle.aml_meaning.specs.FieldTerms.{region_rule, sized_field_rule, bits_field_rule}
use Rattle.aml_meaning.specs.Meaning.{meaning}
use Rattle.aml_meaning.specs.Tasks.{Task, task, operand_value, value_at, two_values}
use Rattle.aml_meaning.specs.Terms.{kind_of}
use Rattle.aml_laws.specs.BufferFieldTerms.{create, create_field, HasSize, of_bit, of_byte, of_word, of_double_word, of_quad_word, HasBits, bits_from}
use Rattle.aml_laws.specs.DeclaredObjects.{IsFree, with_name}
use Rattle.aml_laws.specs.FieldsPut.{IsSized}
use Rattle.aml_laws.specs.ObjectTerms.{Passes}
use Rattle.aml_laws.specs.OperatorTerms.{GivesValue, IsRefused}
use Rattle.aml_laws.specs.RegionTerms.{operation_region}
use Rattle.aml_laws.specs.TestTerms.{TwoValues}
use Rattle.aml_laws.proofs.BufferFieldsDeclared.{field_there}
use Rattle.aml_laws.proofs.FieldsPut.{size_is}
use Rattle.aml_laws.proofs.NamesDeclared.{declaring_so}
use Rattle.aml_laws.proofs.PathsTaken.{NotDeclared}
use Rattle.aml_laws.proofs.TreesCost.{term_begins}

-- ---- operands, and then the name

module _ {S : Type 0} (ev : Task → Run S Flow) (scope : List Seg) (depth : ℕ) (n : Name) (s after : State S × ℕ) where
  region_so : (space : ℕ) (offset size : Tree) (between : State S × ℕ) (v u : Value) (x y : ℕ) → ev (task scope depth offset) s ≡ (Ok (flow.Value v), between) → ev (task scope depth size) between ≡ (Ok (flow.Value u), after) → integer_in v after.0 ≡ (Ok x, after.0) → integer_in u after.0 ≡ (Ok y, after.0)
      → region_rule ev scope depth (operation_region n space offset size) s ≡ declaring ev scope depth (operation_region n space offset size) 0 (named.OperationRegion (record { space = space % 256; offset = x; length = y })) after
  unfolding region_rule value_at operand_value settle lift go_on ◌>>=◌
  region_so space offset size between v u x y first second begins long = rw (first, second, begins, long) refl

  sized_so : (op : Opcode) (size : BufferFieldSize) (x y : Tree) (between : State S × ℕ) (o i : ℕ) (u : Value) → ev (task scope depth x) s ≡ (Ok (flow.Value (value.Buffer o)), between) → ev (task scope depth y) between ≡ (Ok (flow.Value u), after) → integer_in u after.0 ≡ (Ok i, after.0)
      → HasBits after.0 o (bits_of_step size * i + bits_of_size size)
      → sized_field_rule ev size scope depth (create op x y n) s ≡ declaring ev scope depth (create op x y n) 2 (named.BufferField (bits_from o (bits_of_step size * i) (bits_of_size size))) after
  unfolding sized_field_rule two_values value_at operand_value settle lift give go_on ◌>>=◌
  sized_so op size x y between o i u first second converts room = rw (first, second, converts, field_there after.0 o (bits_of_step size * i) (bits_of_size size) room) refl

-- ---- operation regions

module _ {S : Type 0} (accesses : Accesses S) (scope : List Seg) (depth : ℕ) (n : Name) (w : State S) (steps space : ℕ) (offset size : Tree) (between after : State S × ℕ) (v u : Value) (x y : ℕ) (first : GivesValue accesses scope depth offset (w, steps) v between)
    (second : GivesValue accesses scope depth size between u after) (begins : integer_in v after.0 ≡ (Ok x, after.0)) (long : integer_in u after.0 ≡ (Ok y, after.0)) where
  region_ruled : rule accesses (meaning accesses) (task scope depth (operation_region n space offset size)) (w, steps) ≡ region_rule (meaning accesses) scope depth (operation_region n space offset size) (w, steps)
  unfolding rule
  region_ruled = refl

  region_begins : meaning accesses (task scope depth (operation_region n space offset size)) (w, suc steps) ≡ declaring (meaning accesses) scope depth (operation_region n space offset size) 0 (named.OperationRegion (record { space = space % 256; offset = x; length = y })) after
  region_begins = (term_begins accesses (task scope depth (operation_region n space offset size))).paid w steps ∙ (region_ruled ∙ region_so (meaning accesses) scope depth n (w, steps) after space offset size between v u x y first second begins long)

  pub region_put : (path : List Seg) → resolved n scope ≡ Ok path → space < 256 → IsFree depth after.0 path → Passes accesses scope depth (operation_region n space offset size) (w, suc steps) (with_name after.0 path (named.OperationRegion (record { space = space; offset = x; length = y })), after.1)
  region_put path is small free =
      let byte : space % 256 ≡ space = omega arith in
      region_begins
      ∙ (declaring_so accesses scope depth n path is (operation_region n space offset size) 0 (named.OperationRegion (record { space = space % 256; offset = x; length = y })) after refl free
      ∙ ap (λ k. (Ok flow.Next, (with_name after.0 path (named.OperationRegion (record { space = k; offset = x; length = y })), after.1))) byte)

  pub region_not_put : (e : Refusal) → NotDeclared accesses scope depth n after e → IsRefused accesses scope depth (operation_region n space offset size) (w, suc steps) e after
  region_not_put e none = region_begins ∙ none (operation_region n space offset size) 0 (named.OperationRegion (record { space = space % 256; offset = x; length = y })) refl

-- ---- fields of buffers

module _ {S : Type 0} (accesses : Accesses S) (scope : List Seg) (depth : ℕ) (n : Name) (w : State S) (steps o i : ℕ) (after : State S × ℕ) (e : Refusal) (none : NotDeclared accesses scope depth n after e) where
  create_ruled : (op : Opcode) (size : BufferFieldSize) (x y : Tree) → kind_of op ≡ kinds.Region (regions.SizedBufferField size) → rule accesses (meaning accesses) (task scope depth (create op x y n)) (w, steps) ≡ sized_field_rule (meaning accesses) size scope depth (create op x y n) (w, steps)
  unfolding rule
  create_ruled op size x y kind = rw kind refl

  create_stops : (op : Opcode) (size : BufferFieldSize) (x y : Tree) (u : Value) → kind_of op ≡ kinds.Region (regions.SizedBufferField size) → TwoValues accesses scope depth x y (w, steps) (value.Buffer o) u after → integer_in u after.0 ≡ (Ok i, after.0)
      → HasBits after.0 o (bits_of_step size * i + bits_of_size size) → IsRefused accesses scope depth (create op x y n) (w, suc steps) e after
  create_stops op size x y u kind h converts room =
      (term_begins accesses (task scope depth (create op x y n))).paid w steps
      ∙ (create_ruled op size x y kind ∙ (sized_so (meaning accesses) scope depth n (w, steps) after op size x y h.between o i u h.first h.second converts room ∙ none (create op x y n) 2 (named.BufferField (bits_from o (bits_of_step size * i) (bits_of_size size))) refl))

  pub sized_field_not_put : (op : Opcode) (step count : ℕ) (x y : Tree) (u : Value) → HasSize op step count → TwoValues accesses scope depth x y (w, steps) (value.Buffer o) u after → integer_in u after.0 ≡ (Ok i, after.0) → HasBits after.0 o (step * i + count)
      → IsRefused accesses scope depth (create op x y n) (w, suc steps) e after
  sized_field_not_put _ _ _ x y u of_bit h converts room = create_stops opcodes.CreateBitField sizes.Bit x y u refl h converts room
  sized_field_not_put _ _ _ x y u of_byte h converts room = create_stops opcodes.CreateByteField sizes.Byte x y u refl h converts room
  sized_field_not_put _ _ _ x y u of_word h converts room = create_stops opcodes.CreateWordField sizes.Word x y u refl h converts room
  sized_field_not_put _ _ _ x y u of_double_word h converts room = create_stops opcodes.CreateDWordField sizes.DWord x y u refl h converts room
  sized_field_not_put _ _ _ x y u of_quad_word h converts room = create_stops opcodes.CreateQWordField sizes.QWord x y u refl h converts room

  create_field_so : (x y z : Tree) (one other : State S × ℕ) (u v : Value) (k : ℕ) → GivesValue accesses scope depth x (w, steps) (value.Buffer o) one → GivesValue accesses scope depth y one u other → GivesValue accesses scope depth z other v after
      → integer_in u after.0 ≡ (Ok i, after.0) → integer_in v after.0 ≡ (Ok k, after.0) → IsSized k → HasBits after.0 o (i + k)
      → rule accesses (meaning accesses) (task scope depth (create_field x y z n)) (w, steps) ≡ declaring (meaning accesses) scope depth (create_field x y z n) 3 (named.BufferField (bits_from o i k)) after
  unfolding rule bits_field_rule value_at operand_value settle lift go_on ◌>>=◌
  create_field_so x y z one other u v k first second third converts counts sized room = rw (first, second, third, converts, counts, size_is k sized, field_there after.0 o i k room) refl

  pub field_not_put : (x y z : Tree) (one other : State S × ℕ) (u v : Value) (k : ℕ) → GivesValue accesses scope depth x (w, steps) (value.Buffer o) one → GivesValue accesses scope depth y one u other → GivesValue accesses scope depth z other v after
      → integer_in u after.0 ≡ (Ok i, after.0) → integer_in v after.0 ≡ (Ok k, after.0) → IsSized k → HasBits after.0 o (i + k) → IsRefused accesses scope depth (create_field x y z n) (w, suc steps) e after
  field_not_put x y z one other u v k first second third converts counts sized room =
      (term_begins accesses (task scope depth (create_field x y z n))).paid w steps
      ∙ (create_field_so x y z one other u v k first second third converts counts sized room ∙ none (create_field x y z n) 3 (named.BufferField (bits_from o i k)) refl)
