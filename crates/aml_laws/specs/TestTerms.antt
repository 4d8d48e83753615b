-- Terms that test values, and what they give (ACPI 6.5, 19.6: LAnd, LOr, LNot, LEqual, LGreater, LLess).
use Rattle.std.specs.Prelude.{◌≡◌, ◌-◌, ◌^◌, ℕ, suc, List, Ok, Err}
use Rattle.std.specs.declared.cmp.Ordering.{Ordering}
use Rattle.std.specs.declared.cmp.Ordering.TheVariants.{Less, Equal, Greater}
use Rattle.ar_space.specs.declared.integer_width.IntegerWidth.{IntegerWidth}
use Rattle.ar_space.specs.declared.refusal.Refusal.{Refusal}
use Rattle.ar_space.specs.Accesses.{Accesses}
use Rattle.aml_path.specs.declared.segment.Seg.{Seg}
use Rattle.aml_grammar.specs.declared.opcode.Opcode.{Opcode}
use Rattle.aml_grammar.specs.declared.opcode.Opcode.TheVariants as opcodes
use Rattle.aml_grammar.specs.Tree.{Tree}
use Rattle.aml_objects.specs.Contents.{content_in}
use Rattle.aml_objects.specs.declared.value.Value.{Value}
use Rattle.aml_objects.specs.declared.value.Value.TheVariants as value
use Rattle.aml_convert.specs.Integers.{bits_of}
use Rattle.aml_convert.specs.Conversions.{compared}
use Rattle.aml_world.specs.state.State.{State}
use Rattle.aml_world.specs.state.Readings.{integer_in}
use Rattle.aml_laws.specs.OperatorTerms.{of_one, of_two, GivesValue, Gives, IsRefused, OneInteger, TwoIntegers}

-- True, which has all bits of the width, where something holds, and else False, which is 0
pub record IsTruth (width : IntegerWidth) (Holds : Type 0) (n : ℕ) : Type 0 where
  pub true : Holds → n ≡ 2 ^ bits_of width - 1
  pub false : (Holds → ⊥) → n ≡ 0

-- a term tells whether something holds of the integer that its operand converts to, and of those of its two operands, which are both
-- evaluated, from left to right; it stores nothing
abbrev pub TellsOfOne : Type 0 → Opcode → (ℕ → Type 0) → Type 0
TellsOfOne S op Holds = (accesses : Accesses S) (scope : List Seg) (depth : ℕ) (x : Tree) (w : State S) (steps a : ℕ) (after : State S × ℕ) → OneInteger accesses scope depth x (w, steps) a after
    → (n : ℕ) × IsTruth after.0.width (Holds a) n × Gives accesses scope depth (of_one op x) (w, suc steps) n after

abbrev pub TellsOfTwo : Type 0 → Opcode → (ℕ → ℕ → Type 0) → Type 0
TellsOfTwo S op Holds = (accesses : Accesses S) (scope : List Seg) (depth : ℕ) (x y : Tree) (w : State S) (steps a b : ℕ) (after : State S × ℕ) → TwoIntegers accesses scope depth x y (w, steps) a b after
    → (n : ℕ) × IsTruth after.0.width (Holds a b) n × Gives accesses scope depth (of_two op x y) (w, suc steps) n after

-- the values of two operands, one after the other
pub record TwoValues {S : Type 0} (accesses : Accesses S) (scope : List Seg) (depth : ℕ) (x y : Tree) (s : State S × ℕ) (v u : Value) (after : State S × ℕ) : Type 0 where
  pub between : State S × ℕ
  pub first : GivesValue accesses scope depth x s v between
  pub second : GivesValue accesses scope depth y between u after

-- a comparison tells whether something holds of an integer and of the one that its second operand converts to
abbrev pub ComparesIntegers : Type 0 → Opcode → (ℕ → ℕ → Type 0) → Type 0
ComparesIntegers S op Holds = (accesses : Accesses S) (scope : List Seg) (depth : ℕ) (x y : Tree) (w : State S) (steps a b : ℕ) (u : Value) (after : State S × ℕ) → TwoValues accesses scope depth x y (w, steps) (value.Integer a) u after → integer_in u after.0 ≡ (Ok b, after.0)
    → (n : ℕ) × IsTruth after.0.width (Holds a b) n × Gives accesses scope depth (of_two op x y) (w, suc steps) n after

-- which order of its values a comparison asks for
pub data Asks : Opcode → Ordering → Type 0 where
  for_equal : Asks opcodes.LEqual Equal
  for_greater : Asks opcodes.LGreater Greater
  for_less : Asks opcodes.LLess Less

-- a comparison of any values that are in an order tells whether it is this one, and one of others is refused as they are
abbrev pub ComparesValues : Type 0 → Opcode → Ordering → Type 0
ComparesValues S op wanted = (accesses : Accesses S) (scope : List Seg) (depth : ℕ) (x y : Tree) (w : State S) (steps : ℕ) (v u : Value) (after : State S × ℕ) → TwoValues accesses scope depth x y (w, steps) v u after
    → ((o : Ordering) → compared after.0.width (content_in after.0.objects v) (content_in after.0.objects u) ≡ Ok o → (n : ℕ) × IsTruth after.0.width (o ≡ wanted) n × Gives accesses scope depth (of_two op x y) (w, suc steps) n after)
    × ((e : Refusal) → compared after.0.width (content_in after.0.objects v) (content_in after.0.objects u) ≡ Err e → IsRefused accesses scope depth (of_two op x y) (w, suc steps) e after)
