-- Operators on integers are refused where an operand doesn't convert.
use Rattle.std.specs.Prelude.{◌≡◌, ℕ, suc, List, Ok, Err, refl}
use Rattle.std.proofs.Common.{◌∙◌}
use Rattle.ar_space.specs.declared.refusal.Refusal.{Refusal}
use Rattle.ar_space.specs.Accesses.{Accesses}
use Rattle.ar_space.specs.Change.{give, settle, go_on, ◌>>=◌}
use Rattle.aml_path.specs.declared.segment.Seg.{Seg}
use Rattle.aml_grammar.specs.declared.opcode.Opcode.{Opcode}
use Rattle.aml_grammar.specs.declared.opcode.Opcode.TheVariants as opcodes
use Rattle.aml_grammar.specs.Tree.{Tree, Part}
use Rattle.aml_objects.specs.declared.value.Value.{Value}
use Rattle.aml_convert.specs.declared.operators.BinaryOperator.{BinaryOperator}
use Rattle.aml_convert.specs.declared.operators.BinaryOperator.TheVariants as binary
use Rattle.aml_convert.specs.declared.logic.LogicalOperator.{LogicalOperator}
use Rattle.aml_convert.specs.declared.logic.LogicalOperator.TheVariants as logical
use Rattle.aml_world.specs.declared.values.operation_kind.Test.TheVariants as tests
use Rattle.aml_world.specs.declared.values.operation_kind.TwoOperands.TheVariants as two
use Rattle.aml_world.specs.state.State.{State}
use Rattle.aml_world.specs.state.Run.{lift}
use Rattle.aml_world.specs.state.Readings.{integer_in}
use Rattle.aml_world.specs.values.Operations.{operated, divided_in, operated_logically}
use Rattle.aml_meaning.specs.declared.term_kind.TermKind.TheVariants as kinds
use Rattle.aml_meaning.specs.declared.term_kind.OperatorKind.TheVariants as operators
use Rattle.aml_meaning.specs.Terms.{kind_of}
use Rattle.aml_meaning.specs.Tasks.{task, operand_value, value_at, two_values}
use Rattle.aml_meaning.specs.OperatorTerms.{divide_rule, test_rule}
use Rattle.aml_meaning.specs.Evaluation.{rule}
use Rattle.aml_meaning.specs.Meaning.{meaning}
use Rattle.aml_laws.specs.OperatorTerms.{of_two, two_to, divide, IsRefused}
use Rattle.aml_laws.specs.TestTerms.{TwoValues}
use Rattle.aml_laws.specs.IntegersOfValues.{TakesIntegers, of_add, of_subtract, of_multiply, of_mod, of_and, of_nand, of_or, of_nor, of_xor, of_shift_left, of_shift_right}
use Rattle.aml_laws.proofs.OperatorsComputed.{two_refused}
use Rattle.aml_laws.proofs.TreesCost.{term_begins}

abbrev pub IsKind : Opcode → BinaryOperator → Type 0
IsKind op k = kind_of op ≡ kinds.Operator (operators.Two (two.Integers k))

pub kind_taken : (op : Opcode) → TakesIntegers op → (k : BinaryOperator) × IsKind op k
kind_taken _ of_add = (binary.Add, refl)
kind_taken _ of_subtract = (binary.Subtract, refl)
kind_taken _ of_multiply = (binary.Multiply, refl)
kind_taken _ of_mod = (binary.Mod, refl)
kind_taken _ of_and = (binary.And, refl)
kind_taken _ of_nand = (binary.Nand, refl)
kind_taken _ of_or = (binary.Or, refl)
kind_taken _ of_nor = (binary.Nor, refl)
kind_taken _ of_xor = (binary.Xor, refl)
kind_taken _ of_shift_left = (binary.ShiftLeft, refl)
kind_taken _ of_shift_right = (binary.ShiftRight, refl)

module _ {S : Type 0} (w : State S) (k : BinaryOperator) (v u : Value) (e : Refusal) where
  first_refused : integer_in v w ≡ (Err e, w) → operated k v u w ≡ (Err e, w)
  unfolding operated go_on ◌>>=◌
  first_refused is = rw is refl

  second_refused : (a : ℕ) → integer_in v w ≡ (Ok a, w) → integer_in u w ≡ (Err e, w) → operated k v u w ≡ (Err e, w)
  unfolding operated go_on ◌>>=◌
  second_refused a one is = rw (one, is) refl

module _ {S : Type 0} (accesses : Accesses S) (scope : List Seg) (depth : ℕ) (op : Opcode) (x y : Tree) (p : Part) (w : State S) (steps : ℕ) (v u : Value) (after : State S × ℕ) where
  pub first_operand_refused : (e : Refusal) → TakesIntegers op → TwoValues accesses scope depth x y (w, steps) v u after → integer_in v after.0 ≡ (Err e, after.0) → IsRefused accesses scope depth (two_to op x y p) (w, suc steps) e after
  first_operand_refused e takes h is = let k = kind_taken op takes in two_refused accesses scope depth x y p (two.Integers k.0) op k.1 w steps h.between after v u h.first h.second e after.0 (first_refused after.0 k.0 v u e is)

  pub second_operand_refused : (e : Refusal) (a : ℕ) → TakesIntegers op → TwoValues accesses scope depth x y (w, steps) v u after → integer_in v after.0 ≡ (Ok a, after.0) → integer_in u after.0 ≡ (Err e, after.0) → IsRefused accesses scope depth (two_to op x y p) (w, suc steps) e after
  second_operand_refused e a takes h one is = let k = kind_taken op takes in two_refused accesses scope depth x y p (two.Integers k.0) op k.1 w steps h.between after v u h.first h.second e after.0 (second_refused after.0 k.0 v u e a one is)

-- ---- Divide, LAnd and LOr

module _ {S : Type 0} (accesses : Accesses S) (scope : List Seg) (depth : ℕ) (x y : Tree) (w : State S) (steps : ℕ) (v u : Value) (after : State S × ℕ) (h : TwoValues accesses scope depth x y (w, steps) v u after) (e : Refusal) where
  division_so : (p q : Part) → divided_in v u after.0 ≡ (Err e, after.0) → rule accesses (meaning accesses) (task scope depth (divide x y p q)) (w, steps) ≡ (Err e, after)
  unfolding rule divide_rule two_values value_at operand_value settle lift give go_on ◌>>=◌
  division_so p q is = rw (h.first, h.second, is) refl

  test_so : (k : LogicalOperator) (op : Opcode) → kind_of op ≡ kinds.Operator (operators.Test (tests.Logical k)) → operated_logically k v u after.0 ≡ (Err e, after.0) → rule accesses (meaning accesses) (task scope depth (of_two op x y)) (w, steps) ≡ (Err e, after)
  unfolding rule test_rule two_values value_at operand_value settle lift give go_on ◌>>=◌
  test_so k op kind is = rw (kind, h.first, h.second, is) refl

  abbrev AllRefused : Part → Part → Type 0
  AllRefused p q = IsRefused accesses scope depth (divide x y p q) (w, suc steps) e after × IsRefused accesses scope depth (of_two opcodes.LAnd x y) (w, suc steps) e after × IsRefused accesses scope depth (of_two opcodes.LOr x y) (w, suc steps) e after

  all_refused : (p q : Part) → divided_in v u after.0 ≡ (Err e, after.0) → ((k : LogicalOperator) → operated_logically k v u after.0 ≡ (Err e, after.0)) → AllRefused p q
  all_refused p q one other = (
    (term_begins accesses (task scope depth (divide x y p q))).paid w steps ∙ division_so p q one,
    (term_begins accesses (task scope depth (of_two opcodes.LAnd x y))).paid w steps ∙ test_so logical.And opcodes.LAnd refl (other logical.And),
    (term_begins accesses (task scope depth (of_two opcodes.LOr x y))).paid w steps ∙ test_so logical.Or opcodes.LOr refl (other logical.Or),
  )

  undivided : integer_in v after.0 ≡ (Err e, after.0) → divided_in v u after.0 ≡ (Err e, after.0)
  unfolding divided_in go_on ◌>>=◌
  undivided is = rw is refl

  untested : (k : LogicalOperator) → integer_in v after.0 ≡ (Err e, after.0) → operated_logically k v u after.0 ≡ (Err e, after.0)
  unfolding operated_logically go_on ◌>>=◌
  untested k is = rw is refl

  pub first_of_others : integer_in v after.0 ≡ (Err e, after.0) → (p q : Part) → AllRefused p q
  first_of_others is p q = all_refused p q (undivided is) (λ k. untested k is)

  undivided_by : (a : ℕ) → integer_in v after.0 ≡ (Ok a, after.0) → integer_in u after.0 ≡ (Err e, after.0) → divided_in v u after.0 ≡ (Err e, after.0)
  unfolding divided_in go_on ◌>>=◌
  undivided_by a one is = rw (one, is) refl

  untested_with : (k : LogicalOperator) (a : ℕ) → integer_in v after.0 ≡ (Ok a, after.0) → integer_in u after.0 ≡ (Err e, after.0) → operated_logically k v u after.0 ≡ (Err e, after.0)
  unfolding operated_logically go_on ◌>>=◌
  untested_with k a one is = rw (one, is) refl

  pub second_of_others : (a : ℕ) → integer_in v after.0 ≡ (Ok a, after.0) → integer_in u after.0 ≡ (Err e, after.0) → (p q : Part) → AllRefused p q
  second_of_others a one is p q = all_refused p q (undivided_by a one is) (λ k. untested_with k a one is)
