-- What operators on integers give, by the integers that their operands convert to, and that they store it to their targets.
use Rattle.std.specs.Prelude.{◌≡◌, ℕ, suc, List, Some, Ok, Err, refl}
use Rattle.std.proofs.Common.{ap, ◌∙◌}
use Rattle.ar_space.specs.declared.integer_width.IntegerWidth.{IntegerWidth}
use Rattle.ar_space.specs.declared.refusal.Refusal.{Refusal}
use Rattle.ar_space.specs.Accesses.{Accesses}
use Rattle.ar_space.specs.Outcome.{Outcome, seen}
use Rattle.ar_space.specs.Change.{Change, give, settle, go_on, ◌>>=◌}
use Rattle.aml_path.specs.declared.segment.Seg.{Seg}
use Rattle.aml_grammar.specs.declared.opcode.Opcode.{Opcode}
use Rattle.aml_grammar.specs.declared.opcode.TermCode.TheVariants as codes
use Rattle.aml_grammar.specs.Apart.{operand_of}
use Rattle.aml_grammar.specs.Tree.{Tree, Part}
use Rattle.aml_objects.specs.declared.value.Slot.{Slot}
use Rattle.aml_objects.specs.declared.value.Value.{Value}
use Rattle.aml_objects.specs.declared.value.Value.TheVariants as value
use Rattle.aml_convert.specs.declared.operators.BinaryOperator.{BinaryOperator}
use Rattle.aml_convert.specs.declared.operators.UnaryOperator.{UnaryOperator}
use Rattle.aml_convert.specs.Operators.{result_of, unary_result_of}
use Rattle.aml_world.specs.declared.values.store_target.StoreTarget.{StoreTarget}
use Rattle.aml_world.specs.declared.values.store_target.Stored.TheVariants as store
use Rattle.aml_world.specs.declared.values.operation_kind.TwoOperands.{TwoOperands}
use Rattle.aml_world.specs.declared.values.operation_kind.TwoOperands.TheVariants as two
use Rattle.aml_world.specs.declared.values.operation_kind.OneOperand.{OneOperand}
use Rattle.aml_world.specs.declared.values.operation_kind.OneOperand.TheVariants as one
use Rattle.aml_world.specs.state.State.{State}
use Rattle.aml_world.specs.state.Run.{Run, lift}
use Rattle.aml_world.specs.values.Stores.{stored}
use Rattle.aml_world.specs.state.Readings.{integer_in, path_found}
use Rattle.aml_world.specs.values.Operations.{as_integer, integers_operated, operated, integer_operated, operated_on_one, result_of_two, result_of_one}
use Rattle.aml_world.specs.values.StoreTargets.{target_named}
use Rattle.aml_meaning.specs.declared.flow.Flow.{Flow}
use Rattle.aml_meaning.specs.declared.flow.Flow.TheVariants as flow
use Rattle.aml_meaning.specs.declared.term_kind.TargetKind.TheVariants as target_kinds
use Rattle.aml_meaning.specs.declared.term_kind.TermKind.TheVariants as kinds
use Rattle.aml_meaning.specs.declared.term_kind.OperatorKind.TheVariants as operators
use Rattle.aml_meaning.specs.Terms.{kind_of, target_kind}
use Rattle.aml_meaning.specs.Tasks.{task, operand_value, value_at, two_values}
use Rattle.aml_meaning.specs.OperatorTerms.{two_rule, one_rule}
use Rattle.aml_meaning.specs.TargetTerms.{name_target, target_of, target_at, targeted}
use Rattle.aml_meaning.specs.FieldCalls.{stored_to}
use Rattle.aml_meaning.specs.Evaluation.{rule}
use Rattle.aml_meaning.specs.Meaning.{meaning}
use Rattle.aml_laws.specs.OperatorTerms.{of_opcode, one_to, two_to, NamesSlot, local0, local1, local2, local3, local4, local5, local6, local7, argument0, argument1, argument2, argument3, argument4, argument5, argument6, NamesTarget, nothing, debug, slot, named, StoresTo, GivesValue, Gives, IsRefused, OneInteger, TwoIntegers, ComputesOfOne, ComputesOfTwo}
use Rattle.aml_laws.proofs.TreesCost.{term_begins}

-- ---- targets

pub slot_is_target : (op : Opcode) (s : Slot) → NamesSlot op s → target_kind (codes.Opcode op) ≡ target_kinds.Slot s
slot_is_target _ _ local0 = refl
slot_is_target _ _ local1 = refl
slot_is_target _ _ local2 = refl
slot_is_target _ _ local3 = refl
slot_is_target _ _ local4 = refl
slot_is_target _ _ local5 = refl
slot_is_target _ _ local6 = refl
slot_is_target _ _ local7 = refl
slot_is_target _ _ argument0 = refl
slot_is_target _ _ argument1 = refl
slot_is_target _ _ argument2 = refl
slot_is_target _ _ argument3 = refl
slot_is_target _ _ argument4 = refl
slot_is_target _ _ argument5 = refl
slot_is_target _ _ argument6 = refl

module _ {S : Type 0} (accesses : Accesses S) (scope : List Seg) (depth : ℕ) (t : Tree) (i : ℕ) (w : State S) (steps : ℕ) where
  pub target_is : (p : Part) (target : StoreTarget) → NamesTarget scope w p target → operand_of t i ≡ Some p → target_at (meaning accesses) scope depth t i (w, steps) ≡ (Ok target, (w, steps))
  unfolding target_of name_target target_named path_found settle lift give go_on ◌>>=◌
  target_is _ _ nothing is = rw is refl
  target_is _ _ debug is = rw is refl
  target_is _ _ (slot op s names) is = rw (is, slot_is_target op s names) refl
  target_is _ _ (named n path e finds) is = rw (is, is, finds) refl

  pub stored_at : (p : Part) (v : Value) (end : State S) → StoresTo scope p v w end → operand_of t i ≡ Some p → targeted accesses (meaning accesses) scope depth t i v (w, steps) ≡ (Ok (flow.Value v), (end, steps))
  unfolding targeted stored_to settle lift give go_on ◌>>=◌
  stored_at p v end h is = rw (target_is p h.target h.names is, h.is) refl

-- ---- operators with two operands

module _ {S : Type 0} (accesses : Accesses S) (scope : List Seg) (depth : ℕ) (x y : Tree) (p : Part) (k : TwoOperands) (op : Opcode) (is : kind_of op ≡ kinds.Operator (operators.Two k)) (w : State S) (steps : ℕ) (between after : State S × ℕ) (v u : Value)
    (first : GivesValue accesses scope depth x (w, steps) v between) (second : GivesValue accesses scope depth y between u after) where
  ruled : rule accesses (meaning accesses) (task scope depth (two_to op x y p)) (w, steps) ≡ two_rule accesses (meaning accesses) k scope depth (two_to op x y p) (w, steps)
  unfolding rule
  ruled = rw is refl

  formed : two_rule accesses (meaning accesses) k scope depth (two_to op x y p) (w, steps) ≡ go_on (result_of_two k v u after.0).0 ((result_of_two k v u after.0).1, after.1) (λ r. targeted accesses (meaning accesses) scope depth (two_to op x y p) 2 r)
  unfolding two_rule two_values value_at operand_value settle lift give go_on ◌>>=◌
  formed = rw (first, second) refl

  two_formed : meaning accesses (task scope depth (two_to op x y p)) (w, suc steps) ≡ go_on (result_of_two k v u after.0).0 ((result_of_two k v u after.0).1, after.1) (λ r. targeted accesses (meaning accesses) scope depth (two_to op x y p) 2 r)
  two_formed = (term_begins accesses (task scope depth (two_to op x y p))).paid w steps ∙ (ruled ∙ formed)

  pub two_gives : (r : Value) (end final : State S) → result_of_two k v u after.0 ≡ (Ok r, end) → StoresTo scope p r end final → GivesValue accesses scope depth (two_to op x y p) (w, suc steps) r (final, after.1)
  unfolding go_on
  two_gives r end final e h = two_formed ∙ (ap (λ (m : Outcome Value × State S). go_on m.0 (m.1, after.1) (λ r. targeted accesses (meaning accesses) scope depth (two_to op x y p) 2 r)) e ∙ stored_at accesses scope depth (two_to op x y p) 2 end after.1 p r final h refl)

  pub two_refused : (e : Refusal) (end : State S) → result_of_two k v u after.0 ≡ (Err e, end) → IsRefused accesses scope depth (two_to op x y p) (w, suc steps) e (end, after.1)
  unfolding go_on
  two_refused e end r = two_formed ∙ ap (λ (m : Outcome Value × State S). go_on m.0 (m.1, after.1) (λ r. targeted accesses (meaning accesses) scope depth (two_to op x y p) 2 r)) r

-- ---- operators with one operand

module _ {S : Type 0} (accesses : Accesses S) (scope : List Seg) (depth : ℕ) (x : Tree) (p : Part) (k : OneOperand) (op : Opcode) (is : kind_of op ≡ kinds.Operator (operators.One k)) (w : State S) (steps : ℕ) (after : State S × ℕ) (v : Value)
    (gives : GivesValue accesses scope depth x (w, steps) v after) where
  ruled_by_one : rule accesses (meaning accesses) (task scope depth (one_to op x p)) (w, steps) ≡ one_rule accesses (meaning accesses) k scope depth (one_to op x p) (w, steps)
  unfolding rule
  ruled_by_one = rw is refl

  formed_of_one : one_rule accesses (meaning accesses) k scope depth (one_to op x p) (w, steps) ≡ go_on (result_of_one k v after.0).0 ((result_of_one k v after.0).1, after.1) (λ r. targeted accesses (meaning accesses) scope depth (one_to op x p) 1 r)
  unfolding one_rule value_at operand_value settle lift give go_on ◌>>=◌
  formed_of_one = rw gives refl

  pub one_gives : (r : Value) (end final : State S) → result_of_one k v after.0 ≡ (Ok r, end) → StoresTo scope p r end final → GivesValue accesses scope depth (one_to op x p) (w, suc steps) r (final, after.1)
  unfolding go_on
  one_gives r end final e h =
      (term_begins accesses (task scope depth (one_to op x p))).paid w steps
      ∙ (ruled_by_one ∙ (formed_of_one ∙ (ap (λ (m : Outcome Value × State S). go_on m.0 (m.1, after.1) (λ r. targeted accesses (meaning accesses) scope depth (one_to op x p) 1 r)) e ∙ stored_at accesses scope depth (one_to op x p) 1 end after.1 p r final h refl)))

-- ---- operators on integers

module _ {S : Type 0} (w : State S) (v : Value) (a : ℕ) (one : integer_in v w ≡ (Ok a, w)) where
  pub operated_on_one_is : (op : UnaryOperator) → operated_on_one op v w ≡ (Ok (value.Integer (unary_result_of op w.width a)), w)
  unfolding operated_on_one integer_operated go_on ◌>>=◌
  operated_on_one_is op = rw one refl

  pub operated_is : (u : Value) (b : ℕ) → integer_in u w ≡ (Ok b, w) → (op : BinaryOperator) → operated op v u w ≡ (as_integer (result_of op w.width a b), w)
  unfolding operated integers_operated go_on ◌>>=◌
  operated_is u b other op = rw (one, other) refl

module _ {S : Type 0} (accesses : Accesses S) (scope : List Seg) (depth : ℕ) (x y : Tree) (w : State S) (steps a b : ℕ) (after : State S × ℕ) (h : TwoIntegers accesses scope depth x y (w, steps) a b after) where
  operated_so : (k : BinaryOperator) (r : Outcome ℕ) → result_of k after.0.width a b ≡ r → operated k h.v h.u after.0 ≡ (as_integer r, after.0)
  operated_so k r e = operated_is after.0 h.v a h.one h.u b h.other k ∙ ap (λ (r : Outcome ℕ). (as_integer r, after.0)) e

  -- an operator that answers, and one that is refused
  pub operator_gives : (k : BinaryOperator) (op : Opcode) (n : ℕ) → kind_of op ≡ kinds.Operator (operators.Two (two.Integers k)) → result_of k after.0.width a b ≡ Ok n → (p : Part) (end : State S) → StoresTo scope p (value.Integer n) after.0 end
      → Gives accesses scope depth (two_to op x y p) (w, suc steps) n (end, after.1)
  operator_gives k op n is e p end s = two_gives accesses scope depth x y p (two.Integers k) op is w steps h.between after h.v h.u h.first h.second (value.Integer n) after.0 end (operated_so k (Ok n) e) s

  pub operator_refused : (k : BinaryOperator) (op : Opcode) (e : Refusal) → kind_of op ≡ kinds.Operator (operators.Two (two.Integers k)) → result_of k after.0.width a b ≡ Err e → (p : Part)
      → IsRefused accesses scope depth (two_to op x y p) (w, suc steps) e after
  operator_refused k op e is r p = two_refused accesses scope depth x y p (two.Integers k) op is w steps h.between after h.v h.u h.first h.second e after.0 (operated_so k (Err e) r)

-- an operator of which every result is known computes it
pub computes_two : {S : Type 0} (k : BinaryOperator) (op : Opcode) (f : IntegerWidth → ℕ → ℕ → ℕ) (Is : IntegerWidth → ℕ → ℕ → ℕ → Type 0) → kind_of op ≡ kinds.Operator (operators.Two (two.Integers k))
    → ((width : IntegerWidth) (a b : ℕ) → result_of k width a b ≡ Ok (f width a b)) → ((width : IntegerWidth) (a b : ℕ) → Is width a b (f width a b)) → ComputesOfTwo S op Is
computes_two k op f Is kind is so accesses scope depth x y w steps a b after h =
    (f after.0.width a b, so after.0.width a b, operator_gives accesses scope depth x y w steps a b after h k op (f after.0.width a b) kind (is after.0.width a b))

pub computes_one : {S : Type 0} (k : UnaryOperator) (op : Opcode) (Is : IntegerWidth → ℕ → ℕ → Type 0) → kind_of op ≡ kinds.Operator (operators.One (one.Integer k)) → ((width : IntegerWidth) (a : ℕ) → Is width a (unary_result_of k width a)) → ComputesOfOne S op Is
computes_one k op Is kind so accesses scope depth x w steps a after h = (
  unary_result_of k after.0.width a,
  so after.0.width a,
  λ p end s. one_gives accesses scope depth x p (one.Integer k) op kind w steps after h.v h.gives (value.Integer (unary_result_of k after.0.width a)) after.0 end (operated_on_one_is after.0 h.v a h.converts k) s,
)
