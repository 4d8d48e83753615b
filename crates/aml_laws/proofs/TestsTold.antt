-- What LAnd, LOr, LNot and comparisons tell of their operands.
use Rattle.std.specs.Prelude.{◌≡◌, ◌⊎◌, ◌<◌, ◌≤◌, ◌-◌, ◌^◌, ◌==◌, ◌&&◌, ◌||◌, ℕ, zero, suc, List, Bool, true, false, Ok, Err, refl}
use Rattle.std.proofs.Common.{inl, inr, arith, ap, sym, ◌∙◌}
use Rattle.std.proofs.lemmas.Cmp.{ranked}
use Rattle.std.specs.declared.cmp.Ordering.{Ordering}
use Rattle.std.specs.declared.cmp.Ordering.TheVariants.{Less, Equal, Greater}
use Rattle.std.specs.Ordering.{nat_cmp}
use Rattle.ar_space.specs.declared.integer_width.IntegerWidth.{IntegerWidth}
use Rattle.ar_space.specs.declared.refusal.Refusal.{Refusal}
use Rattle.ar_space.specs.Accesses.{Accesses}
use Rattle.ar_space.specs.Change.{give, settle, go_on, ◌>>=◌}
use Rattle.ar_space.specs.Outcome.{Outcome}
use Rattle.ar_space.specs.Outcome as outcome
use Rattle.aml_path.specs.declared.segment.Seg.{Seg}
use Rattle.aml_grammar.specs.declared.opcode.Opcode.{Opcode}
use Rattle.aml_grammar.specs.declared.opcode.Opcode.TheVariants as opcodes
use Rattle.aml_grammar.specs.Tree.{Tree}
use Rattle.aml_objects.specs.Contents.{Integer, content_in}
use Rattle.aml_objects.specs.declared.value.Value.{Value}
use Rattle.aml_objects.specs.declared.value.Value.TheVariants as value
use Rattle.aml_convert.specs.Integers.{bits_of, truth}
use Rattle.aml_convert.specs.Conversions.{to_integer_of, compared}
use Rattle.aml_convert.specs.Operators.{is_true, logical_result_of, lnot, holds}
use Rattle.aml_convert.specs.declared.logic.LogicalOperator.{LogicalOperator}
use Rattle.aml_convert.specs.declared.logic.LogicalOperator.TheVariants as logical
use Rattle.aml_convert.specs.declared.logic.Comparison.{Comparison}
use Rattle.aml_convert.specs.declared.logic.Comparison.TheVariants as comparison
use Rattle.aml_world.specs.declared.values.operation_kind.Test.{Test}
use Rattle.aml_world.specs.declared.values.operation_kind.Test.TheVariants as test
use Rattle.aml_world.specs.state.State.{State}
use Rattle.aml_world.specs.state.Run.{Run, lift}
use Rattle.aml_world.specs.state.Readings.{integer_in}
use Rattle.aml_world.specs.values.Operations.{integers_tested, operated_logically, integer_lnot, lnot_in, truth_of, compared_in, result_of_test}
use Rattle.aml_meaning.specs.declared.flow.Flow.{Flow}
use Rattle.aml_meaning.specs.declared.flow.Flow.TheVariants as flow
use Rattle.aml_meaning.specs.declared.term_kind.TermKind.TheVariants as kinds
use Rattle.aml_meaning.specs.declared.term_kind.OperatorKind.TheVariants as operators
use Rattle.aml_meaning.specs.Terms.{kind_of}
use Rattle.aml_meaning.specs.Tasks.{task, operand_value, value_at, two_values}
use Rattle.aml_meaning.specs.OperatorTerms.{test_rule, lnot_rule}
use Rattle.aml_meaning.specs.Evaluation.{rule}
use Rattle.aml_meaning.specs.Meaning.{meaning}
use Rattle.aml_meaning.proofs.Agree.{not_zero}
use Rattle.aml_laws.specs.OperatorTerms.{of_one, of_two, GivesValue, Gives, IsRefused, OneInteger, TwoIntegers}
use Rattle.aml_laws.specs.TestTerms.{IsTruth, TellsOfOne, TellsOfTwo, TwoValues, ComparesIntegers, Asks, for_equal, for_greater, for_less, ComparesValues}
use Rattle.aml_laws.proofs.TreesCost.{term_begins}

-- ---- terms

module _ {S : Type 0} (accesses : Accesses S) (scope : List Seg) (depth : ℕ) (x y : Tree) (k : Test) (op : Opcode) (is : kind_of op ≡ kinds.Operator (operators.Test k)) (w : State S) (steps : ℕ) (v u : Value) (after : State S × ℕ) (h : TwoValues accesses scope depth x y (w, steps) v u after) where
  ruled : rule accesses (meaning accesses) (task scope depth (of_two op x y)) (w, steps) ≡ test_rule accesses (meaning accesses) k scope depth (of_two op x y) (w, steps)
  unfolding rule
  ruled = rw is refl

  tested_to : (r : Value) → result_of_test k v u after.0 ≡ (Ok r, after.0) → test_rule accesses (meaning accesses) k scope depth (of_two op x y) (w, steps) ≡ (Ok (flow.Value r), after)
  unfolding test_rule two_values value_at operand_value settle lift give go_on ◌>>=◌
  tested_to r e = rw (h.first, h.second, e) refl

  tested_refused : (e : Refusal) → result_of_test k v u after.0 ≡ (Err e, after.0) → test_rule accesses (meaning accesses) k scope depth (of_two op x y) (w, steps) ≡ (Err e, after)
  unfolding test_rule two_values value_at operand_value settle lift give go_on ◌>>=◌
  tested_refused e r = rw (h.first, h.second, r) refl

  pub test_gives : (r : Value) → result_of_test k v u after.0 ≡ (Ok r, after.0) → GivesValue accesses scope depth (of_two op x y) (w, suc steps) r after
  test_gives r e = (term_begins accesses (task scope depth (of_two op x y))).paid w steps ∙ (ruled ∙ tested_to r e)

  pub test_refused : (e : Refusal) → result_of_test k v u after.0 ≡ (Err e, after.0) → IsRefused accesses scope depth (of_two op x y) (w, suc steps) e after
  test_refused e r = (term_begins accesses (task scope depth (of_two op x y))).paid w steps ∙ (ruled ∙ tested_refused e r)

-- ---- LAnd, LOr and LNot

some_by_test : (a : ℕ) → is_true a ≡ true → 0 < a
some_by_test zero e = absurd (cc e)
some_by_test (suc a) e = omega arith

none_by_test : (a : ℕ) → is_true a ≡ false → 0 < a → ⊥
none_by_test zero e some = absurd (omega (arith, some))
none_by_test (suc a) e some = let so : is_true (suc a) ≡ true = rw (not_zero a) refl in let both : true ≡ false = sym so ∙ e in absurd (cc both)

pub truth_by : (width : IntegerWidth) (b : Bool) (Holds : Type 0) → (b ≡ true → Holds) → (b ≡ false → Holds → ⊥) → IsTruth width Holds (truth width b)
truth_by width true Holds so not = record { true = λ h. refl; false = λ n. absurd (n (so refl)) }
truth_by width false Holds so not = record { true = λ h. absurd (not refl h); false = λ n. refl }

both_by : (b c : Bool) → (b && c) ≡ true → (b ≡ true) × (c ≡ true)
both_by true c e = (refl, e)
both_by false c e = absurd (cc e)

both_truth : (width : IntegerWidth) (a b : ℕ) → IsTruth width ((0 < a) × (0 < b)) (logical_result_of logical.And width a b)
both_truth width a b = truth_by width (is_true a && is_true b) ((0 < a) × (0 < b)) so (not (is_true a) (is_true b) refl refl)
  where
    so : (is_true a && is_true b) ≡ true → (0 < a) × (0 < b)
    so e = let p = both_by (is_true a) (is_true b) e in (some_by_test a p.0, some_by_test b p.1)

    not : (p q : Bool) → is_true a ≡ p → is_true b ≡ q → (p && q) ≡ false → (0 < a) × (0 < b) → ⊥
    not true true e f is h = absurd (cc is)
    not true false e f is h = none_by_test b f h.1
    not false q e f is h = none_by_test a e h.0

any_truth : (width : IntegerWidth) (a b : ℕ) → IsTruth width ((0 < a) ⊎ (0 < b)) (logical_result_of logical.Or width a b)
any_truth width a b = truth_by width (is_true a || is_true b) ((0 < a) ⊎ (0 < b)) (so (is_true a) (is_true b) refl refl) (not (is_true a) (is_true b) refl refl)
  where
    so : (p q : Bool) → is_true a ≡ p → is_true b ≡ q → (p || q) ≡ true → (0 < a) ⊎ (0 < b)
    so true q e f is = inl (some_by_test a e)
    so false true e f is = inr (some_by_test b f)
    so false false e f is = absurd (cc is)

    not : (p q : Bool) → is_true a ≡ p → is_true b ≡ q → (p || q) ≡ false → (0 < a) ⊎ (0 < b) → ⊥
    not true q e f is h = absurd (cc is)
    not false true e f is h = absurd (cc is)
    not false false e f is (inl some) = none_by_test a e some
    not false false e f is (inr some) = none_by_test b f some

zero_truth : (width : IntegerWidth) (a : ℕ) → IsTruth width (a ≡ 0) (lnot width a)
zero_truth width zero = record { true = λ h. refl; false = λ n. absurd (n refl) }
zero_truth width (suc a) = record { true = λ h. absurd (omega (arith, h)); false = λ n. rw (not_zero a) refl }

module _ {S : Type 0} (w : State S) (v u : Value) (a b : ℕ) (one : integer_in v w ≡ (Ok a, w)) where
  lnot_is : lnot_in v w ≡ (Ok (value.Integer (lnot w.width a)), w)
  unfolding lnot_in integer_lnot go_on ◌>>=◌
  lnot_is = rw one refl

  logical_is : integer_in u w ≡ (Ok b, w) → (k : LogicalOperator) → operated_logically k v u w ≡ (Ok (value.Integer (logical_result_of k w.width a b)), w)
  unfolding operated_logically integers_tested go_on ◌>>=◌
  logical_is other k = rw (one, other) refl

tells_two : {S : Type 0} (k : LogicalOperator) (op : Opcode) (Holds : ℕ → ℕ → Type 0) → kind_of op ≡ kinds.Operator (operators.Test (test.Logical k)) → ((width : IntegerWidth) (a b : ℕ) → IsTruth width (Holds a b) (logical_result_of k width a b)) → TellsOfTwo S op Holds
tells_two k op Holds is so accesses scope depth x y w steps a b after h = (
  logical_result_of k after.0.width a b,
  so after.0.width a b,
  test_gives accesses scope depth x y (test.Logical k) op is w steps h.v h.u after (record { between = h.between; first = h.first; second = h.second }) (value.Integer (logical_result_of k after.0.width a b)) (logical_is after.0 h.v h.u a b h.one h.other k),
)

pub tells_both : {S : Type 0} → TellsOfTwo S opcodes.LAnd (λ a b. (0 < a) × (0 < b))
tells_both = tells_two logical.And opcodes.LAnd (λ a b. (0 < a) × (0 < b)) refl both_truth

pub tells_any : {S : Type 0} → TellsOfTwo S opcodes.LOr (λ a b. (0 < a) ⊎ (0 < b))
tells_any = tells_two logical.Or opcodes.LOr (λ a b. (0 < a) ⊎ (0 < b)) refl any_truth

module _ {S : Type 0} (accesses : Accesses S) (scope : List Seg) (depth : ℕ) (x : Tree) (w : State S) (steps a : ℕ) (after : State S × ℕ) (h : OneInteger accesses scope depth x (w, steps) a after) where
  lnot_to : rule accesses (meaning accesses) (task scope depth (of_one opcodes.LNot x)) (w, steps) ≡ (Ok (flow.Value (value.Integer (lnot after.0.width a))), after)
  unfolding rule lnot_rule value_at operand_value settle lift give go_on ◌>>=◌
  lnot_to = rw (h.gives, lnot_is after.0 h.v h.v a a h.converts) refl

  lnot_gives : Gives accesses scope depth (of_one opcodes.LNot x) (w, suc steps) (lnot after.0.width a) after
  lnot_gives = (term_begins accesses (task scope depth (of_one opcodes.LNot x))).paid w steps ∙ lnot_to

pub tells_zero : {S : Type 0} → TellsOfOne S opcodes.LNot (λ a. a ≡ 0)
tells_zero accesses scope depth x w steps a after h = (lnot after.0.width a, zero_truth after.0.width a, lnot_gives accesses scope depth x w steps a after h)

-- ---- comparisons

module _ {S : Type 0} (w : State S) (c : Comparison) (v u : Value) where
  compared_so : (r : Outcome Ordering) → compared w.width (content_in w.objects v) (content_in w.objects u) ≡ r → compared_in c v u w ≡ (truth_of w.width c r, w)
  unfolding compared_in
  compared_so r e = ap (λ r. (truth_of w.width c r, w)) e

compares : {S : Type 0} (c : Comparison) (op : Opcode) (wanted : Ordering) → kind_of op ≡ kinds.Operator (operators.Test (test.Compare c)) → ((width : IntegerWidth) (o : Ordering) → IsTruth width (o ≡ wanted) (truth width (holds c o))) → ComparesValues S op wanted
compares c op wanted is so accesses scope depth x y w steps v u after h = (
  λ o e. (truth after.0.width (holds c o), so after.0.width o, test_gives accesses scope depth x y (test.Compare c) op is w steps v u after h (value.Integer (truth after.0.width (holds c o))) (compared_so after.0 c v u (Ok o) e)),
  λ e r. test_refused accesses scope depth x y (test.Compare c) op is w steps v u after h e (compared_so after.0 c v u (Err e) r),
)

asks_equal : (width : IntegerWidth) (o : Ordering) → IsTruth width (o ≡ Equal) (truth width (holds comparison.Equal o))
asks_equal width Less = record { true = λ h. absurd (cc h); false = λ n. refl }
asks_equal width Equal = record { true = λ h. refl; false = λ n. absurd (n refl) }
asks_equal width Greater = record { true = λ h. absurd (cc h); false = λ n. refl }

asks_greater : (width : IntegerWidth) (o : Ordering) → IsTruth width (o ≡ Greater) (truth width (holds comparison.Greater o))
asks_greater width Less = record { true = λ h. absurd (cc h); false = λ n. refl }
asks_greater width Equal = record { true = λ h. absurd (cc h); false = λ n. refl }
asks_greater width Greater = record { true = λ h. refl; false = λ n. absurd (n refl) }

asks_less : (width : IntegerWidth) (o : Ordering) → IsTruth width (o ≡ Less) (truth width (holds comparison.Less o))
asks_less width Less = record { true = λ h. refl; false = λ n. absurd (n refl) }
asks_less width Equal = record { true = λ h. absurd (cc h); false = λ n. refl }
asks_less width Greater = record { true = λ h. absurd (cc h); false = λ n. refl }

pub compares_values : {S : Type 0} (op : Opcode) (wanted : Ordering) → Asks op wanted → ComparesValues S op wanted
compares_values _ _ for_equal = compares comparison.Equal opcodes.LEqual Equal refl asks_equal
compares_values _ _ for_greater = compares comparison.Greater opcodes.LGreater Greater refl asks_greater
compares_values _ _ for_less = compares comparison.Less opcodes.LLess Less refl asks_less

-- ---- integers

module _ {S : Type 0} (w : State S) (b : ℕ) (u : Value) where
  pub converted_so : integer_in u w ≡ (Ok b, w) → to_integer_of w.width (content_in w.objects u) ≡ Ok b
  unfolding integer_in
  converted_so e = ap (λ (m : Outcome ℕ × State S). m.0) e

  integers_compared : (a : ℕ) → integer_in u w ≡ (Ok b, w) → compared w.width (content_in w.objects (value.Integer a)) (content_in w.objects u) ≡ Ok (nat_cmp a b)
  unfolding compared outcome.◌>>=◌
  integers_compared a e = rw (converted_so e) refl

compares_two : {S : Type 0} (c : Comparison) (op : Opcode) (Holds : ℕ → ℕ → Type 0) → kind_of op ≡ kinds.Operator (operators.Test (test.Compare c)) → ((width : IntegerWidth) (a b : ℕ) → IsTruth width (Holds a b) (truth width (holds c (nat_cmp a b)))) → ComparesIntegers S op Holds
compares_two c op Holds is so accesses scope depth x y w steps a b u after h e = (
  truth after.0.width (holds c (nat_cmp a b)),
  so after.0.width a b,
  test_gives accesses scope depth x y (test.Compare c) op is w steps (value.Integer a) u after h (value.Integer (truth after.0.width (holds c (nat_cmp a b)))) (compared_so after.0 c (value.Integer a) u (Ok (nat_cmp a b)) (integers_compared after.0 b u a e)),
)

equal_truth : (width : IntegerWidth) (a b : ℕ) → IsTruth width (a ≡ b) (truth width (holds comparison.Equal (nat_cmp a b)))
equal_truth width a b = by (nat_cmp a b) refl
  where
    by : (o : Ordering) → o ≡ nat_cmp a b → IsTruth width (a ≡ b) (truth width (holds comparison.Equal o))
    by Less e = record { true = λ h. absurd (omega (arith, ranked a b Less e, h)); false = λ n. refl }
    by Equal e = record { true = λ h. refl; false = λ n. absurd (n (ranked a b Equal e)) }
    by Greater e = record { true = λ h. absurd (omega (arith, ranked a b Greater e, h)); false = λ n. refl }

greater_truth : (width : IntegerWidth) (a b : ℕ) → IsTruth width (b < a) (truth width (holds comparison.Greater (nat_cmp a b)))
greater_truth width a b = by (nat_cmp a b) refl
  where
    by : (o : Ordering) → o ≡ nat_cmp a b → IsTruth width (b < a) (truth width (holds comparison.Greater o))
    by Less e = record { true = λ h. absurd (omega (arith, ranked a b Less e, h)); false = λ n. refl }
    by Equal e = record { true = λ h. absurd (omega (arith, ranked a b Equal e, h)); false = λ n. refl }
    by Greater e = record { true = λ h. refl; false = λ n. absurd (n (ranked a b Greater e)) }

less_truth : (width : IntegerWidth) (a b : ℕ) → IsTruth width (a < b) (truth width (holds comparison.Less (nat_cmp a b)))
less_truth width a b = by (nat_cmp a b) refl
  where
    by : (o : Ordering) → o ≡ nat_cmp a b → IsTruth width (a < b) (truth width (holds comparison.Less o))
    by Less e = record { true = λ h. refl; false = λ n. absurd (n (ranked a b Less e)) }
    by Equal e = record { true = λ h. absurd (omega (arith, ranked a b Equal e, h)); false = λ n. refl }
    by Greater e = record { true = λ h. absurd (omega (arith, ranked a b Greater e, h)); false = λ n. refl }

pub tells_equal : {S : Type 0} → ComparesIntegers S opcodes.LEqual (λ a b. a ≡ b)
tells_equal = compares_two comparison.Equal opcodes.LEqual (λ a b. a ≡ b) refl equal_truth

pub tells_greater : {S : Type 0} → ComparesIntegers S opcodes.LGreater (λ a b. b < a)
tells_greater = compares_two comparison.Greater opcodes.LGreater (λ a b. b < a) refl greater_truth

pub tells_less : {S : Type 0} → ComparesIntegers S opcodes.LLess (λ a b. a < b)
tells_less = compares_two comparison.Less opcodes.LLess (λ a b. a < b) refl less_truth
