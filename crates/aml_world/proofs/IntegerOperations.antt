-- Operators whose operands are integers.
use Rattle.std.proofs.Common.{◌≡◌, ℕ, ◌+◌, Ok, refl, ap, sym}
use Rattle.std.specs.Ordering.{nat_cmp}
use Rattle.ar_space.specs.Outcome.{Outcome, seen}
use Rattle.ar_space.specs.Outcome as outcome
use Rattle.ar_space.specs.Change.{Does, go_on, ◌>>=◌}
use Rattle.ar_space.proofs.Changes.{changing}
use Rattle.aml_objects.specs.declared.value.Value.{Value}
use Rattle.aml_objects.specs.declared.value.Value.TheVariants.{Integer}
use Rattle.aml_convert.specs.Conversions.{compared}
use Rattle.aml_convert.specs.Integers.{truncated, truth}
use Rattle.aml_convert.specs.Operators.{result_of, logical_result_of, lnot, holds}
use Rattle.aml_convert.specs.declared.operators.BinaryOperator.{BinaryOperator}
use Rattle.aml_convert.specs.declared.operators.BinaryOperator.TheVariants.{Subtract}
use Rattle.aml_convert.specs.declared.logic.LogicalOperator.{LogicalOperator}
use Rattle.aml_convert.specs.declared.logic.Comparison.{Comparison}
use Rattle.aml_world.specs.declared.values.operation_kind.TwoOperands.TheVariants as two
use Rattle.aml_world.specs.declared.values.operation_kind.Test.TheVariants as tests
use Rattle.aml_world.specs.state.State.{State}
use Rattle.aml_world.specs.state.Readings.{integer_in}
use Rattle.aml_world.specs.values.Operations.{operated, integers_operated, operated_logically, integers_tested, lnot_in, integer_lnot, incremented, decremented, compared_in, result_of_two, result_of_test}

module _ {S : Type 0} {w : State S} where
  -- an integer is wanted where one is
  pub does_integer : (n : ℕ) → Does (Ok n) w (integer_in (Integer n)) w
  unfolding integer_in
  does_integer n = record { is = λ _. refl }

  pub does_operated : (op : BinaryOperator) (x y : ℕ) (r : Outcome ℕ) → r ≡ result_of op w.width x y → Does (seen Integer r) w (operated op (Integer x) (Integer y)) w
  unfolding operated integer_in integers_operated ◌>>=◌ go_on
  does_operated op x y r is = record { is = λ _. ap (λ (o : Outcome ℕ). (seen Integer o, w)) (sym is) }

  -- what an operator gives of two integers that were converted
  pub does_integers : (op : BinaryOperator) (x y : ℕ) (r : Outcome Value) → Does r w (result_of_two (two.Integers op) (Integer x) (Integer y)) w → Does r w (integers_operated op x y) w
  unfolding operated integer_in integers_operated ◌>>=◌ go_on
  does_integers op x y r h = record { is = h.is }

  -- what a test or LNot gives of integers that were converted
  pub does_tests : (op : LogicalOperator) (x y : ℕ) (r : Outcome Value) → Does r w (result_of_test (tests.Logical op) (Integer x) (Integer y)) w → Does r w (integers_tested op x y) w
  unfolding operated_logically integer_in integers_tested ◌>>=◌ go_on
  does_tests op x y r h = record { is = h.is }

  pub does_not : (x : ℕ) (r : Outcome Value) → Does r w (lnot_in (Integer x)) w → Does r w (integer_lnot x) w
  unfolding lnot_in integer_in integer_lnot ◌>>=◌ go_on
  does_not x r h = record { is = h.is }

  pub does_tested : (op : LogicalOperator) (x y n : ℕ) → n ≡ logical_result_of op w.width x y → Does (Ok (Integer n)) w (operated_logically op (Integer x) (Integer y)) w
  unfolding operated_logically integer_in integers_tested ◌>>=◌ go_on
  does_tested op x y n is = record { is = λ _. rw (← is) refl }

  pub does_compared : (c : Comparison) (x y n : ℕ) → n ≡ truth w.width (holds c (nat_cmp x y)) → Does (Ok (Integer n)) w (compared_in c (Integer x) (Integer y)) w
  unfolding compared_in compared outcome.◌>>=◌
  does_compared c x y n is = record { is = λ _. rw (← is) refl }

  pub does_lnot : (x n : ℕ) → n ≡ lnot w.width x → Does (Ok (Integer n)) w (lnot_in (Integer x)) w
  unfolding lnot_in integer_in integer_lnot ◌>>=◌ go_on
  does_lnot x n is = record { is = λ _. rw (← is) refl }

  pub does_increment : (x n : ℕ) → n ≡ truncated w.width (x + 1) → Does (Ok (Integer n)) w (incremented x) w
  unfolding incremented
  does_increment x n is = record { is = λ _. rw (← is) refl }

  pub does_decrement : (x n : ℕ) → result_of Subtract w.width x 1 ≡ Ok n → Does (Ok (Integer n)) w (decremented x) w
  unfolding decremented
  does_decrement x n is = record { is = λ _. ap (λ (o : Outcome ℕ). (seen Integer o, w)) is }

pub ruleset integers = (does_integer, does_operated, does_tested, does_compared, does_lnot, does_increment, does_decrement)

pub ruleset operating = (changing, does_integers, does_tests, does_not)
