-- Terms that have a value: operators, stores, and what is asked of objects (ACPI 6.5, 19.6). Operands are evaluated first, then the
-- value is formed, and then it is stored to the targets.
use Rattle.std.specs.Prelude.{ℕ, List, Option, Some, None}
use Rattle.ar_space.specs.Accesses.{Accesses}
use Rattle.ar_space.specs.Change.{give, settle, ◌>>=◌}
use Rattle.aml_path.specs.declared.segment.Seg.{Seg}
use Rattle.aml_grammar.specs.Tree.{Tree, Part, null, name, number, bytes, inner, list}
use Rattle.aml_grammar.specs.Apart.{code_of, operand_of, name_of}
use Rattle.aml_objects.specs.declared.value.Value.{Value}
use Rattle.aml_objects.specs.declared.value.Value.TheVariants as value
use Rattle.aml_world.specs.declared.values.object_type.Referent.{Referent}
use Rattle.aml_world.specs.declared.values.operation_kind.OneOperand.{OneOperand}
use Rattle.aml_world.specs.declared.values.operation_kind.TwoOperands.{TwoOperands}
use Rattle.aml_world.specs.declared.values.operation_kind.Test.{Test}
use Rattle.aml_world.specs.declared.values.operation_kind.Count.{Count}
use Rattle.aml_objects.specs.declared.value.Reference.{Reference}
use Rattle.aml_objects.specs.declared.value.Slot.{Slot}
use Rattle.aml_world.specs.state.Run.{Run, lift}
use Rattle.aml_world.specs.state.Readings.{integer_kept}
use Rattle.aml_world.specs.values.StoreTargets.{slot_read, dereferenced, target_read, reference_of, if_initialized, reference_if_found, value_followed, followed, most_references, target_referent, reference_in}
use Rattle.aml_world.specs.values.Stores.{copied_to}
use Rattle.aml_world.specs.state.Mutexes.{acquired_at}
use Rattle.aml_world.specs.values.Operations.{divided_in, lnot_in, size_in, type_of_referent, type_number, result_of_two, result_of_one, result_of_test, counted_by}
use Rattle.aml_meaning.specs.declared.flow.Flow.{Flow}
use Rattle.aml_meaning.specs.declared.flow.Flow.TheVariants as flow
use Rattle.aml_meaning.specs.declared.term_kind.TargetKind.{TargetKind}
use Rattle.aml_meaning.specs.declared.term_kind.TargetKind.TheVariants as targets
use Rattle.aml_meaning.specs.declared.term_kind.OperatorKind.{OperatorKind}
use Rattle.aml_meaning.specs.declared.term_kind.OperatorKind.TheVariants as kinds
use Rattle.aml_meaning.specs.Terms.{target_kind}
use Rattle.aml_meaning.specs.Tasks.{Task, operand_value, value_at, two_values}
use Rattle.aml_meaning.specs.TargetTerms.{target_at, targeted}
use Rattle.aml_meaning.specs.FieldCalls.{completed, held_value, held_integer, referent_read, stored_back}

-- accesses: what the register space makes of them; ev: what a part evaluates to
module _ {S : Type 0} (accesses : Accesses S) (ev : Task → Run S Flow) where
  unfoldable pub slot_rule : Slot → Run S Flow
  slot_rule slot = do
    v ← lift (slot_read slot)
    give (flow.Value v)

  unfoldable pub store_rule : List Seg → ℕ → Tree → Run S Flow
  store_rule scope depth t = do
    v ← value_at ev scope depth t 0
    targeted accesses ev scope depth t 1 v

  unfoldable pub copy_rule : List Seg → ℕ → Tree → Run S Flow
  copy_rule scope depth t = do
    v ← value_at ev scope depth t 0
    p ← target_at ev scope depth t 1
    s ← lift (copied_to p v)
    done ← completed accesses ev depth s v
    give (flow.Value v)

  unfoldable pub two_rule : TwoOperands → List Seg → ℕ → Tree → Run S Flow
  two_rule k scope depth t = do
    x ← two_values ev scope depth t
    r ← lift (result_of_two k x.0 x.1)
    targeted accesses ev scope depth t 2 r

  -- the remainder's target comes before the quotient's
  unfoldable pub divide_rule : List Seg → ℕ → Tree → Run S Flow
  divide_rule scope depth t = do
    x ← two_values ev scope depth t
    d ← lift (divided_in x.0 x.1)
    done ← targeted accesses ev scope depth t 2 (value.Integer d.remainder)
    targeted accesses ev scope depth t 3 (value.Integer d.quotient)

  unfoldable pub one_rule : OneOperand → List Seg → ℕ → Tree → Run S Flow
  one_rule k scope depth t = do
    v ← value_at ev scope depth t 0
    r ← lift (result_of_one k v)
    targeted accesses ev scope depth t 1 r

  unfoldable pub test_rule : Test → List Seg → ℕ → Tree → Run S Flow
  test_rule k scope depth t = do
    x ← two_values ev scope depth t
    r ← lift (result_of_test k x.0 x.1)
    give (flow.Value r)

  unfoldable pub lnot_rule : List Seg → ℕ → Tree → Run S Flow
  lnot_rule scope depth t = do
    v ← value_at ev scope depth t 0
    r ← lift (lnot_in v)
    give (flow.Value r)

  -- the target is found once, read and stored to
  unfoldable pub count_rule : Count → List Seg → ℕ → Tree → Run S Flow
  count_rule k scope depth t = do
    p ← target_at ev scope depth t 0
    h ← lift (target_read p)
    n ← held_integer accesses ev depth h
    r ← lift (counted_by k n)
    done ← stored_back accesses ev depth h p r
    give (flow.Value r)

  -- what the operand of SizeOf and ObjectType refers to in the end: of a term that refers, what its value does
  unfoldable pub referent_of_value : List Seg → ℕ → Tree → Run S Referent
  referent_of_value scope depth u = do
    v ← operand_value ev scope depth u
    lift (value_followed (followed most_references) v)

  unfoldable pub referent_of_target : List Seg → ℕ → Tree → Run S Referent
  referent_of_target scope depth t = do
    p ← target_at ev scope depth t 0
    lift (target_referent p)

  abbrev pub referent_by_kind : List Seg → ℕ → Tree → Tree → TargetKind → Run S Referent
  referent_by_kind scope depth t u targets.RefOf = referent_of_value scope depth u
  referent_by_kind scope depth t u targets.DerefOf = referent_of_value scope depth u
  referent_by_kind scope depth t u targets.Index = referent_of_value scope depth u
  referent_by_kind scope depth t u targets.Nowhere = referent_of_target scope depth t
  referent_by_kind scope depth t u (targets.Slot slot) = referent_of_target scope depth t
  referent_by_kind scope depth t u targets.Other = referent_of_target scope depth t

  abbrev pub referent_by : List Seg → ℕ → Tree → Option Part → Run S Referent
  referent_by scope depth t None = referent_of_target scope depth t
  referent_by scope depth t (Some null) = referent_of_target scope depth t
  referent_by scope depth t (Some (name n)) = referent_of_target scope depth t
  referent_by scope depth t (Some (number n)) = referent_of_target scope depth t
  referent_by scope depth t (Some (bytes bs)) = referent_of_target scope depth t
  referent_by scope depth t (Some (inner u)) = referent_by_kind scope depth t u (target_kind (code_of u))
  referent_by scope depth t (Some (list ts)) = referent_of_target scope depth t

  abbrev pub referent_at : List Seg → ℕ → Tree → Run S Referent
  referent_at scope depth t = referent_by scope depth t (operand_of t 0)

  unfoldable pub size_rule : List Seg → ℕ → Tree → Run S Flow
  size_rule scope depth t = do
    r ← referent_at scope depth t
    s ← referent_read accesses ev depth r
    v ← lift (size_in s)
    give (flow.Value v)

  unfoldable pub type_rule : List Seg → ℕ → Tree → Run S Flow
  type_rule scope depth t = do
    r ← referent_at scope depth t
    s ← referent_read accesses ev depth r
    give (flow.Value (value.Integer (type_number (type_of_referent s))))

  -- a mutex is always free for who asks: Acquire gives False
  unfoldable pub acquire_rule : List Seg → ℕ → Tree → Run S Flow
  acquire_rule scope depth t = do
    p ← target_at ev scope depth t 0
    done ← lift (acquired_at p)
    give (flow.Value (value.Integer 0))

  -- RefOf: a reference to what its operand names, which is not read
  unfoldable pub reference_rule : List Seg → ℕ → Tree → Run S Flow
  reference_rule scope depth t = do
    p ← target_at ev scope depth t 0
    r ← lift (reference_of p)
    give (flow.Value (value.Reference r))

  -- DerefOf: what its operand refers to, one step on
  unfoldable pub dereference_rule : List Seg → ℕ → Tree → Run S Flow
  dereference_rule scope depth t = do
    v ← value_at ev scope depth t 0
    r ← settle (reference_in v)
    h ← lift (dereferenced r)
    x ← held_value accesses ev depth h
    give (flow.Value x)

  -- CondRefOf: a reference to a name that is found, or to what holds a value
  unfoldable pub sought_name : List Seg → Tree → Run S (Option Reference)
  sought_name scope t = do
    n ← settle (name_of (operand_of t 0))
    lift (reference_if_found scope n)

  unfoldable pub sought_target : List Seg → ℕ → Tree → Run S (Option Reference)
  sought_target scope depth t = do
    p ← target_at ev scope depth t 0
    r ← lift (reference_of p)
    lift (if_initialized r)

  abbrev pub sought : List Seg → ℕ → Tree → Option Part → Run S (Option Reference)
  sought scope depth t None = sought_target scope depth t
  sought scope depth t (Some null) = sought_target scope depth t
  sought scope depth t (Some (name n)) = sought_name scope t
  sought scope depth t (Some (number n)) = sought_target scope depth t
  sought scope depth t (Some (bytes bs)) = sought_target scope depth t
  sought scope depth t (Some (inner u)) = sought_target scope depth t
  sought scope depth t (Some (list ts)) = sought_target scope depth t

  unfoldable pub reference_stored : List Seg → ℕ → Tree → Reference → Run S Flow
  reference_stored scope depth t r = do
    done ← targeted accesses ev scope depth t 1 (value.Reference r)
    v ← lift (integer_kept 18446744073709551615)
    give (flow.Value v)

  -- it is stored and gives True, or nothing is stored and it gives False
  abbrev pub reference_found : List Seg → ℕ → Tree → Option Reference → Run S Flow
  reference_found scope depth t None = give (flow.Value (value.Integer 0))
  reference_found scope depth t (Some r) = reference_stored scope depth t r

  unfoldable pub conditional_rule : List Seg → ℕ → Tree → Run S Flow
  conditional_rule scope depth t = do
    o ← sought scope depth t (operand_of t 0)
    reference_found scope depth t o

  abbrev pub operator_rule : OperatorKind → List Seg → ℕ → Tree → Run S Flow
  operator_rule (kinds.Slot slot) scope depth t = slot_rule slot
  operator_rule kinds.Store scope depth t = store_rule scope depth t
  operator_rule kinds.CopyObject scope depth t = copy_rule scope depth t
  operator_rule (kinds.Two k) scope depth t = two_rule k scope depth t
  operator_rule kinds.Divide scope depth t = divide_rule scope depth t
  operator_rule (kinds.One k) scope depth t = one_rule k scope depth t
  operator_rule (kinds.Test k) scope depth t = test_rule k scope depth t
  operator_rule kinds.LNot scope depth t = lnot_rule scope depth t
  operator_rule (kinds.Count k) scope depth t = count_rule k scope depth t
  operator_rule kinds.SizeOf scope depth t = size_rule scope depth t
  operator_rule kinds.ObjectType scope depth t = type_rule scope depth t
  operator_rule kinds.Acquire scope depth t = acquire_rule scope depth t
  operator_rule kinds.RefOf scope depth t = reference_rule scope depth t
  operator_rule kinds.CondRefOf scope depth t = conditional_rule scope depth t
  operator_rule kinds.DerefOf scope depth t = dereference_rule scope depth t
