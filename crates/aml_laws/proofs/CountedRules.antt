-- The rule of each term does what it does without the counter, where its parts do.
use Rattle.std.specs.Prelude.{ℕ, zero, suc, List, Bool, true, false, Option, Some, None}
use Rattle.ar_space.specs.Accesses.{Accesses}
use Rattle.aml_path.specs.declared.segment.Seg.{Seg}
use Rattle.aml_grammar.specs.declared.opcode.Opcode.{Opcode}
use Rattle.aml_grammar.specs.declared.opcode.TermCode.{TermCode}
use Rattle.aml_grammar.specs.declared.opcode.TermCode.TheVariants as codes
use Rattle.aml_grammar.specs.Tree.{Tree, term, Trees, no_trees, tree, Part, null, name, number, bytes, inner, list, Parts, no_parts, part}
use Rattle.aml_grammar.specs.Apart.{code_of, operand_of}
use Rattle.aml_objects.specs.declared.value.Value.{Value}
use Rattle.aml_objects.specs.declared.value.Slot.{Slot}
use Rattle.aml_objects.specs.declared.object.Element.{Element}
use Rattle.aml_objects.specs.declared.entry.NamedObject.{NamedObject}
use Rattle.aml_world.specs.declared.values.operation_kind.OneOperand.{OneOperand}
use Rattle.aml_world.specs.declared.values.operation_kind.TwoOperands.{TwoOperands}
use Rattle.aml_world.specs.declared.values.operation_kind.Test.{Test}
use Rattle.aml_world.specs.declared.values.operation_kind.Count.{Count}
use Rattle.aml_world.specs.declared.state.invocation.Invocation.{Invocation}
use Rattle.aml_world.specs.declared.state.invocation.Invocation.TheVariants as invocations
use Rattle.aml_world.specs.declared.values.store_target.StoreTarget.{StoreTarget}
use Rattle.aml_world.specs.state.Run.{Run}
use Rattle.aml_meaning.specs.declared.flow.Flow.{Flow}
use Rattle.aml_meaning.specs.declared.term_kind.TermKind.{TermKind}
use Rattle.aml_meaning.specs.declared.term_kind.TermKind.TheVariants as kinds
use Rattle.aml_meaning.specs.declared.term_kind.DataKind.{DataKind}
use Rattle.aml_meaning.specs.declared.term_kind.DataKind.TheVariants as datas
use Rattle.aml_meaning.specs.declared.term_kind.DeclarationKind.{DeclarationKind}
use Rattle.aml_meaning.specs.declared.term_kind.DeclarationKind.TheVariants as declarations
use Rattle.aml_meaning.specs.declared.term_kind.OperatorKind.{OperatorKind}
use Rattle.aml_meaning.specs.declared.term_kind.OperatorKind.TheVariants as operators
use Rattle.aml_meaning.specs.declared.term_kind.StatementKind.{StatementKind}
use Rattle.aml_meaning.specs.declared.term_kind.StatementKind.TheVariants as statements
use Rattle.aml_meaning.specs.declared.term_kind.TargetKind.{TargetKind}
use Rattle.aml_objects.specs.declared.value.Reference.{Reference}
use Rattle.aml_meaning.specs.declared.term_kind.TargetKind.TheVariants as target
use Rattle.aml_meaning.specs.declared.term_kind.RegionKind.{RegionKind}
use Rattle.aml_meaning.specs.declared.term_kind.RegionKind.TheVariants as regions
use Rattle.aml_meaning.specs.Terms.{kind_of, target_kind, count_of}
use Rattle.aml_meaning.specs.Tasks.{Task}
use Rattle.aml_meaning.specs.DataTerms.{constant_rule, integer_rule, string_rule, buffer_rule, named_element, valued_element, element_by, elements_in_turn, package_of, package_rule, var_package_rule, data_rule}
use Rattle.aml_meaning.specs.DeclarationTerms.{declaring, name_rule, alias_rule, method_rule, scope_rule, new_scope, declaration_rule}
use Rattle.aml_meaning.specs.TargetTerms.{indexed_target, dereferenced_target, target_by_kind, target_of, first_target, part_target, name_target, target_by, target_at, targeted}
use Rattle.aml_meaning.specs.OperatorTerms.{slot_rule, store_rule, copy_rule, two_rule, divide_rule, one_rule, test_rule, lnot_rule, count_rule, referent_of_value, referent_of_target, referent_by_kind, referent_by, size_rule, type_rule, acquire_rule, reference_rule, dereference_rule, sought_name, sought_target, sought, reference_stored, reference_found, conditional_rule, operator_rule}
use Rattle.aml_meaning.specs.StatementTerms.{otherwise, branch, if_rule, else_rule, turn_of, turn, loop_end, after_turn, turns, loop, while_rule, return_rule, release_rule, notify_rule, pause_rule, fatal_rule, statement_rule}
use Rattle.aml_meaning.specs.InvocationTerms.{arguments_in_turn, call_rule, osi_rule, field_rule, invocation_rule, name_value}
use Rattle.aml_meaning.specs.FieldTerms.{fields_laid, region_rule, field_list_rule, index_list_rule, sized_field_rule, bits_field_rule, region_term_rule}
use Rattle.aml_meaning.specs.Evaluation.{kind_rule, code_rule, rule}
use Rattle.aml_laws.specs.Counted.{beside_counter}
use Rattle.aml_laws.proofs.CountedChanges.{RunCounts, give_counts, stop_counts, settle_counts, then_counts, on_objects_counts, lift_counts, charge_counts}
use Rattle.aml_laws.proofs.CountedOperations.{integer_kept_counts, integer_in_counts, path_found_counts, scope_found_counts, target_named_counts, within_counts, new_buffer_counts, new_package_counts, new_name_counts, new_method_counts, divided_in_counts, lnot_counts, size_in_counts, result_of_two_counts, result_of_one_counts, result_of_test_counts, counted_by_counts, osi_answered_counts, invocation_found_counts, call_allowed_counts}
use Rattle.aml_laws.proofs.CountedStoreTargets.{slot_read_counts, tested_counts, dereferenced_counts, target_read_counts, reference_of_counts, if_initialized_counts, reference_if_found_counts, target_referent_counts, value_referent_counts, copied_to_counts, acquired_at_counts, given_back_at_counts}
use Rattle.aml_laws.proofs.CountedFields.{elements_laid_counts, region_found_counts, field_found_counts}
use Rattle.aml_laws.proofs.CountedCalls.{operand_value_counts, operand_integer_counts, value_at_counts, two_values_counts, in_turn_counts, invoked_counts, field_read_counts, held_integer_counts, referent_read_counts, completed_counts, stored_to_counts, held_value_counts, stored_back_counts}
use Rattle.aml_laws.proofs.CountedWideTerms.{connections_asked_counts, in_wide_counts}

-- uncounted: what a part evaluates to without the counter
module _ {S : Type 0} (accesses : Accesses S) (ev : Task → Run (S × ℕ) Flow) (uncounted : Task → Run S Flow) (parts : (t : Task) → RunCounts (ev t) (uncounted t)) where
  constant_rule_counts : (k : ℕ) → RunCounts {S = S} (constant_rule ev k) (constant_rule uncounted k)
  unfolding constant_rule
  constant_rule_counts k = then_counts _ _ _ _ (lift_counts _ _ (integer_kept_counts k)) (λ v. give_counts _)

  buffer_rule_counts : (scope : List Seg) (depth : ℕ) (t : Tree) → RunCounts {S = S} (buffer_rule ev scope depth t) (buffer_rule uncounted scope depth t)
  unfolding buffer_rule
  buffer_rule_counts scope depth t = then_counts _ _ _ _ (settle_counts _) (λ size. then_counts _ _ _ _ (operand_integer_counts accesses ev uncounted parts scope depth size) (λ k. then_counts _ _ _ _ (settle_counts _) (λ bytes. then_counts _ _ _ _ (lift_counts _ _ (new_buffer_counts k bytes)) (λ v. give_counts _))))

  named_element_counts : (scope : List Seg) (t : Tree) → RunCounts {S = S} (named_element ev scope t) (named_element uncounted scope t)
  unfolding named_element
  named_element_counts scope t = then_counts _ _ _ _ charge_counts (λ u. then_counts _ _ _ _ (settle_counts _) (λ x. give_counts _))

  valued_element_counts : (scope : List Seg) (depth : ℕ) (t : Tree) → RunCounts {S = S} (valued_element ev scope depth t) (valued_element uncounted scope depth t)
  unfolding valued_element
  valued_element_counts scope depth t = then_counts _ _ _ _ (operand_value_counts accesses ev uncounted parts scope depth t) (λ v. give_counts _)

  element_by_counts : (c : TermCode) (scope : List Seg) (depth : ℕ) (t : Tree) → RunCounts {S = S} (element_by ev c scope depth t) (element_by uncounted c scope depth t)
  element_by_counts codes.Name scope depth t = named_element_counts scope t
  element_by_counts (codes.Opcode op) scope depth t = valued_element_counts scope depth t
  element_by_counts codes.MethodInvocation scope depth t = valued_element_counts scope depth t
  element_by_counts codes.NamedField scope depth t = valued_element_counts scope depth t
  element_by_counts codes.ReservedField scope depth t = valued_element_counts scope depth t
  element_by_counts codes.AccessField scope depth t = valued_element_counts scope depth t
  element_by_counts codes.ExtendedAccessField scope depth t = valued_element_counts scope depth t
  element_by_counts codes.ConnectField scope depth t = valued_element_counts scope depth t

  elements_in_turn_counts : (scope : List Seg) (depth k : ℕ) (ts : Trees) (done : List Element) → RunCounts {S = S} (elements_in_turn ev scope depth k ts done) (elements_in_turn uncounted scope depth k ts done)
  unfolding elements_in_turn
  elements_in_turn_counts scope depth zero ts done = give_counts _
  elements_in_turn_counts scope depth (suc k) no_trees done = give_counts _
  elements_in_turn_counts scope depth (suc k) (tree t ts) done = then_counts _ _ _ _ (element_by_counts (code_of t) scope depth t) (λ e. elements_in_turn_counts scope depth k ts _)

  package_of_counts : (scope : List Seg) (depth k : ℕ) (ts : Trees) → RunCounts {S = S} (package_of ev scope depth k ts) (package_of uncounted scope depth k ts)
  unfolding package_of
  package_of_counts scope depth k ts = then_counts _ _ _ _ (elements_in_turn_counts scope depth k ts _) (λ es. then_counts _ _ _ _ (lift_counts _ _ (new_package_counts k es)) (λ v. give_counts _))

  package_rule_counts : (scope : List Seg) (depth : ℕ) (t : Tree) → RunCounts {S = S} (package_rule ev scope depth t) (package_rule uncounted scope depth t)
  unfolding package_rule
  package_rule_counts scope depth t = then_counts _ _ _ _ (settle_counts _) (λ k. then_counts _ _ _ _ (settle_counts _) (λ ts. package_of_counts scope depth k ts))

  var_package_rule_counts : (scope : List Seg) (depth : ℕ) (t : Tree) → RunCounts {S = S} (var_package_rule ev scope depth t) (var_package_rule uncounted scope depth t)
  unfolding var_package_rule
  var_package_rule_counts scope depth t = then_counts _ _ _ _ (settle_counts _) (λ size. then_counts _ _ _ _ (operand_integer_counts accesses ev uncounted parts scope depth size) (λ k. then_counts _ _ _ _ (lift_counts _ _ (within_counts _ k)) (λ u. then_counts _ _ _ _ (settle_counts _) (λ ts. package_of_counts scope depth k ts))))

  pub declaring_counts : (scope : List Seg) (depth : ℕ) (t : Tree) (position : ℕ) (o : NamedObject) → RunCounts {S = S} (declaring ev scope depth t position o) (declaring uncounted scope depth t position o)
  unfolding declaring
  declaring_counts scope depth t position o = then_counts _ _ _ _ (settle_counts _) (λ x. then_counts _ _ _ _ (settle_counts _) (λ q. then_counts _ _ _ _ (lift_counts _ _ (new_name_counts _ q o)) (λ u. give_counts _)))

  name_rule_counts : (scope : List Seg) (depth : ℕ) (t : Tree) → RunCounts {S = S} (name_rule ev scope depth t) (name_rule uncounted scope depth t)
  unfolding name_rule
  name_rule_counts scope depth t = then_counts _ _ _ _ (settle_counts _) (λ d. then_counts _ _ _ _ (operand_value_counts accesses ev uncounted parts scope depth d) (λ v. declaring_counts scope depth t _ _))

  new_scope_counts : (o : NamedObject) (place : ℕ) (scope : List Seg) (depth : ℕ) (t : Tree) → RunCounts {S = S} (new_scope ev o place scope depth t) (new_scope uncounted o place scope depth t)
  unfolding new_scope
  new_scope_counts o place scope depth t = then_counts _ _ _ _ (settle_counts _) (λ x. then_counts _ _ _ _ (settle_counts _) (λ q. then_counts _ _ _ _ (lift_counts _ _ (new_name_counts _ q o)) (λ u. then_counts _ _ _ _ (settle_counts _) (λ ts. in_turn_counts accesses ev uncounted parts q depth ts))))

  scope_rule_counts : (scope : List Seg) (depth : ℕ) (t : Tree) → RunCounts {S = S} (scope_rule ev scope depth t) (scope_rule uncounted scope depth t)
  unfolding scope_rule
  scope_rule_counts scope depth t = then_counts _ _ _ _ (settle_counts _) (λ x. then_counts _ _ _ _ (lift_counts _ _ (scope_found_counts scope x)) (λ q. then_counts _ _ _ _ (settle_counts _) (λ ts. in_turn_counts accesses ev uncounted parts q depth ts)))

  alias_rule_counts : (scope : List Seg) (depth : ℕ) (t : Tree) → RunCounts {S = S} (alias_rule ev scope depth t) (alias_rule uncounted scope depth t)
  unfolding alias_rule
  alias_rule_counts scope depth t = then_counts _ _ _ _ (settle_counts _) (λ x. then_counts _ _ _ _ (lift_counts _ _ (path_found_counts scope x)) (λ target. then_counts _ _ _ _ (settle_counts _) (λ y. then_counts _ _ _ _ (settle_counts _) (λ q. then_counts _ _ _ _ (lift_counts _ _ (new_name_counts _ q _)) (λ u. give_counts _)))))

  method_rule_counts : (scope : List Seg) (depth : ℕ) (t : Tree) → RunCounts {S = S} (method_rule ev scope depth t) (method_rule uncounted scope depth t)
  unfolding method_rule
  method_rule_counts scope depth t = then_counts _ _ _ _ (settle_counts _) (λ x. then_counts _ _ _ _ (settle_counts _) (λ q. then_counts _ _ _ _ (settle_counts _) (λ flags. then_counts _ _ _ _ (settle_counts _) (λ body. then_counts _ _ _ _ (lift_counts _ _ (new_method_counts _ q _ body)) (λ u. give_counts _)))))

  string_rule_counts : (t : Tree) → RunCounts {S = S} (string_rule ev t) (string_rule uncounted t)
  unfolding string_rule
  string_rule_counts t = then_counts _ _ _ _ (settle_counts _) (λ x. then_counts _ _ _ _ (lift_counts _ _ (on_objects_counts _)) (λ v. give_counts _))

  integer_rule_counts : (t : Tree) → RunCounts {S = S} (integer_rule ev t) (integer_rule uncounted t)
  unfolding integer_rule
  integer_rule_counts t = then_counts _ _ _ _ (settle_counts _) (λ k. constant_rule_counts k)

  data_rule_counts : (k : DataKind) (scope : List Seg) (depth : ℕ) (t : Tree) → RunCounts {S = S} (data_rule ev k scope depth t) (data_rule uncounted k scope depth t)
  data_rule_counts (datas.Constant k) scope depth t = constant_rule_counts k
  data_rule_counts datas.Integer scope depth t = integer_rule_counts t
  data_rule_counts datas.String scope depth t = string_rule_counts t
  data_rule_counts datas.Buffer scope depth t = buffer_rule_counts scope depth t
  data_rule_counts datas.Package scope depth t = package_rule_counts scope depth t
  data_rule_counts datas.VarPackage scope depth t = var_package_rule_counts scope depth t

  declaration_rule_counts : (k : DeclarationKind) (scope : List Seg) (depth : ℕ) (t : Tree) → RunCounts {S = S} (declaration_rule ev k scope depth t) (declaration_rule uncounted k scope depth t)
  declaration_rule_counts declarations.Scope scope depth t = scope_rule_counts scope depth t
  declaration_rule_counts declarations.Device scope depth t = new_scope_counts _ _ scope depth t
  declaration_rule_counts declarations.Processor scope depth t = new_scope_counts _ _ scope depth t
  declaration_rule_counts declarations.PowerResource scope depth t = new_scope_counts _ _ scope depth t
  declaration_rule_counts declarations.ThermalZone scope depth t = new_scope_counts _ _ scope depth t
  declaration_rule_counts declarations.Name scope depth t = name_rule_counts scope depth t
  declaration_rule_counts declarations.Alias scope depth t = alias_rule_counts scope depth t
  declaration_rule_counts declarations.External scope depth t = give_counts _
  declaration_rule_counts declarations.Method scope depth t = method_rule_counts scope depth t
  declaration_rule_counts declarations.Mutex scope depth t = declaring_counts scope depth t _ _
  declaration_rule_counts declarations.Event scope depth t = declaring_counts scope depth t _ _

  -- ---- places and operators

  indexed_target_counts : (scope : List Seg) (depth : ℕ) (t : Tree) → RunCounts {S = S} (indexed_target ev scope depth t) (indexed_target uncounted scope depth t)
  unfolding indexed_target
  indexed_target_counts scope depth t = then_counts _ _ _ _ (operand_value_counts accesses ev uncounted parts scope depth t) (λ v. then_counts _ _ _ _ (settle_counts _) (λ r. give_counts _))

  dereferenced_target_counts : (scope : List Seg) (depth : ℕ) (t : Tree) → RunCounts {S = S} (dereferenced_target ev scope depth t) (dereferenced_target uncounted scope depth t)
  unfolding dereferenced_target
  dereferenced_target_counts scope depth t = then_counts _ _ _ _ charge_counts (λ u. then_counts _ _ _ _ (value_at_counts accesses ev uncounted parts scope depth t 0) (λ v. then_counts _ _ _ _ (settle_counts _) (λ r. then_counts _ _ _ _ (lift_counts _ _ (tested_counts r)) (λ there. give_counts _))))

  target_by_kind_counts : (scope : List Seg) (depth : ℕ) (t : Tree) (m : Run (S × ℕ) StoreTarget) (k : Run S StoreTarget) (kind : TargetKind) → RunCounts m k → RunCounts {S = S} (target_by_kind ev scope depth t m kind) (target_by_kind uncounted scope depth t k kind)
  target_by_kind_counts scope depth t m k target.Nowhere h = give_counts _
  target_by_kind_counts scope depth t m k (target.Slot slot) h = give_counts _
  target_by_kind_counts scope depth t m k target.RefOf h = then_counts _ _ _ _ charge_counts (λ u. h)
  target_by_kind_counts scope depth t m k target.DerefOf h = dereferenced_target_counts scope depth t
  target_by_kind_counts scope depth t m k target.Index h = indexed_target_counts scope depth t
  target_by_kind_counts scope depth t m k target.Other h = stop_counts _

  mutual
    unfolding target_of

    target_of_counts : (scope : List Seg) (depth : ℕ) (t : Tree) → RunCounts {S = S} (target_of ev scope depth t) (target_of uncounted scope depth t)
    target_of_counts scope depth (term c ps) = target_by_kind_counts scope depth (term c ps) _ _ (target_kind c) (first_target_counts scope depth ps)

    first_target_counts : (scope : List Seg) (depth : ℕ) (ps : Parts) → RunCounts {S = S} (first_target ev scope depth ps) (first_target uncounted scope depth ps)
    first_target_counts scope depth no_parts = stop_counts _
    first_target_counts scope depth (part p ps) = part_target_counts scope depth p

    part_target_counts : (scope : List Seg) (depth : ℕ) (p : Part) → RunCounts {S = S} (part_target ev scope depth p) (part_target uncounted scope depth p)
    part_target_counts scope depth null = give_counts _
    part_target_counts scope depth (name x) = lift_counts _ _ (target_named_counts scope x)
    part_target_counts scope depth (number k) = stop_counts _
    part_target_counts scope depth (bytes bs) = stop_counts _
    part_target_counts scope depth (inner u) = target_of_counts scope depth u
    part_target_counts scope depth (list ts) = stop_counts _

  name_target_counts : (scope : List Seg) (t : Tree) (i : ℕ) → RunCounts {S = S} (name_target ev scope t i) (name_target uncounted scope t i)
  unfolding name_target
  name_target_counts scope t i = then_counts _ _ _ _ (settle_counts _) (λ x. lift_counts _ _ (target_named_counts scope x))

  target_by_counts : (scope : List Seg) (depth : ℕ) (t : Tree) (i : ℕ) (o : Option Part) → RunCounts {S = S} (target_by ev scope depth t i o) (target_by uncounted scope depth t i o)
  target_by_counts scope depth t i None = stop_counts _
  target_by_counts scope depth t i (Some null) = give_counts _
  target_by_counts scope depth t i (Some (name x)) = name_target_counts scope t i
  target_by_counts scope depth t i (Some (number k)) = stop_counts _
  target_by_counts scope depth t i (Some (bytes bs)) = stop_counts _
  target_by_counts scope depth t i (Some (inner u)) = target_of_counts scope depth u
  target_by_counts scope depth t i (Some (list ts)) = stop_counts _

  target_at_counts : (scope : List Seg) (depth : ℕ) (t : Tree) (i : ℕ) → RunCounts {S = S} (target_at ev scope depth t i) (target_at uncounted scope depth t i)
  target_at_counts scope depth t i = target_by_counts scope depth t i (operand_of t i)

  targeted_counts : (scope : List Seg) (depth : ℕ) (t : Tree) (i : ℕ) (v : Value) → RunCounts {S = S} (targeted (beside_counter accesses) ev scope depth t i v) (targeted accesses uncounted scope depth t i v)
  unfolding targeted
  targeted_counts scope depth t i v = then_counts _ _ _ _ (target_at_counts scope depth t i) (λ q. then_counts _ _ _ _ (stored_to_counts accesses ev uncounted parts depth q v) (λ done. give_counts _))

  slot_rule_counts : (slot : Slot) → RunCounts {S = S} (slot_rule (beside_counter accesses) ev slot) (slot_rule accesses uncounted slot)
  unfolding slot_rule
  slot_rule_counts slot = then_counts _ _ _ _ (lift_counts _ _ (slot_read_counts slot)) (λ v. give_counts _)

  store_rule_counts : (scope : List Seg) (depth : ℕ) (t : Tree) → RunCounts {S = S} (store_rule (beside_counter accesses) ev scope depth t) (store_rule accesses uncounted scope depth t)
  unfolding store_rule
  store_rule_counts scope depth t = then_counts _ _ _ _ (value_at_counts accesses ev uncounted parts scope depth t 0) (λ v. targeted_counts scope depth t 1 v)

  copy_rule_counts : (scope : List Seg) (depth : ℕ) (t : Tree) → RunCounts {S = S} (copy_rule (beside_counter accesses) ev scope depth t) (copy_rule accesses uncounted scope depth t)
  unfolding copy_rule
  copy_rule_counts scope depth t = then_counts _ _ _ _ (value_at_counts accesses ev uncounted parts scope depth t 0) (λ v. then_counts _ _ _ _ (target_at_counts scope depth t 1) (λ q. then_counts _ _ _ _ (lift_counts _ _ (copied_to_counts q v)) (λ s. then_counts _ _ _ _ (completed_counts accesses ev uncounted parts depth s v) (λ done. give_counts _))))

  two_rule_counts : (k : TwoOperands) (scope : List Seg) (depth : ℕ) (t : Tree) → RunCounts {S = S} (two_rule (beside_counter accesses) ev k scope depth t) (two_rule accesses uncounted k scope depth t)
  unfolding two_rule
  two_rule_counts k scope depth t = then_counts _ _ _ _ (two_values_counts accesses ev uncounted parts scope depth t) (λ x. then_counts _ _ _ _ (lift_counts _ _ (result_of_two_counts k x.0 x.1)) (λ r. targeted_counts scope depth t 2 r))

  divide_rule_counts : (scope : List Seg) (depth : ℕ) (t : Tree) → RunCounts {S = S} (divide_rule (beside_counter accesses) ev scope depth t) (divide_rule accesses uncounted scope depth t)
  unfolding divide_rule
  divide_rule_counts scope depth t = then_counts _ _ _ _ (two_values_counts accesses ev uncounted parts scope depth t) (λ x. then_counts _ _ _ _ (lift_counts _ _ (divided_in_counts x.0 x.1)) (λ d. then_counts _ _ _ _ (targeted_counts scope depth t 2 _) (λ done. targeted_counts scope depth t 3 _)))

  one_rule_counts : (k : OneOperand) (scope : List Seg) (depth : ℕ) (t : Tree) → RunCounts {S = S} (one_rule (beside_counter accesses) ev k scope depth t) (one_rule accesses uncounted k scope depth t)
  unfolding one_rule
  one_rule_counts k scope depth t = then_counts _ _ _ _ (value_at_counts accesses ev uncounted parts scope depth t 0) (λ v. then_counts _ _ _ _ (lift_counts _ _ (result_of_one_counts k v)) (λ r. targeted_counts scope depth t 1 r))

  test_rule_counts : (k : Test) (scope : List Seg) (depth : ℕ) (t : Tree) → RunCounts {S = S} (test_rule (beside_counter accesses) ev k scope depth t) (test_rule accesses uncounted k scope depth t)
  unfolding test_rule
  test_rule_counts k scope depth t = then_counts _ _ _ _ (two_values_counts accesses ev uncounted parts scope depth t) (λ x. then_counts _ _ _ _ (lift_counts _ _ (result_of_test_counts k x.0 x.1)) (λ r. give_counts _))

  lnot_rule_counts : (scope : List Seg) (depth : ℕ) (t : Tree) → RunCounts {S = S} (lnot_rule (beside_counter accesses) ev scope depth t) (lnot_rule accesses uncounted scope depth t)
  unfolding lnot_rule
  lnot_rule_counts scope depth t = then_counts _ _ _ _ (value_at_counts accesses ev uncounted parts scope depth t 0) (λ v. then_counts _ _ _ _ (lift_counts _ _ (lnot_counts v)) (λ r. give_counts _))

  count_rule_counts : (k : Count) (scope : List Seg) (depth : ℕ) (t : Tree) → RunCounts {S = S} (count_rule (beside_counter accesses) ev k scope depth t) (count_rule accesses uncounted k scope depth t)
  unfolding count_rule
  count_rule_counts k scope depth t = then_counts _ _ _ _ (target_at_counts scope depth t 0) (λ q. then_counts _ _ _ _ (lift_counts _ _ (target_read_counts q)) (λ h. then_counts _ _ _ _ (held_integer_counts accesses ev uncounted parts depth h) (λ x. then_counts _ _ _ _ (lift_counts _ _ (counted_by_counts k x)) (λ r. then_counts _ _ _ _ (stored_back_counts accesses ev uncounted parts depth h q r) (λ done. give_counts _)))))

  referent_of_value_counts : (scope : List Seg) (depth : ℕ) (u : Tree) → RunCounts {S = S} (referent_of_value (beside_counter accesses) ev scope depth u) (referent_of_value accesses uncounted scope depth u)
  unfolding referent_of_value
  referent_of_value_counts scope depth u = then_counts _ _ _ _ (operand_value_counts accesses ev uncounted parts scope depth u) (λ v. lift_counts _ _ (value_referent_counts v))

  referent_of_target_counts : (scope : List Seg) (depth : ℕ) (t : Tree) → RunCounts {S = S} (referent_of_target (beside_counter accesses) ev scope depth t) (referent_of_target accesses uncounted scope depth t)
  unfolding referent_of_target
  referent_of_target_counts scope depth t = then_counts _ _ _ _ (target_at_counts scope depth t 0) (λ q. lift_counts _ _ (target_referent_counts q))

  referent_by_kind_counts : (scope : List Seg) (depth : ℕ) (t u : Tree) (k : TargetKind) → RunCounts {S = S} (referent_by_kind (beside_counter accesses) ev scope depth t u k) (referent_by_kind accesses uncounted scope depth t u k)
  referent_by_kind_counts scope depth t u target.RefOf = referent_of_value_counts scope depth u
  referent_by_kind_counts scope depth t u target.DerefOf = referent_of_value_counts scope depth u
  referent_by_kind_counts scope depth t u target.Index = referent_of_value_counts scope depth u
  referent_by_kind_counts scope depth t u target.Nowhere = referent_of_target_counts scope depth t
  referent_by_kind_counts scope depth t u (target.Slot slot) = referent_of_target_counts scope depth t
  referent_by_kind_counts scope depth t u target.Other = referent_of_target_counts scope depth t

  referent_by_counts : (scope : List Seg) (depth : ℕ) (t : Tree) (o : Option Part) → RunCounts {S = S} (referent_by (beside_counter accesses) ev scope depth t o) (referent_by accesses uncounted scope depth t o)
  referent_by_counts scope depth t None = referent_of_target_counts scope depth t
  referent_by_counts scope depth t (Some null) = referent_of_target_counts scope depth t
  referent_by_counts scope depth t (Some (name x)) = referent_of_target_counts scope depth t
  referent_by_counts scope depth t (Some (number k)) = referent_of_target_counts scope depth t
  referent_by_counts scope depth t (Some (bytes bs)) = referent_of_target_counts scope depth t
  referent_by_counts scope depth t (Some (inner u)) = referent_by_kind_counts scope depth t u _
  referent_by_counts scope depth t (Some (list ts)) = referent_of_target_counts scope depth t

  size_rule_counts : (scope : List Seg) (depth : ℕ) (t : Tree) → RunCounts {S = S} (size_rule (beside_counter accesses) ev scope depth t) (size_rule accesses uncounted scope depth t)
  unfolding size_rule
  size_rule_counts scope depth t = then_counts _ _ _ _ (referent_by_counts scope depth t _) (λ r. then_counts _ _ _ _ (referent_read_counts accesses ev uncounted parts depth r) (λ s. then_counts _ _ _ _ (lift_counts _ _ (size_in_counts s)) (λ v. give_counts _)))

  type_rule_counts : (scope : List Seg) (depth : ℕ) (t : Tree) → RunCounts {S = S} (type_rule (beside_counter accesses) ev scope depth t) (type_rule accesses uncounted scope depth t)
  unfolding type_rule
  type_rule_counts scope depth t = then_counts _ _ _ _ (referent_by_counts scope depth t _) (λ r. then_counts _ _ _ _ (referent_read_counts accesses ev uncounted parts depth r) (λ s. give_counts _))

  reference_rule_counts : (scope : List Seg) (depth : ℕ) (t : Tree) → RunCounts {S = S} (reference_rule (beside_counter accesses) ev scope depth t) (reference_rule accesses uncounted scope depth t)
  unfolding reference_rule
  reference_rule_counts scope depth t = then_counts _ _ _ _ (target_at_counts scope depth t 0) (λ q. then_counts _ _ _ _ (lift_counts _ _ (reference_of_counts q)) (λ r. give_counts _))

  dereference_rule_counts : (scope : List Seg) (depth : ℕ) (t : Tree) → RunCounts {S = S} (dereference_rule (beside_counter accesses) ev scope depth t) (dereference_rule accesses uncounted scope depth t)
  unfolding dereference_rule
  dereference_rule_counts scope depth t = then_counts _ _ _ _ (value_at_counts accesses ev uncounted parts scope depth t 0) (λ v. then_counts _ _ _ _ (settle_counts _) (λ r. then_counts _ _ _ _ (lift_counts _ _ (dereferenced_counts r)) (λ h. then_counts _ _ _ _ (held_value_counts accesses ev uncounted parts depth h) (λ x. give_counts _))))

  sought_name_counts : (scope : List Seg) (t : Tree) → RunCounts {S = S} (sought_name (beside_counter accesses) ev scope t) (sought_name accesses uncounted scope t)
  unfolding sought_name
  sought_name_counts scope t = then_counts _ _ _ _ (settle_counts _) (λ x. lift_counts _ _ (reference_if_found_counts scope x))

  sought_target_counts : (scope : List Seg) (depth : ℕ) (t : Tree) → RunCounts {S = S} (sought_target (beside_counter accesses) ev scope depth t) (sought_target accesses uncounted scope depth t)
  unfolding sought_target
  sought_target_counts scope depth t = then_counts _ _ _ _ (target_at_counts scope depth t 0) (λ q. then_counts _ _ _ _ (lift_counts _ _ (reference_of_counts q)) (λ r. lift_counts _ _ (if_initialized_counts r)))

  sought_counts : (scope : List Seg) (depth : ℕ) (t : Tree) (o : Option Part) → RunCounts {S = S} (sought (beside_counter accesses) ev scope depth t o) (sought accesses uncounted scope depth t o)
  sought_counts scope depth t None = sought_target_counts scope depth t
  sought_counts scope depth t (Some null) = sought_target_counts scope depth t
  sought_counts scope depth t (Some (name x)) = sought_name_counts scope t
  sought_counts scope depth t (Some (number k)) = sought_target_counts scope depth t
  sought_counts scope depth t (Some (bytes bs)) = sought_target_counts scope depth t
  sought_counts scope depth t (Some (inner u)) = sought_target_counts scope depth t
  sought_counts scope depth t (Some (list ts)) = sought_target_counts scope depth t

  reference_found_counts : (scope : List Seg) (depth : ℕ) (t : Tree) (o : Option Reference) → RunCounts {S = S} (reference_found (beside_counter accesses) ev scope depth t o) (reference_found accesses uncounted scope depth t o)
  unfolding reference_stored
  reference_found_counts scope depth t None = give_counts _
  reference_found_counts scope depth t (Some r) = then_counts _ _ _ _ (targeted_counts scope depth t 1 _) (λ done. then_counts _ _ _ _ (lift_counts _ _ (integer_kept_counts _)) (λ v. give_counts _))

  conditional_rule_counts : (scope : List Seg) (depth : ℕ) (t : Tree) → RunCounts {S = S} (conditional_rule (beside_counter accesses) ev scope depth t) (conditional_rule accesses uncounted scope depth t)
  unfolding conditional_rule
  conditional_rule_counts scope depth t = then_counts _ _ _ _ (sought_counts scope depth t _) (λ o. reference_found_counts scope depth t o)

  acquire_rule_counts : (scope : List Seg) (depth : ℕ) (t : Tree) → RunCounts {S = S} (acquire_rule (beside_counter accesses) ev scope depth t) (acquire_rule accesses uncounted scope depth t)
  unfolding acquire_rule
  acquire_rule_counts scope depth t = then_counts _ _ _ _ (target_at_counts scope depth t 0) (λ q. then_counts _ _ _ _ (lift_counts _ _ (acquired_at_counts q)) (λ done. give_counts _))

  operator_rule_counts : (k : OperatorKind) (scope : List Seg) (depth : ℕ) (t : Tree) → RunCounts {S = S} (operator_rule (beside_counter accesses) ev k scope depth t) (operator_rule accesses uncounted k scope depth t)
  operator_rule_counts (operators.Slot slot) scope depth t = slot_rule_counts slot
  operator_rule_counts operators.Store scope depth t = store_rule_counts scope depth t
  operator_rule_counts operators.CopyObject scope depth t = copy_rule_counts scope depth t
  operator_rule_counts (operators.Two k) scope depth t = two_rule_counts k scope depth t
  operator_rule_counts operators.Divide scope depth t = divide_rule_counts scope depth t
  operator_rule_counts (operators.One k) scope depth t = one_rule_counts k scope depth t
  operator_rule_counts (operators.Test k) scope depth t = test_rule_counts k scope depth t
  operator_rule_counts operators.LNot scope depth t = lnot_rule_counts scope depth t
  operator_rule_counts (operators.Count k) scope depth t = count_rule_counts k scope depth t
  operator_rule_counts operators.SizeOf scope depth t = size_rule_counts scope depth t
  operator_rule_counts operators.ObjectType scope depth t = type_rule_counts scope depth t
  operator_rule_counts operators.Acquire scope depth t = acquire_rule_counts scope depth t
  operator_rule_counts operators.RefOf scope depth t = reference_rule_counts scope depth t
  operator_rule_counts operators.CondRefOf scope depth t = conditional_rule_counts scope depth t
  operator_rule_counts operators.DerefOf scope depth t = dereference_rule_counts scope depth t

  -- ---- statements

  otherwise_counts : (scope : List Seg) (depth : ℕ) (e : Option Tree) → RunCounts {S = S} (otherwise ev scope depth e) (otherwise uncounted scope depth e)
  otherwise_counts scope depth None = give_counts _
  otherwise_counts scope depth (Some e) = parts _

  branch_counts : (scope : List Seg) (depth : ℕ) (ts : Trees) (e : Option Tree) (b : Bool) → RunCounts {S = S} (branch ev scope depth ts e b) (branch uncounted scope depth ts e b)
  branch_counts scope depth ts e true = in_turn_counts accesses ev uncounted parts scope depth ts
  branch_counts scope depth ts e false = otherwise_counts scope depth e

  if_rule_counts : (scope : List Seg) (depth : ℕ) (t : Tree) → RunCounts {S = S} (if_rule ev scope depth t) (if_rule uncounted scope depth t)
  unfolding if_rule
  if_rule_counts scope depth t = then_counts _ _ _ _ (settle_counts _) (λ c. then_counts _ _ _ _ (settle_counts _) (λ ts. then_counts _ _ _ _ (operand_integer_counts accesses ev uncounted parts scope depth c) (λ x. branch_counts scope depth ts _ _)))

  else_rule_counts : (scope : List Seg) (depth : ℕ) (t : Tree) → RunCounts {S = S} (else_rule ev scope depth t) (else_rule uncounted scope depth t)
  unfolding else_rule
  else_rule_counts scope depth t = then_counts _ _ _ _ (settle_counts _) (λ ts. in_turn_counts accesses ev uncounted parts scope depth ts)

  turn_of_counts : (scope : List Seg) (depth : ℕ) (ts : Trees) (b : Bool) → RunCounts {S = S} (turn_of ev scope depth ts b) (turn_of uncounted scope depth ts b)
  turn_of_counts scope depth ts true = in_turn_counts accesses ev uncounted parts scope depth ts
  turn_of_counts scope depth ts false = give_counts _

  turn_counts : (scope : List Seg) (depth : ℕ) (c : Tree) (ts : Trees) → RunCounts {S = S} (turn ev scope depth c ts) (turn uncounted scope depth c ts)
  unfolding turn
  turn_counts scope depth c ts = then_counts _ _ _ _ (operand_integer_counts accesses ev uncounted parts scope depth c) (λ x. turn_of_counts scope depth ts _)

  after_turn_counts : (o : Option Flow) (m : Run (S × ℕ) Flow) (k : Run S Flow) → RunCounts m k → RunCounts {S = S} (after_turn ev o m) (after_turn uncounted o k)
  after_turn_counts None m k h = h
  after_turn_counts (Some f) m k h = give_counts _

  turns_counts : (k : ℕ) (scope : List Seg) (depth : ℕ) (c : Tree) (ts : Trees) → RunCounts {S = S} (turns ev k scope depth c ts) (turns uncounted k scope depth c ts)
  unfolding turns
  turns_counts zero scope depth c ts = stop_counts _
  turns_counts (suc k) scope depth c ts = then_counts _ _ _ _ (turn_counts scope depth c ts) (λ f. after_turn_counts (loop_end f) _ _ (turns_counts k scope depth c ts))

  loop_counts : (scope : List Seg) (depth : ℕ) (c : Tree) (ts : Trees) → RunCounts {S = S} (loop ev scope depth c ts) (loop uncounted scope depth c ts)
  unfolding loop
  loop_counts scope depth c ts = record { same = λ s. (turns_counts (suc s.1) scope depth c ts).same s; leads = λ s. (turns_counts (suc s.1) scope depth c ts).leads s }

  while_rule_counts : (scope : List Seg) (depth : ℕ) (t : Tree) → RunCounts {S = S} (while_rule ev scope depth t) (while_rule uncounted scope depth t)
  unfolding while_rule
  while_rule_counts scope depth t = then_counts _ _ _ _ (settle_counts _) (λ c. then_counts _ _ _ _ (settle_counts _) (λ ts. loop_counts scope depth c ts))

  return_rule_counts : (scope : List Seg) (depth : ℕ) (t : Tree) → RunCounts {S = S} (return_rule ev scope depth t) (return_rule uncounted scope depth t)
  unfolding return_rule
  return_rule_counts scope depth t = then_counts _ _ _ _ (value_at_counts accesses ev uncounted parts scope depth t 0) (λ v. give_counts _)

  release_rule_counts : (scope : List Seg) (depth : ℕ) (t : Tree) → RunCounts {S = S} (release_rule ev scope depth t) (release_rule uncounted scope depth t)
  unfolding release_rule
  release_rule_counts scope depth t = then_counts _ _ _ _ (target_at_counts scope depth t 0) (λ q. then_counts _ _ _ _ (lift_counts _ _ (given_back_at_counts q)) (λ done. give_counts _))

  notify_rule_counts : (scope : List Seg) (depth : ℕ) (t : Tree) → RunCounts {S = S} (notify_rule ev scope depth t) (notify_rule uncounted scope depth t)
  unfolding notify_rule
  notify_rule_counts scope depth t = then_counts _ _ _ _ (target_at_counts scope depth t 0) (λ q. then_counts _ _ _ _ (value_at_counts accesses ev uncounted parts scope depth t 1) (λ v. give_counts _))

  pause_rule_counts : (scope : List Seg) (depth : ℕ) (t : Tree) → RunCounts {S = S} (pause_rule ev scope depth t) (pause_rule uncounted scope depth t)
  unfolding pause_rule
  pause_rule_counts scope depth t = then_counts _ _ _ _ (value_at_counts accesses ev uncounted parts scope depth t 0) (λ v. give_counts _)

  fatal_rule_counts : (scope : List Seg) (depth : ℕ) (t : Tree) → RunCounts {S = S} (fatal_rule ev scope depth t) (fatal_rule uncounted scope depth t)
  unfolding fatal_rule
  fatal_rule_counts scope depth t = then_counts _ _ _ _ (value_at_counts accesses ev uncounted parts scope depth t 2) (λ v. stop_counts _)

  statement_rule_counts : (k : StatementKind) (scope : List Seg) (depth : ℕ) (t : Tree) → RunCounts {S = S} (statement_rule ev k scope depth t) (statement_rule uncounted k scope depth t)
  statement_rule_counts statements.If scope depth t = if_rule_counts scope depth t
  statement_rule_counts statements.Else scope depth t = else_rule_counts scope depth t
  statement_rule_counts statements.While scope depth t = while_rule_counts scope depth t
  statement_rule_counts statements.Break scope depth t = give_counts _
  statement_rule_counts statements.Continue scope depth t = give_counts _
  statement_rule_counts statements.Noop scope depth t = give_counts _
  statement_rule_counts statements.Return scope depth t = return_rule_counts scope depth t
  statement_rule_counts statements.Release scope depth t = release_rule_counts scope depth t
  statement_rule_counts statements.Notify scope depth t = notify_rule_counts scope depth t
  statement_rule_counts statements.Pause scope depth t = pause_rule_counts scope depth t
  statement_rule_counts statements.Fatal scope depth t = fatal_rule_counts scope depth t

  -- ---- calls

  arguments_in_turn_counts : (scope : List Seg) (depth : ℕ) (ts : Trees) (done : List Value) → RunCounts {S = S} (arguments_in_turn ev scope depth ts done) (arguments_in_turn uncounted scope depth ts done)
  unfolding arguments_in_turn
  arguments_in_turn_counts scope depth no_trees done = give_counts _
  arguments_in_turn_counts scope depth (tree t ts) done = then_counts _ _ _ _ (operand_value_counts accesses ev uncounted parts scope depth t) (λ v. arguments_in_turn_counts scope depth ts _)

  osi_rule_counts : (scope : List Seg) (depth : ℕ) (ts : Trees) → RunCounts {S = S} (osi_rule ev scope depth ts) (osi_rule uncounted scope depth ts)
  unfolding osi_rule
  osi_rule_counts scope depth ts = then_counts _ _ _ _ (arguments_in_turn_counts scope depth ts _) (λ arguments. then_counts _ _ _ _ (lift_counts _ _ (call_allowed_counts _)) (λ few. then_counts _ _ _ _ (lift_counts _ _ (osi_answered_counts arguments)) (λ v. give_counts _)))

  invocation_rule_counts : (scope : List Seg) (depth : ℕ) (ts : Trees) (i : Invocation) → RunCounts {S = S} (invocation_rule (beside_counter accesses) ev scope depth ts i) (invocation_rule accesses uncounted scope depth ts i)
  unfolding field_rule call_rule
  invocation_rule_counts scope depth ts (invocations.Value v) = give_counts _
  invocation_rule_counts scope depth ts (invocations.Field f) = then_counts _ _ _ _ (field_read_counts accesses ev uncounted parts depth f) (λ v. give_counts _)
  invocation_rule_counts scope depth ts (invocations.Method q body) = then_counts _ _ _ _ (arguments_in_turn_counts scope depth ts _) (λ arguments. invoked_counts accesses ev uncounted parts depth q body arguments)
  invocation_rule_counts scope depth ts invocations.Osi = osi_rule_counts scope depth ts

  name_value_counts : (scope : List Seg) (depth : ℕ) (t : Tree) → RunCounts {S = S} (name_value (beside_counter accesses) ev scope depth t) (name_value accesses uncounted scope depth t)
  unfolding name_value
  name_value_counts scope depth t = then_counts _ _ _ _ (settle_counts _) (λ x. then_counts _ _ _ _ (settle_counts _) (λ ts. then_counts _ _ _ _ (lift_counts _ _ (invocation_found_counts scope x (count_of ts))) (invocation_rule_counts scope depth ts)))

  -- ---- operation regions and fields

  pub region_rule_counts : (scope : List Seg) (depth : ℕ) (t : Tree) → RunCounts {S = S} (region_rule ev scope depth t) (region_rule uncounted scope depth t)
  unfolding region_rule
  region_rule_counts scope depth t =
      then_counts _ _ _ _ (settle_counts _) (λ space. then_counts _ _ _ _ (value_at_counts accesses ev uncounted parts scope depth t 2) (λ offset. then_counts _ _ _ _ (value_at_counts accesses ev uncounted parts scope depth t 3) (λ size. then_counts _ _ _ _ (lift_counts _ _ (integer_in_counts offset)) (λ x. then_counts _ _ _ _ (lift_counts _ _ (integer_in_counts size)) (λ y. declaring_counts scope depth t _ _)))))

  region_term_rule_counts : (k : RegionKind) (scope : List Seg) (depth : ℕ) (t : Tree) → RunCounts {S = S} (region_term_rule ev k scope depth t) (region_term_rule uncounted k scope depth t)
  unfolding field_list_rule index_list_rule fields_laid sized_field_rule bits_field_rule
  region_term_rule_counts regions.OperationRegion scope depth t = region_rule_counts scope depth t
  region_term_rule_counts regions.Field scope depth t =
      then_counts _ _ _ _ (settle_counts _) (λ ts. then_counts _ _ _ _ (lift_counts _ _ (connections_asked_counts _ ts)) (λ asked. then_counts _ _ _ _ (settle_counts _) (λ x. then_counts _ _ _ _ (lift_counts _ _ (region_found_counts scope x)) (λ region. then_counts _ _ _ _ (settle_counts _) (λ flags. then_counts _ _ _ _ (lift_counts _ _ (elements_laid_counts _ scope depth _ ts)) (λ laid. give_counts _))))))
  region_term_rule_counts regions.IndexField scope depth t =
      then_counts _ _ _ _ (settle_counts _) (λ ts. then_counts _ _ _ _ (lift_counts _ _ (connections_asked_counts _ ts)) (λ asked. then_counts _ _ _ _ (settle_counts _) (λ x. then_counts _ _ _ _ (lift_counts _ _ (field_found_counts scope x)) (λ index. then_counts _ _ _ _ (settle_counts _) (λ y. then_counts _ _ _ _ (lift_counts _ _ (field_found_counts scope y)) (λ behind. then_counts _ _ _ _ (settle_counts _) (λ flags. then_counts _ _ _ _ (lift_counts _ _ (elements_laid_counts _ scope depth _ ts)) (λ laid. give_counts _))))))))
  region_term_rule_counts (regions.SizedBufferField size) scope depth t =
      then_counts _ _ _ _ (two_values_counts accesses ev uncounted parts scope depth t) (λ x. then_counts _ _ _ _ (settle_counts _) (λ o. then_counts _ _ _ _ (lift_counts _ _ (integer_in_counts _)) (λ i. then_counts _ _ _ _ (lift_counts _ _ (on_objects_counts _)) (λ b. declaring_counts scope depth t _ _))))
  region_term_rule_counts regions.BufferField scope depth t =
      then_counts _ _ _ _ (value_at_counts accesses ev uncounted parts scope depth t 0) (λ source. then_counts _ _ _ _ (value_at_counts accesses ev uncounted parts scope depth t 1) (λ index. then_counts _ _ _ _ (value_at_counts accesses ev uncounted parts scope depth t 2) (λ count. then_counts _ _ _ _ (settle_counts _) (λ o. then_counts _ _ _ _ (lift_counts _ _ (integer_in_counts index)) (λ i. then_counts _ _ _ _ (lift_counts _ _ (integer_in_counts count)) (λ n.
      then_counts _ _ _ _ (settle_counts _) (λ bits. then_counts _ _ _ _ (lift_counts _ _ (on_objects_counts _)) (λ b. declaring_counts scope depth t _ _))))))))

  -- ---- which rule

  kind_rule_counts : (k : TermKind) (op : Opcode) (scope : List Seg) (depth : ℕ) (t : Tree) → RunCounts {S = S} (kind_rule (beside_counter accesses) ev k op scope depth t) (kind_rule accesses uncounted k op scope depth t)
  kind_rule_counts (kinds.Data k) op scope depth t = data_rule_counts k scope depth t
  kind_rule_counts (kinds.Declaration k) op scope depth t = declaration_rule_counts k scope depth t
  kind_rule_counts (kinds.Region k) op scope depth t = region_term_rule_counts k scope depth t
  kind_rule_counts (kinds.Operator k) op scope depth t = operator_rule_counts k scope depth t
  kind_rule_counts (kinds.Statement k) op scope depth t = statement_rule_counts k scope depth t
  kind_rule_counts (kinds.Wide k) op scope depth t = in_wide_counts accesses ev uncounted parts target_at_counts targeted_counts op k scope depth t
  kind_rule_counts kinds.Unsupported op scope depth t = stop_counts _

  code_rule_counts : (c : TermCode) (scope : List Seg) (depth : ℕ) (t : Tree) → RunCounts {S = S} (code_rule (beside_counter accesses) ev c scope depth t) (code_rule accesses uncounted c scope depth t)
  code_rule_counts (codes.Opcode op) scope depth t = kind_rule_counts (kind_of op) op scope depth t
  code_rule_counts codes.MethodInvocation scope depth t = name_value_counts scope depth t
  code_rule_counts codes.Name scope depth t = stop_counts _
  code_rule_counts codes.NamedField scope depth t = stop_counts _
  code_rule_counts codes.ReservedField scope depth t = stop_counts _
  code_rule_counts codes.AccessField scope depth t = stop_counts _
  code_rule_counts codes.ExtendedAccessField scope depth t = stop_counts _
  code_rule_counts codes.ConnectField scope depth t = stop_counts _

  pub rule_counts : (t : Task) → RunCounts {S = S} (rule (beside_counter accesses) ev t) (rule accesses uncounted t)
  unfolding rule
  rule_counts t = code_rule_counts (code_of t.term) t.scope t.depth t.term
