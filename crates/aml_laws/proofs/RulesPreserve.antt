-- The rule of each term preserves every world relation, where its parts do; so every evaluation does.
use Rattle.std.specs.Prelude.{◌≡◌, ℕ, zero, suc, List, [], Bool, true, false, Option, Some, None, refl}
use Rattle.ar_space.specs.Accesses.{Accesses}
use Rattle.aml_path.specs.declared.segment.Seg.{Seg}
use Rattle.aml_grammar.specs.declared.opcode.Opcode.{Opcode}
use Rattle.aml_grammar.specs.declared.opcode.TermCode.{TermCode}
use Rattle.aml_grammar.specs.declared.opcode.TermCode.TheVariants as codes
use Rattle.aml_grammar.specs.Tree.{Tree, term, Trees, no_trees, tree, Part, null, name, number, bytes, inner, list, Parts, no_parts, part}
use Rattle.aml_grammar.specs.Apart.{code_of, operand_of}
use Rattle.aml_objects.specs.declared.value.Value.{Value}
use Rattle.aml_objects.specs.declared.value.Slot.{Slot}
use Rattle.aml_objects.specs.declared.object.Element.{Element}
use Rattle.aml_objects.specs.declared.entry.NamedObject.{NamedObject}
use Rattle.aml_world.specs.declared.values.operation_kind.OneOperand.{OneOperand}
use Rattle.aml_world.specs.declared.values.operation_kind.TwoOperands.{TwoOperands}
use Rattle.aml_world.specs.declared.values.operation_kind.Test.{Test}
use Rattle.aml_world.specs.declared.values.operation_kind.Count.{Count}
use Rattle.aml_world.specs.declared.state.invocation.Invocation.{Invocation}
use Rattle.aml_world.specs.declared.state.invocation.Invocation.TheVariants as invocations
use Rattle.aml_world.specs.declared.values.store_target.StoreTarget.{StoreTarget}
use Rattle.aml_world.specs.state.State.{State}
use Rattle.aml_world.specs.state.Run.{Run}
use Rattle.aml_meaning.specs.declared.flow.Flow.{Flow}
use Rattle.aml_meaning.specs.declared.term_kind.TermKind.{TermKind}
use Rattle.aml_meaning.specs.declared.term_kind.TermKind.TheVariants as kinds
use Rattle.aml_meaning.specs.declared.term_kind.DataKind.{DataKind}
use Rattle.aml_meaning.specs.declared.term_kind.DataKind.TheVariants as datas
use Rattle.aml_meaning.specs.declared.term_kind.DeclarationKind.{DeclarationKind}
use Rattle.aml_meaning.specs.declared.term_kind.DeclarationKind.TheVariants as declarations
use Rattle.aml_meaning.specs.declared.term_kind.OperatorKind.{OperatorKind}
use Rattle.aml_meaning.specs.declared.term_kind.OperatorKind.TheVariants as operators
use Rattle.aml_meaning.specs.declared.term_kind.StatementKind.{StatementKind}
use Rattle.aml_meaning.specs.declared.term_kind.StatementKind.TheVariants as statements
use Rattle.aml_objects.specs.declared.value.Reference.{Reference}
use Rattle.aml_meaning.specs.declared.term_kind.TargetKind.{TargetKind}
use Rattle.aml_meaning.specs.declared.term_kind.TargetKind.TheVariants as target
use Rattle.aml_meaning.specs.declared.term_kind.RegionKind.{RegionKind}
use Rattle.aml_meaning.specs.declared.term_kind.RegionKind.TheVariants as regions
use Rattle.aml_meaning.specs.Terms.{kind_of, target_kind, count_of}
use Rattle.aml_meaning.specs.Tasks.{Task, in_turn}
use Rattle.aml_meaning.specs.DataTerms.{constant_rule, integer_rule, string_rule, buffer_rule, named_element, valued_element, element_by, elements_in_turn, package_of, package_rule, var_package_rule, data_rule}
use Rattle.aml_meaning.specs.DeclarationTerms.{declaring, name_rule, alias_rule, method_rule, scope_rule, new_scope, declaration_rule}
use Rattle.aml_meaning.specs.TargetTerms.{indexed_target, dereferenced_target, target_by_kind, target_of, first_target, part_target, name_target, target_by, target_at, targeted}
use Rattle.aml_meaning.specs.OperatorTerms.{slot_rule, store_rule, copy_rule, two_rule, divide_rule, one_rule, test_rule, lnot_rule, count_rule, referent_of_value, referent_of_target, referent_by_kind, referent_by, size_rule, type_rule, acquire_rule, reference_rule, dereference_rule, sought_name, sought_target, sought, reference_stored, reference_found, conditional_rule, operator_rule}
use Rattle.aml_meaning.specs.StatementTerms.{otherwise, branch, if_rule, else_rule, turn_of, turn, loop_end, after_turn, turns, loop, while_rule, return_rule, release_rule, notify_rule, pause_rule, fatal_rule, statement_rule}
use Rattle.aml_meaning.specs.InvocationTerms.{arguments_in_turn, call_rule, osi_rule, field_rule, invocation_rule, name_value}
use Rattle.aml_meaning.specs.FieldTerms.{fields_laid, region_rule, field_list_rule, index_list_rule, sized_field_rule, bits_field_rule, region_term_rule}
use Rattle.aml_laws.proofs.FieldsPreserve.{elements_laid_preserves, region_found_preserves, field_found_preserves}
use Rattle.aml_meaning.specs.Evaluation.{kind_rule, code_rule, rule}
use Rattle.aml_meaning.specs.Meaning.{meaning, evaluated_within}
use Rattle.aml_laws.proofs.ObjectKinds.{make_string_keeps_kinds, new_buffer_field_keeps_kinds}
use Rattle.aml_laws.proofs.FieldUnitsFound.{RunFinds, last_finds, lift_finds, units_referred, target_read_finds, dereferenced_finds, value_referent_finds, target_referent_finds, copied_to_finds}
use Rattle.aml_laws.proofs.KnownFieldUnits.{by_any, give_by, then_by, found_then, from_standing}
use Rattle.aml_laws.proofs.FoundNamesStand.{MethodStandsAt}
use Rattle.aml_laws.proofs.LocatedRegions.{IsAsMeant, meant, bounded}
use Rattle.aml_laws.proofs.WorldRelations.{PartsLead, Levels, always, WorldRelation, RunPreserves, RunPreservesFrom, CalledStands, units_of_field, on_objects_preserves, run_give_preserves, run_stop_preserves, run_settle_preserves, lift_preserves, charge_preserves, run_then_preserves, found_then_preserves, run_preserves_from, then_preserves_from}
use Rattle.aml_laws.proofs.ChangesPreserve.{integer_kept_preserves, integer_in_preserves, path_found_preserves, scope_found_preserves, target_named_preserves, within_preserves, new_buffer_preserves, new_package_preserves, new_name_preserves, new_method_preserves, divided_in_preserves, lnot_preserves, size_in_preserves, result_of_two_preserves, result_of_one_preserves, result_of_test_preserves, counted_by_preserves, osi_answered_preserves, invocation_found_finds_invocation, call_allowed_preserves}
use Rattle.aml_laws.proofs.StoreTargetsPreserve.{slot_read_preserves, tested_preserves, dereferenced_preserves, target_read_preserves, reference_of_preserves, if_initialized_preserves, reference_if_found_preserves, target_referent_preserves, value_referent_preserves, copied_to_preserves, acquired_at_preserves, given_back_at_preserves}
use Rattle.aml_laws.proofs.OperandsAndCallsPreserve.{at_all_depths, operand_value_leads, operand_integer_preserves, value_at_leads, two_values_leads, in_turn_leads, invoked_leads_from, field_read_preserves, held_integer_preserves, referent_read_preserves, completed_preserves, stored_to_preserves, held_value_preserves, stored_back_preserves}
use Rattle.aml_laws.proofs.WideTermsPreserve.{connections_asked_preserves, in_wide_preserves}

module _ {S : Type 0} {accesses : Accesses S} {levels : Levels accesses} (ev : Task → Run S Flow) (parts : PartsLead levels ev) where
  constant_rule_preserves : {depth : ℕ} (k : ℕ) → RunPreserves (levels.at depth) (constant_rule ev k)
  unfolding constant_rule
  constant_rule_preserves k = run_then_preserves _ _ (lift_preserves _ (integer_kept_preserves k)) (λ v. run_give_preserves _)

  buffer_rule_preserves : (scope : List Seg) (depth : ℕ) (t : Tree) → RunPreserves (levels.at depth) (buffer_rule ev scope depth t)
  unfolding buffer_rule
  buffer_rule_preserves scope depth t = run_then_preserves _ _ (run_settle_preserves _) (λ size. run_then_preserves _ _ (operand_integer_preserves ev parts scope depth size) (λ k. run_then_preserves _ _ (run_settle_preserves _) (λ bytes. run_then_preserves _ _ (lift_preserves _ (new_buffer_preserves k bytes)) (λ v. run_give_preserves _))))

  named_element_preserves : {depth : ℕ} (scope : List Seg) (t : Tree) → RunPreserves (levels.at depth) (named_element ev scope t)
  unfolding named_element
  named_element_preserves scope t = run_then_preserves _ _ charge_preserves (λ u. run_then_preserves _ _ (run_settle_preserves _) (λ x. run_give_preserves _))

  valued_element_preserves : (scope : List Seg) (depth : ℕ) (t : Tree) → RunPreserves (levels.at depth) (valued_element ev scope depth t)
  unfolding valued_element
  valued_element_preserves scope depth t = run_then_preserves _ _ (operand_value_leads ev parts scope depth t) (λ v. run_give_preserves _)

  element_by_preserves : (c : TermCode) (scope : List Seg) (depth : ℕ) (t : Tree) → RunPreserves (levels.at depth) (element_by ev c scope depth t)
  element_by_preserves codes.Name scope depth t = named_element_preserves scope t
  element_by_preserves (codes.Opcode op) scope depth t = valued_element_preserves scope depth t
  element_by_preserves codes.MethodInvocation scope depth t = valued_element_preserves scope depth t
  element_by_preserves codes.NamedField scope depth t = valued_element_preserves scope depth t
  element_by_preserves codes.ReservedField scope depth t = valued_element_preserves scope depth t
  element_by_preserves codes.AccessField scope depth t = valued_element_preserves scope depth t
  element_by_preserves codes.ExtendedAccessField scope depth t = valued_element_preserves scope depth t
  element_by_preserves codes.ConnectField scope depth t = valued_element_preserves scope depth t

  elements_in_turn_preserves : (scope : List Seg) (depth k : ℕ) (ts : Trees) (done : List Element) → RunPreserves (levels.at depth) (elements_in_turn ev scope depth k ts done)
  unfolding elements_in_turn
  elements_in_turn_preserves scope depth zero ts done = run_give_preserves _
  elements_in_turn_preserves scope depth (suc k) no_trees done = run_give_preserves _
  elements_in_turn_preserves scope depth (suc k) (tree t ts) done = run_then_preserves _ _ (element_by_preserves (code_of t) scope depth t) (λ e. elements_in_turn_preserves scope depth k ts _)

  package_of_preserves : (scope : List Seg) (depth k : ℕ) (ts : Trees) → RunPreserves (levels.at depth) (package_of ev scope depth k ts)
  unfolding package_of
  package_of_preserves scope depth k ts = run_then_preserves _ _ (elements_in_turn_preserves scope depth k ts _) (λ es. run_then_preserves _ _ (lift_preserves _ (new_package_preserves k es)) (λ v. run_give_preserves _))

  package_rule_preserves : (scope : List Seg) (depth : ℕ) (t : Tree) → RunPreserves (levels.at depth) (package_rule ev scope depth t)
  unfolding package_rule
  package_rule_preserves scope depth t = run_then_preserves _ _ (run_settle_preserves _) (λ k. run_then_preserves _ _ (run_settle_preserves _) (λ ts. package_of_preserves scope depth k ts))

  var_package_rule_preserves : (scope : List Seg) (depth : ℕ) (t : Tree) → RunPreserves (levels.at depth) (var_package_rule ev scope depth t)
  unfolding var_package_rule
  var_package_rule_preserves scope depth t = run_then_preserves _ _ (run_settle_preserves _) (λ size. run_then_preserves _ _ (operand_integer_preserves ev parts scope depth size) (λ k. run_then_preserves _ _ (lift_preserves _ (within_preserves _ k)) (λ u. run_then_preserves _ _ (run_settle_preserves _) (λ ts. package_of_preserves scope depth k ts))))

  pub declaring_preserves : (scope : List Seg) (depth : ℕ) (t : Tree) (position : ℕ) (o : NamedObject) → RunPreserves (levels.at depth) (declaring ev scope depth t position o)
  unfolding declaring
  declaring_preserves scope depth t position o = run_then_preserves _ _ (run_settle_preserves _) (λ x. run_then_preserves _ _ (run_settle_preserves _) (λ q. run_then_preserves _ _ (lift_preserves _ (new_name_preserves _ q o)) (λ u. run_give_preserves _)))

  name_rule_preserves : (scope : List Seg) (depth : ℕ) (t : Tree) → RunPreserves (levels.at depth) (name_rule ev scope depth t)
  unfolding name_rule
  name_rule_preserves scope depth t = run_then_preserves _ _ (run_settle_preserves _) (λ d. run_then_preserves _ _ (operand_value_leads ev parts scope depth d) (λ v. declaring_preserves scope depth t _ _))

  new_scope_preserves : (o : NamedObject) (place : ℕ) (scope : List Seg) (depth : ℕ) (t : Tree) → RunPreserves (levels.at depth) (new_scope ev o place scope depth t)
  unfolding new_scope
  new_scope_preserves o place scope depth t = run_then_preserves _ _ (run_settle_preserves _) (λ x. run_then_preserves _ _ (run_settle_preserves _) (λ q. run_then_preserves _ _ (lift_preserves _ (new_name_preserves _ q o)) (λ u. run_then_preserves _ _ (run_settle_preserves _) (λ ts. in_turn_leads ev parts q depth ts))))

  scope_rule_preserves : (scope : List Seg) (depth : ℕ) (t : Tree) → RunPreserves (levels.at depth) (scope_rule ev scope depth t)
  unfolding scope_rule
  scope_rule_preserves scope depth t = run_then_preserves _ _ (run_settle_preserves _) (λ x. run_then_preserves _ _ (lift_preserves _ (scope_found_preserves scope x)) (λ q. run_then_preserves _ _ (run_settle_preserves _) (λ ts. in_turn_leads ev parts q depth ts)))

  alias_rule_preserves : (scope : List Seg) (depth : ℕ) (t : Tree) → RunPreserves (levels.at depth) (alias_rule ev scope depth t)
  unfolding alias_rule
  alias_rule_preserves scope depth t = run_then_preserves _ _ (run_settle_preserves _) (λ x. run_then_preserves _ _ (lift_preserves _ (path_found_preserves scope x)) (λ target. run_then_preserves _ _ (run_settle_preserves _) (λ y. run_then_preserves _ _ (run_settle_preserves _) (λ q. run_then_preserves _ _ (lift_preserves _ (new_name_preserves _ q _)) (λ u. run_give_preserves _)))))

  method_rule_preserves : (scope : List Seg) (depth : ℕ) (t : Tree) → RunPreserves (levels.at depth) (method_rule ev scope depth t)
  unfolding method_rule
  method_rule_preserves scope depth t = run_then_preserves _ _ (run_settle_preserves _) (λ x. run_then_preserves _ _ (run_settle_preserves _) (λ q. run_then_preserves _ _ (run_settle_preserves _) (λ flags. run_then_preserves _ _ (run_settle_preserves _) (λ body. run_then_preserves _ _ (lift_preserves _ (new_method_preserves _ q _ body)) (λ u. run_give_preserves _)))))

  string_rule_preserves : {depth : ℕ} (t : Tree) → RunPreserves (levels.at depth) (string_rule ev t)
  unfolding string_rule
  string_rule_preserves t = run_then_preserves _ _ (run_settle_preserves _) (λ x. run_then_preserves _ _ (lift_preserves _ (on_objects_preserves _ (make_string_keeps_kinds x))) (λ v. run_give_preserves _))

  integer_rule_preserves : {depth : ℕ} (t : Tree) → RunPreserves (levels.at depth) (integer_rule ev t)
  unfolding integer_rule
  integer_rule_preserves t = run_then_preserves _ _ (run_settle_preserves _) (λ k. constant_rule_preserves k)

  data_rule_preserves : (k : DataKind) (scope : List Seg) (depth : ℕ) (t : Tree) → RunPreserves (levels.at depth) (data_rule ev k scope depth t)
  data_rule_preserves (datas.Constant k) scope depth t = constant_rule_preserves k
  data_rule_preserves datas.Integer scope depth t = integer_rule_preserves t
  data_rule_preserves datas.String scope depth t = string_rule_preserves t
  data_rule_preserves datas.Buffer scope depth t = buffer_rule_preserves scope depth t
  data_rule_preserves datas.Package scope depth t = package_rule_preserves scope depth t
  data_rule_preserves datas.VarPackage scope depth t = var_package_rule_preserves scope depth t

  declaration_rule_preserves : (k : DeclarationKind) (scope : List Seg) (depth : ℕ) (t : Tree) → RunPreserves (levels.at depth) (declaration_rule ev k scope depth t)
  declaration_rule_preserves declarations.Scope scope depth t = scope_rule_preserves scope depth t
  declaration_rule_preserves declarations.Device scope depth t = new_scope_preserves _ _ scope depth t
  declaration_rule_preserves declarations.Processor scope depth t = new_scope_preserves _ _ scope depth t
  declaration_rule_preserves declarations.PowerResource scope depth t = new_scope_preserves _ _ scope depth t
  declaration_rule_preserves declarations.ThermalZone scope depth t = new_scope_preserves _ _ scope depth t
  declaration_rule_preserves declarations.Name scope depth t = name_rule_preserves scope depth t
  declaration_rule_preserves declarations.Alias scope depth t = alias_rule_preserves scope depth t
  declaration_rule_preserves declarations.External scope depth t = run_give_preserves _
  declaration_rule_preserves declarations.Method scope depth t = method_rule_preserves scope depth t
  declaration_rule_preserves declarations.Mutex scope depth t = declaring_preserves scope depth t _ _
  declaration_rule_preserves declarations.Event scope depth t = declaring_preserves scope depth t _ _

  -- ---- places and operators

  indexed_target_preserves : (scope : List Seg) (depth : ℕ) (t : Tree) → RunPreserves (levels.at depth) (indexed_target ev scope depth t)
  unfolding indexed_target
  indexed_target_preserves scope depth t = run_then_preserves _ _ (operand_value_leads ev parts scope depth t) (λ v. run_then_preserves _ _ (run_settle_preserves _) (λ r. run_give_preserves _))

  dereferenced_target_preserves : (scope : List Seg) (depth : ℕ) (t : Tree) → RunPreserves (levels.at depth) (dereferenced_target ev scope depth t)
  unfolding dereferenced_target
  dereferenced_target_preserves scope depth t = run_then_preserves _ _ charge_preserves (λ u. run_then_preserves _ _ (value_at_leads ev parts scope depth t 0) (λ v. run_then_preserves _ _ (run_settle_preserves _) (λ r. run_then_preserves _ _ (lift_preserves _ (tested_preserves r)) (λ there. run_give_preserves _))))

  target_by_kind_preserves : (scope : List Seg) (depth : ℕ) (t : Tree) (m : Run S StoreTarget) (kind : TargetKind) → RunPreserves (levels.at depth) m → RunPreserves (levels.at depth) (target_by_kind ev scope depth t m kind)
  target_by_kind_preserves scope depth t m target.Nowhere h = run_give_preserves _
  target_by_kind_preserves scope depth t m (target.Slot slot) h = run_give_preserves _
  target_by_kind_preserves scope depth t m target.RefOf h = run_then_preserves _ _ charge_preserves (λ u. h)
  target_by_kind_preserves scope depth t m target.DerefOf h = dereferenced_target_preserves scope depth t
  target_by_kind_preserves scope depth t m target.Index h = indexed_target_preserves scope depth t
  target_by_kind_preserves scope depth t m target.Other h = run_stop_preserves _

  mutual
    unfolding target_of

    target_of_preserves : (scope : List Seg) (depth : ℕ) (t : Tree) → RunPreserves (levels.at depth) (target_of ev scope depth t)
    target_of_preserves scope depth (term c ps) = target_by_kind_preserves scope depth (term c ps) _ (target_kind c) (first_target_preserves scope depth ps)

    first_target_preserves : (scope : List Seg) (depth : ℕ) (ps : Parts) → RunPreserves (levels.at depth) (first_target ev scope depth ps)
    first_target_preserves scope depth no_parts = run_stop_preserves _
    first_target_preserves scope depth (part p ps) = part_target_preserves scope depth p

    part_target_preserves : (scope : List Seg) (depth : ℕ) (p : Part) → RunPreserves (levels.at depth) (part_target ev scope depth p)
    part_target_preserves scope depth null = run_give_preserves _
    part_target_preserves scope depth (name x) = lift_preserves _ (target_named_preserves scope x)
    part_target_preserves scope depth (number k) = run_stop_preserves _
    part_target_preserves scope depth (bytes bs) = run_stop_preserves _
    part_target_preserves scope depth (inner u) = target_of_preserves scope depth u
    part_target_preserves scope depth (list ts) = run_stop_preserves _

  name_target_preserves : {depth : ℕ} (scope : List Seg) (t : Tree) (i : ℕ) → RunPreserves (levels.at depth) (name_target ev scope t i)
  unfolding name_target
  name_target_preserves scope t i = run_then_preserves _ _ (run_settle_preserves _) (λ x. lift_preserves _ (target_named_preserves scope x))

  target_by_preserves : (scope : List Seg) (depth : ℕ) (t : Tree) (i : ℕ) (o : Option Part) → RunPreserves (levels.at depth) (target_by ev scope depth t i o)
  target_by_preserves scope depth t i None = run_stop_preserves _
  target_by_preserves scope depth t i (Some null) = run_give_preserves _
  target_by_preserves scope depth t i (Some (name x)) = name_target_preserves scope t i
  target_by_preserves scope depth t i (Some (number k)) = run_stop_preserves _
  target_by_preserves scope depth t i (Some (bytes bs)) = run_stop_preserves _
  target_by_preserves scope depth t i (Some (inner u)) = target_of_preserves scope depth u
  target_by_preserves scope depth t i (Some (list ts)) = run_stop_preserves _

  target_at_preserves : (scope : List Seg) (depth : ℕ) (t : Tree) (i : ℕ) → RunPreserves (levels.at depth) (target_at ev scope depth t i)
  target_at_preserves scope depth t i = target_by_preserves scope depth t i (operand_of t i)

  targeted_preserves : (scope : List Seg) (depth : ℕ) (t : Tree) (i : ℕ) (v : Value) → RunPreserves (levels.at depth) (targeted accesses ev scope depth t i v)
  unfolding targeted
  targeted_preserves scope depth t i v = run_then_preserves _ _ (target_at_preserves scope depth t i) (λ q. run_then_preserves _ _ (stored_to_preserves ev parts depth q v) (λ done. run_give_preserves _))

  slot_rule_preserves : {depth : ℕ} (slot : Slot) → RunPreserves (levels.at depth) (slot_rule accesses ev slot)
  unfolding slot_rule
  slot_rule_preserves slot = run_then_preserves _ _ (lift_preserves _ (slot_read_preserves slot)) (λ v. run_give_preserves _)

  store_rule_preserves : (scope : List Seg) (depth : ℕ) (t : Tree) → RunPreserves (levels.at depth) (store_rule accesses ev scope depth t)
  unfolding store_rule
  store_rule_preserves scope depth t = run_then_preserves _ _ (value_at_leads ev parts scope depth t 0) (λ v. targeted_preserves scope depth t 1 v)

  copy_rule_preserves : (scope : List Seg) (depth : ℕ) (t : Tree) → RunPreserves (levels.at depth) (copy_rule accesses ev scope depth t)
  unfolding copy_rule
  copy_rule_preserves scope depth t = run_then_preserves _ _ (value_at_leads ev parts scope depth t 0) (λ v. run_then_preserves _ _ (target_at_preserves scope depth t 1) (λ q. found_then _ _ (lift_preserves _ (copied_to_preserves q v)) (lift_finds _ (copied_to_finds q v)) (λ s. then_by _ _ (completed_preserves ev parts [] depth s v) (λ done. give_by _))))

  two_rule_preserves : (k : TwoOperands) (scope : List Seg) (depth : ℕ) (t : Tree) → RunPreserves (levels.at depth) (two_rule accesses ev k scope depth t)
  unfolding two_rule
  two_rule_preserves k scope depth t = run_then_preserves _ _ (two_values_leads ev parts scope depth t) (λ x. run_then_preserves _ _ (lift_preserves _ (result_of_two_preserves k x.0 x.1)) (λ r. targeted_preserves scope depth t 2 r))

  divide_rule_preserves : (scope : List Seg) (depth : ℕ) (t : Tree) → RunPreserves (levels.at depth) (divide_rule accesses ev scope depth t)
  unfolding divide_rule
  divide_rule_preserves scope depth t = run_then_preserves _ _ (two_values_leads ev parts scope depth t) (λ x. run_then_preserves _ _ (lift_preserves _ (divided_in_preserves x.0 x.1)) (λ d. run_then_preserves _ _ (targeted_preserves scope depth t 2 _) (λ done. targeted_preserves scope depth t 3 _)))

  one_rule_preserves : (k : OneOperand) (scope : List Seg) (depth : ℕ) (t : Tree) → RunPreserves (levels.at depth) (one_rule accesses ev k scope depth t)
  unfolding one_rule
  one_rule_preserves k scope depth t = run_then_preserves _ _ (value_at_leads ev parts scope depth t 0) (λ v. run_then_preserves _ _ (lift_preserves _ (result_of_one_preserves k v)) (λ r. targeted_preserves scope depth t 1 r))

  test_rule_preserves : (k : Test) (scope : List Seg) (depth : ℕ) (t : Tree) → RunPreserves (levels.at depth) (test_rule accesses ev k scope depth t)
  unfolding test_rule
  test_rule_preserves k scope depth t = run_then_preserves _ _ (two_values_leads ev parts scope depth t) (λ x. run_then_preserves _ _ (lift_preserves _ (result_of_test_preserves k x.0 x.1)) (λ r. run_give_preserves _))

  lnot_rule_preserves : (scope : List Seg) (depth : ℕ) (t : Tree) → RunPreserves (levels.at depth) (lnot_rule accesses ev scope depth t)
  unfolding lnot_rule
  lnot_rule_preserves scope depth t = run_then_preserves _ _ (value_at_leads ev parts scope depth t 0) (λ v. run_then_preserves _ _ (lift_preserves _ (lnot_preserves v)) (λ r. run_give_preserves _))

  count_rule_preserves : (k : Count) (scope : List Seg) (depth : ℕ) (t : Tree) → RunPreserves (levels.at depth) (count_rule accesses ev k scope depth t)
  unfolding count_rule
  count_rule_preserves k scope depth t = run_then_preserves _ _ (target_at_preserves scope depth t 0) (λ q. found_then _ _ (lift_preserves _ (target_read_preserves q)) (lift_finds _ (target_read_finds q)) (λ h. then_by _ _ (held_integer_preserves ev parts [] depth h) (λ x. then_by _ _ (by_any _ _ (lift_preserves _ (counted_by_preserves k x))) (λ r. then_by _ _ (stored_back_preserves ev parts [] depth h q r) (λ done. give_by _)))))

  referent_of_value_preserves : (scope : List Seg) (depth : ℕ) (u : Tree) → RunPreserves (levels.at depth) (referent_of_value accesses ev scope depth u)
  unfolding referent_of_value
  referent_of_value_preserves scope depth u = run_then_preserves _ _ (operand_value_leads ev parts scope depth u) (λ v. lift_preserves _ (value_referent_preserves v))

  referent_of_target_preserves : (scope : List Seg) (depth : ℕ) (t : Tree) → RunPreserves (levels.at depth) (referent_of_target accesses ev scope depth t)
  unfolding referent_of_target
  referent_of_target_preserves scope depth t = run_then_preserves _ _ (target_at_preserves scope depth t 0) (λ q. lift_preserves _ (target_referent_preserves q))

  referent_by_kind_preserves : (scope : List Seg) (depth : ℕ) (t u : Tree) (k : TargetKind) → RunPreserves (levels.at depth) (referent_by_kind accesses ev scope depth t u k)
  referent_by_kind_preserves scope depth t u target.RefOf = referent_of_value_preserves scope depth u
  referent_by_kind_preserves scope depth t u target.DerefOf = referent_of_value_preserves scope depth u
  referent_by_kind_preserves scope depth t u target.Index = referent_of_value_preserves scope depth u
  referent_by_kind_preserves scope depth t u target.Nowhere = referent_of_target_preserves scope depth t
  referent_by_kind_preserves scope depth t u (target.Slot slot) = referent_of_target_preserves scope depth t
  referent_by_kind_preserves scope depth t u target.Other = referent_of_target_preserves scope depth t

  referent_by_preserves : (scope : List Seg) (depth : ℕ) (t : Tree) (o : Option Part) → RunPreserves (levels.at depth) (referent_by accesses ev scope depth t o)
  referent_by_preserves scope depth t None = referent_of_target_preserves scope depth t
  referent_by_preserves scope depth t (Some null) = referent_of_target_preserves scope depth t
  referent_by_preserves scope depth t (Some (name x)) = referent_of_target_preserves scope depth t
  referent_by_preserves scope depth t (Some (number k)) = referent_of_target_preserves scope depth t
  referent_by_preserves scope depth t (Some (bytes bs)) = referent_of_target_preserves scope depth t
  referent_by_preserves scope depth t (Some (inner u)) = referent_by_kind_preserves scope depth t u _
  referent_by_preserves scope depth t (Some (list ts)) = referent_of_target_preserves scope depth t

  -- what it refers to stands, where it is a field
  referent_of_value_finds : (scope : List Seg) (depth : ℕ) (u : Tree) → RunFinds units_referred (referent_of_value accesses ev scope depth u)
  unfolding referent_of_value
  referent_of_value_finds scope depth u = last_finds _ _ (λ v. lift_finds _ (value_referent_finds v))

  referent_of_target_finds : (scope : List Seg) (depth : ℕ) (t : Tree) → RunFinds units_referred (referent_of_target accesses ev scope depth t)
  unfolding referent_of_target
  referent_of_target_finds scope depth t = last_finds _ _ (λ q. lift_finds _ (target_referent_finds q))

  referent_by_kind_finds : (scope : List Seg) (depth : ℕ) (t u : Tree) (k : TargetKind) → RunFinds units_referred (referent_by_kind accesses ev scope depth t u k)
  referent_by_kind_finds scope depth t u target.RefOf = referent_of_value_finds scope depth u
  referent_by_kind_finds scope depth t u target.DerefOf = referent_of_value_finds scope depth u
  referent_by_kind_finds scope depth t u target.Index = referent_of_value_finds scope depth u
  referent_by_kind_finds scope depth t u target.Nowhere = referent_of_target_finds scope depth t
  referent_by_kind_finds scope depth t u (target.Slot slot) = referent_of_target_finds scope depth t
  referent_by_kind_finds scope depth t u target.Other = referent_of_target_finds scope depth t

  referent_by_finds : (scope : List Seg) (depth : ℕ) (t : Tree) (o : Option Part) → RunFinds units_referred (referent_by accesses ev scope depth t o)
  referent_by_finds scope depth t None = referent_of_target_finds scope depth t
  referent_by_finds scope depth t (Some null) = referent_of_target_finds scope depth t
  referent_by_finds scope depth t (Some (name x)) = referent_of_target_finds scope depth t
  referent_by_finds scope depth t (Some (number k)) = referent_of_target_finds scope depth t
  referent_by_finds scope depth t (Some (bytes bs)) = referent_of_target_finds scope depth t
  referent_by_finds scope depth t (Some (inner u)) = referent_by_kind_finds scope depth t u _
  referent_by_finds scope depth t (Some (list ts)) = referent_of_target_finds scope depth t

  size_rule_preserves : (scope : List Seg) (depth : ℕ) (t : Tree) → RunPreserves (levels.at depth) (size_rule accesses ev scope depth t)
  unfolding size_rule
  size_rule_preserves scope depth t = found_then _ _ (referent_by_preserves scope depth t _) (referent_by_finds scope depth t _) (λ r. then_by _ _ (referent_read_preserves ev parts [] depth r) (λ s. then_by _ _ (by_any _ _ (lift_preserves _ (size_in_preserves s))) (λ v. give_by _)))

  type_rule_preserves : (scope : List Seg) (depth : ℕ) (t : Tree) → RunPreserves (levels.at depth) (type_rule accesses ev scope depth t)
  unfolding type_rule
  type_rule_preserves scope depth t = found_then _ _ (referent_by_preserves scope depth t _) (referent_by_finds scope depth t _) (λ r. then_by _ _ (referent_read_preserves ev parts [] depth r) (λ s. give_by _))

  reference_rule_preserves : (scope : List Seg) (depth : ℕ) (t : Tree) → RunPreserves (levels.at depth) (reference_rule accesses ev scope depth t)
  unfolding reference_rule
  reference_rule_preserves scope depth t = run_then_preserves _ _ (target_at_preserves scope depth t 0) (λ q. run_then_preserves _ _ (lift_preserves _ (reference_of_preserves q)) (λ r. run_give_preserves _))

  dereference_rule_preserves : (scope : List Seg) (depth : ℕ) (t : Tree) → RunPreserves (levels.at depth) (dereference_rule accesses ev scope depth t)
  unfolding dereference_rule
  dereference_rule_preserves scope depth t = run_then_preserves _ _ (value_at_leads ev parts scope depth t 0) (λ v. run_then_preserves _ _ (run_settle_preserves _) (λ r. found_then _ _ (lift_preserves _ (dereferenced_preserves r)) (lift_finds _ (dereferenced_finds r)) (λ h. then_by _ _ (held_value_preserves ev parts [] depth h) (λ x. give_by _))))

  sought_name_preserves : {depth : ℕ} (scope : List Seg) (t : Tree) → RunPreserves (levels.at depth) (sought_name accesses ev scope t)
  unfolding sought_name
  sought_name_preserves scope t = run_then_preserves _ _ (run_settle_preserves _) (λ x. lift_preserves _ (reference_if_found_preserves scope x))

  sought_target_preserves : (scope : List Seg) (depth : ℕ) (t : Tree) → RunPreserves (levels.at depth) (sought_target accesses ev scope depth t)
  unfolding sought_target
  sought_target_preserves scope depth t = run_then_preserves _ _ (target_at_preserves scope depth t 0) (λ q. run_then_preserves _ _ (lift_preserves _ (reference_of_preserves q)) (λ r. lift_preserves _ (if_initialized_preserves r)))

  sought_preserves : (scope : List Seg) (depth : ℕ) (t : Tree) (o : Option Part) → RunPreserves (levels.at depth) (sought accesses ev scope depth t o)
  sought_preserves scope depth t None = sought_target_preserves scope depth t
  sought_preserves scope depth t (Some null) = sought_target_preserves scope depth t
  sought_preserves scope depth t (Some (name x)) = sought_name_preserves scope t
  sought_preserves scope depth t (Some (number k)) = sought_target_preserves scope depth t
  sought_preserves scope depth t (Some (bytes bs)) = sought_target_preserves scope depth t
  sought_preserves scope depth t (Some (inner u)) = sought_target_preserves scope depth t
  sought_preserves scope depth t (Some (list ts)) = sought_target_preserves scope depth t

  reference_found_preserves : (scope : List Seg) (depth : ℕ) (t : Tree) (o : Option Reference) → RunPreserves (levels.at depth) (reference_found accesses ev scope depth t o)
  unfolding reference_stored
  reference_found_preserves scope depth t None = run_give_preserves _
  reference_found_preserves scope depth t (Some r) = run_then_preserves _ _ (targeted_preserves scope depth t 1 _) (λ done. run_then_preserves _ _ (lift_preserves _ (integer_kept_preserves _)) (λ v. run_give_preserves _))

  conditional_rule_preserves : (scope : List Seg) (depth : ℕ) (t : Tree) → RunPreserves (levels.at depth) (conditional_rule accesses ev scope depth t)
  unfolding conditional_rule
  conditional_rule_preserves scope depth t = run_then_preserves _ _ (sought_preserves scope depth t _) (λ o. reference_found_preserves scope depth t o)

  acquire_rule_preserves : (scope : List Seg) (depth : ℕ) (t : Tree) → RunPreserves (levels.at depth) (acquire_rule accesses ev scope depth t)
  unfolding acquire_rule
  acquire_rule_preserves scope depth t = run_then_preserves _ _ (target_at_preserves scope depth t 0) (λ q. run_then_preserves _ _ (lift_preserves _ (acquired_at_preserves q)) (λ done. run_give_preserves _))

  operator_rule_preserves : (k : OperatorKind) (scope : List Seg) (depth : ℕ) (t : Tree) → RunPreserves (levels.at depth) (operator_rule accesses ev k scope depth t)
  operator_rule_preserves (operators.Slot slot) scope depth t = slot_rule_preserves slot
  operator_rule_preserves operators.Store scope depth t = store_rule_preserves scope depth t
  operator_rule_preserves operators.CopyObject scope depth t = copy_rule_preserves scope depth t
  operator_rule_preserves (operators.Two k) scope depth t = two_rule_preserves k scope depth t
  operator_rule_preserves operators.Divide scope depth t = divide_rule_preserves scope depth t
  operator_rule_preserves (operators.One k) scope depth t = one_rule_preserves k scope depth t
  operator_rule_preserves (operators.Test k) scope depth t = test_rule_preserves k scope depth t
  operator_rule_preserves operators.LNot scope depth t = lnot_rule_preserves scope depth t
  operator_rule_preserves (operators.Count k) scope depth t = count_rule_preserves k scope depth t
  operator_rule_preserves operators.SizeOf scope depth t = size_rule_preserves scope depth t
  operator_rule_preserves operators.ObjectType scope depth t = type_rule_preserves scope depth t
  operator_rule_preserves operators.Acquire scope depth t = acquire_rule_preserves scope depth t
  operator_rule_preserves operators.RefOf scope depth t = reference_rule_preserves scope depth t
  operator_rule_preserves operators.CondRefOf scope depth t = conditional_rule_preserves scope depth t
  operator_rule_preserves operators.DerefOf scope depth t = dereference_rule_preserves scope depth t

  -- ---- statements

  otherwise_preserves : (scope : List Seg) (depth : ℕ) (e : Option Tree) → RunPreserves (levels.at depth) (otherwise ev scope depth e)
  otherwise_preserves scope depth None = run_give_preserves _
  otherwise_preserves scope depth (Some e) = parts.part _

  branch_preserves : (scope : List Seg) (depth : ℕ) (ts : Trees) (e : Option Tree) (b : Bool) → RunPreserves (levels.at depth) (branch ev scope depth ts e b)
  branch_preserves scope depth ts e true = in_turn_leads ev parts scope depth ts
  branch_preserves scope depth ts e false = otherwise_preserves scope depth e

  if_rule_preserves : (scope : List Seg) (depth : ℕ) (t : Tree) → RunPreserves (levels.at depth) (if_rule ev scope depth t)
  unfolding if_rule
  if_rule_preserves scope depth t = run_then_preserves _ _ (run_settle_preserves _) (λ c. run_then_preserves _ _ (run_settle_preserves _) (λ ts. run_then_preserves _ _ (operand_integer_preserves ev parts scope depth c) (λ x. branch_preserves scope depth ts _ _)))

  else_rule_preserves : (scope : List Seg) (depth : ℕ) (t : Tree) → RunPreserves (levels.at depth) (else_rule ev scope depth t)
  unfolding else_rule
  else_rule_preserves scope depth t = run_then_preserves _ _ (run_settle_preserves _) (λ ts. in_turn_leads ev parts scope depth ts)

  turn_of_preserves : (scope : List Seg) (depth : ℕ) (ts : Trees) (b : Bool) → RunPreserves (levels.at depth) (turn_of ev scope depth ts b)
  turn_of_preserves scope depth ts true = in_turn_leads ev parts scope depth ts
  turn_of_preserves scope depth ts false = run_give_preserves _

  turn_preserves : (scope : List Seg) (depth : ℕ) (c : Tree) (ts : Trees) → RunPreserves (levels.at depth) (turn ev scope depth c ts)
  unfolding turn
  turn_preserves scope depth c ts = run_then_preserves _ _ (operand_integer_preserves ev parts scope depth c) (λ x. turn_of_preserves scope depth ts _)

  after_turn_preserves : {depth : ℕ} (o : Option Flow) (m : Run S Flow) → RunPreserves (levels.at depth) m → RunPreserves (levels.at depth) (after_turn ev o m)
  after_turn_preserves None m h = h
  after_turn_preserves (Some f) m h = run_give_preserves _

  turns_preserves : (k : ℕ) (scope : List Seg) (depth : ℕ) (c : Tree) (ts : Trees) → RunPreserves (levels.at depth) (turns ev k scope depth c ts)
  unfolding turns
  turns_preserves zero scope depth c ts = run_stop_preserves _
  turns_preserves (suc k) scope depth c ts = run_then_preserves _ _ (turn_preserves scope depth c ts) (λ f. after_turn_preserves (loop_end f) _ (turns_preserves k scope depth c ts))

  loop_preserves : (scope : List Seg) (depth : ℕ) (c : Tree) (ts : Trees) → RunPreserves (levels.at depth) (loop ev scope depth c ts)
  unfolding loop
  loop_preserves scope depth c ts = record { preserves = λ s. (turns_preserves (suc s.1) scope depth c ts).preserves s }

  while_rule_preserves : (scope : List Seg) (depth : ℕ) (t : Tree) → RunPreserves (levels.at depth) (while_rule ev scope depth t)
  unfolding while_rule
  while_rule_preserves scope depth t = run_then_preserves _ _ (run_settle_preserves _) (λ c. run_then_preserves _ _ (run_settle_preserves _) (λ ts. loop_preserves scope depth c ts))

  return_rule_preserves : (scope : List Seg) (depth : ℕ) (t : Tree) → RunPreserves (levels.at depth) (return_rule ev scope depth t)
  unfolding return_rule
  return_rule_preserves scope depth t = run_then_preserves _ _ (value_at_leads ev parts scope depth t 0) (λ v. run_give_preserves _)

  release_rule_preserves : (scope : List Seg) (depth : ℕ) (t : Tree) → RunPreserves (levels.at depth) (release_rule ev scope depth t)
  unfolding release_rule
  release_rule_preserves scope depth t = run_then_preserves _ _ (target_at_preserves scope depth t 0) (λ q. run_then_preserves _ _ (lift_preserves _ (given_back_at_preserves q)) (λ done. run_give_preserves _))

  notify_rule_preserves : (scope : List Seg) (depth : ℕ) (t : Tree) → RunPreserves (levels.at depth) (notify_rule ev scope depth t)
  unfolding notify_rule
  notify_rule_preserves scope depth t = run_then_preserves _ _ (target_at_preserves scope depth t 0) (λ q. run_then_preserves _ _ (value_at_leads ev parts scope depth t 1) (λ v. run_give_preserves _))

  pause_rule_preserves : (scope : List Seg) (depth : ℕ) (t : Tree) → RunPreserves (levels.at depth) (pause_rule ev scope depth t)
  unfolding pause_rule
  pause_rule_preserves scope depth t = run_then_preserves _ _ (value_at_leads ev parts scope depth t 0) (λ v. run_give_preserves _)

  fatal_rule_preserves : (scope : List Seg) (depth : ℕ) (t : Tree) → RunPreserves (levels.at depth) (fatal_rule ev scope depth t)
  unfolding fatal_rule
  fatal_rule_preserves scope depth t = run_then_preserves _ _ (value_at_leads ev parts scope depth t 2) (λ v. run_stop_preserves _)

  statement_rule_preserves : (k : StatementKind) (scope : List Seg) (depth : ℕ) (t : Tree) → RunPreserves (levels.at depth) (statement_rule ev k scope depth t)
  statement_rule_preserves statements.If scope depth t = if_rule_preserves scope depth t
  statement_rule_preserves statements.Else scope depth t = else_rule_preserves scope depth t
  statement_rule_preserves statements.While scope depth t = while_rule_preserves scope depth t
  statement_rule_preserves statements.Break scope depth t = run_give_preserves _
  statement_rule_preserves statements.Continue scope depth t = run_give_preserves _
  statement_rule_preserves statements.Noop scope depth t = run_give_preserves _
  statement_rule_preserves statements.Return scope depth t = return_rule_preserves scope depth t
  statement_rule_preserves statements.Release scope depth t = release_rule_preserves scope depth t
  statement_rule_preserves statements.Notify scope depth t = notify_rule_preserves scope depth t
  statement_rule_preserves statements.Pause scope depth t = pause_rule_preserves scope depth t
  statement_rule_preserves statements.Fatal scope depth t = fatal_rule_preserves scope depth t

  -- ---- calls

  arguments_in_turn_preserves : (scope : List Seg) (depth : ℕ) (ts : Trees) (done : List Value) → RunPreserves (levels.at depth) (arguments_in_turn ev scope depth ts done)
  unfolding arguments_in_turn
  arguments_in_turn_preserves scope depth no_trees done = run_give_preserves _
  arguments_in_turn_preserves scope depth (tree t ts) done = run_then_preserves _ _ (operand_value_leads ev parts scope depth t) (λ v. arguments_in_turn_preserves scope depth ts _)

  call_rule_preserves_from : (u : State S) (scope : List Seg) (depth : ℕ) (ts : Trees) (q : List Seg) (body : List ℕ) → MethodStandsAt u.names.map q → RunPreservesFrom (levels.at depth) u (call_rule ev scope depth ts q body)
  unfolding call_rule
  call_rule_preserves_from u scope depth ts q body at = then_preserves_from u _ _ (run_preserves_from u _ (arguments_in_turn_preserves scope depth ts _)) (λ arguments. invoked_leads_from ev parts u depth q body arguments (λ v. (levels.at depth).names_removed u v q at))

  osi_rule_preserves : (scope : List Seg) (depth : ℕ) (ts : Trees) → RunPreserves (levels.at depth) (osi_rule ev scope depth ts)
  unfolding osi_rule
  osi_rule_preserves scope depth ts = run_then_preserves _ _ (arguments_in_turn_preserves scope depth ts _) (λ arguments. run_then_preserves _ _ (lift_preserves _ (call_allowed_preserves _)) (λ few. run_then_preserves _ _ (lift_preserves _ (osi_answered_preserves arguments)) (λ v. run_give_preserves _)))

  invocation_rule_preserves_from : (scope : List Seg) (depth : ℕ) (ts : Trees) (u : State S) (i : Invocation) → CalledStands u i → RunPreservesFrom (levels.at depth) u (invocation_rule accesses ev scope depth ts i)
  unfolding field_rule
  invocation_rule_preserves_from scope depth ts u (invocations.Value v) at = run_preserves_from u _ (run_give_preserves _)
  invocation_rule_preserves_from scope depth ts u (invocations.Field f) at = from_standing u (units_of_field f) _ at.fields (then_by _ _ (field_read_preserves ev parts [] depth f) (λ v. give_by _))
  invocation_rule_preserves_from scope depth ts u (invocations.Method q body) at = call_rule_preserves_from u scope depth ts q body (at.method q body refl)
  invocation_rule_preserves_from scope depth ts u invocations.Osi at = run_preserves_from u _ (osi_rule_preserves scope depth ts)

  name_value_preserves : (scope : List Seg) (depth : ℕ) (t : Tree) → RunPreserves (levels.at depth) (name_value accesses ev scope depth t)
  unfolding name_value
  name_value_preserves scope depth t = run_then_preserves _ _ (run_settle_preserves _) (λ x. run_then_preserves _ _ (run_settle_preserves _) (λ ts. found_then_preserves _ _ (invocation_found_finds_invocation scope x (count_of ts)) (invocation_rule_preserves_from scope depth ts)))

  -- ---- operation regions and fields

  pub region_rule_preserves : (scope : List Seg) (depth : ℕ) (t : Tree) → RunPreserves (levels.at depth) (region_rule ev scope depth t)
  unfolding region_rule
  region_rule_preserves scope depth t =
      run_then_preserves _ _ (run_settle_preserves _) (λ space. run_then_preserves _ _ (value_at_leads ev parts scope depth t 2) (λ offset. run_then_preserves _ _ (value_at_leads ev parts scope depth t 3) (λ size. run_then_preserves _ _ (lift_preserves _ (integer_in_preserves offset)) (λ x. run_then_preserves _ _ (lift_preserves _ (integer_in_preserves size)) (λ y. declaring_preserves scope depth t _ _)))))

  region_term_rule_preserves : (k : RegionKind) (scope : List Seg) (depth : ℕ) (t : Tree) → RunPreserves (levels.at depth) (region_term_rule ev k scope depth t)
  unfolding field_list_rule index_list_rule fields_laid sized_field_rule bits_field_rule
  region_term_rule_preserves regions.OperationRegion scope depth t = region_rule_preserves scope depth t
  region_term_rule_preserves regions.Field scope depth t =
      run_then_preserves _ _ (run_settle_preserves _) (λ ts. run_then_preserves _ _ (lift_preserves _ (connections_asked_preserves _ ts)) (λ asked. run_then_preserves _ _ (run_settle_preserves _) (λ x. run_then_preserves _ _ (lift_preserves _ (region_found_preserves scope x)) (λ region. run_then_preserves _ _ (run_settle_preserves _) (λ flags. run_then_preserves _ _ (lift_preserves _ (elements_laid_preserves _ scope depth _ ts)) (λ laid. run_give_preserves _))))))
  region_term_rule_preserves regions.IndexField scope depth t =
      run_then_preserves _ _ (run_settle_preserves _) (λ ts. run_then_preserves _ _ (lift_preserves _ (connections_asked_preserves _ ts)) (λ asked. run_then_preserves _ _ (run_settle_preserves _) (λ x. run_then_preserves _ _ (lift_preserves _ (field_found_preserves scope x)) (λ index. run_then_preserves _ _ (run_settle_preserves _) (λ y. run_then_preserves _ _ (lift_preserves _ (field_found_preserves scope y)) (λ behind. run_then_preserves _ _ (run_settle_preserves _) (λ flags. run_then_preserves _ _ (lift_preserves _ (elements_laid_preserves _ scope depth _ ts)) (λ laid. run_give_preserves _))))))))
  region_term_rule_preserves (regions.SizedBufferField size) scope depth t =
      run_then_preserves _ _ (two_values_leads ev parts scope depth t) (λ x. run_then_preserves _ _ (run_settle_preserves _) (λ o. run_then_preserves _ _ (lift_preserves _ (integer_in_preserves _)) (λ i. run_then_preserves _ _ (lift_preserves _ (on_objects_preserves _ (new_buffer_field_keeps_kinds o _ _))) (λ b. declaring_preserves scope depth t _ _))))
  region_term_rule_preserves regions.BufferField scope depth t =
      run_then_preserves _ _ (value_at_leads ev parts scope depth t 0) (λ source. run_then_preserves _ _ (value_at_leads ev parts scope depth t 1) (λ index. run_then_preserves _ _ (value_at_leads ev parts scope depth t 2) (λ count. run_then_preserves _ _ (run_settle_preserves _) (λ o. run_then_preserves _ _ (lift_preserves _ (integer_in_preserves index)) (λ i. run_then_preserves _ _ (lift_preserves _ (integer_in_preserves count)) (λ n.
      run_then_preserves _ _ (run_settle_preserves _) (λ bits. run_then_preserves _ _ (lift_preserves _ (on_objects_preserves _ (new_buffer_field_keeps_kinds o i bits))) (λ b. declaring_preserves scope depth t _ _))))))))

  -- ---- which rule

  kind_rule_preserves : (k : TermKind) (op : Opcode) (scope : List Seg) (depth : ℕ) (t : Tree) → RunPreserves (levels.at depth) (kind_rule accesses ev k op scope depth t)
  kind_rule_preserves (kinds.Data k) op scope depth t = data_rule_preserves k scope depth t
  kind_rule_preserves (kinds.Declaration k) op scope depth t = declaration_rule_preserves k scope depth t
  kind_rule_preserves (kinds.Region k) op scope depth t = region_term_rule_preserves k scope depth t
  kind_rule_preserves (kinds.Operator k) op scope depth t = operator_rule_preserves k scope depth t
  kind_rule_preserves (kinds.Statement k) op scope depth t = statement_rule_preserves k scope depth t
  kind_rule_preserves (kinds.Wide k) op scope depth t = in_wide_preserves ev parts target_at_preserves targeted_preserves op k scope depth t
  kind_rule_preserves kinds.Unsupported op scope depth t = run_stop_preserves _

  code_rule_preserves : (c : TermCode) (scope : List Seg) (depth : ℕ) (t : Tree) → RunPreserves (levels.at depth) (code_rule accesses ev c scope depth t)
  code_rule_preserves (codes.Opcode op) scope depth t = kind_rule_preserves (kind_of op) op scope depth t
  code_rule_preserves codes.MethodInvocation scope depth t = name_value_preserves scope depth t
  code_rule_preserves codes.Name scope depth t = run_stop_preserves _
  code_rule_preserves codes.NamedField scope depth t = run_stop_preserves _
  code_rule_preserves codes.ReservedField scope depth t = run_stop_preserves _
  code_rule_preserves codes.AccessField scope depth t = run_stop_preserves _
  code_rule_preserves codes.ExtendedAccessField scope depth t = run_stop_preserves _
  code_rule_preserves codes.ConnectField scope depth t = run_stop_preserves _

  pub rule_leads : (t : Task) → RunPreserves (levels.at t.depth) (rule accesses ev t)
  unfolding rule
  rule_leads t = code_rule_preserves (code_of t.term) t.scope t.depth t.term

-- ---- evaluations

module _ {S : Type 0} {accesses : Accesses S} (levels : Levels accesses) where
  pub evaluated_within_leads : (n : ℕ) (t : Task) (w : State S) (b : ℕ) → (levels.at t.depth).Leads w (evaluated_within accesses n t (w, b)).1.0
  unfolding evaluated_within
  evaluated_within_leads zero t w b = (levels.at t.depth).reflexive w
  evaluated_within_leads (suc n) t w zero = (levels.at t.depth).reflexive w
  evaluated_within_leads (suc n) t w (suc b) = (rule_leads {levels = levels} (evaluated_within accesses n) (record { part = λ u. record { preserves = λ s. evaluated_within_leads n u s.0 s.1 }; as_meant = λ level told. bounded n }) t).preserves (w, b)

  meaning_leads : (t : Task) → RunPreserves (levels.at t.depth) (meaning accesses t)
  unfolding meaning
  meaning_leads t = record { preserves = λ s. evaluated_within_leads s.1 t s.0 s.1 }

  pub meaning_parts_lead : PartsLead levels (meaning accesses)
  meaning_parts_lead = record { part = meaning_leads; as_meant = λ level told. meant }

  pub list_leads : (scope : List Seg) (depth : ℕ) (ts : Trees) → RunPreserves (levels.at depth) (in_turn (meaning accesses) scope depth ts)
  list_leads scope depth ts = in_turn_leads _ meaning_parts_lead scope depth ts

-- the same at all depths
pub evaluated_within_preserves : {S : Type 0} {accesses : Accesses S} (relation : WorldRelation accesses) (n : ℕ) (t : Task) (w : State S) (b : ℕ) → relation.Leads w (evaluated_within accesses n t (w, b)).1.0
evaluated_within_preserves relation n t w b = evaluated_within_leads (always relation) n t w b

module _ {S : Type 0} {accesses : Accesses S} {relation : WorldRelation accesses} where
  pub rule_preserves : (ev : Task → Run S Flow) → ((t : Task) → RunPreserves relation (ev t)) → (relation.told ≡ true → IsAsMeant accesses ev) → (t : Task) → RunPreserves relation (rule accesses ev t)
  rule_preserves ev parts as_meant t = record { preserves = (rule_leads {levels = always relation} ev (at_all_depths ev parts as_meant) t).preserves }

  pub meaning_preserves : (t : Task) → RunPreserves relation (meaning accesses t)
  meaning_preserves t = record { preserves = (meaning_leads (always relation) t).preserves }

  pub list_preserves : (scope : List Seg) (depth : ℕ) (ts : Trees) → RunPreserves relation (in_turn (meaning accesses) scope depth ts)
  list_preserves scope depth ts = record { preserves = (list_leads (always relation) scope depth ts).preserves }
