-- Where the rule of a term refuses by a fault of the register space, its last access answered with it, where its parts do so.
use Rattle.std.specs.Prelude.{Bool, List, None, Option, Some, false, suc, true, zero, ℕ}
use Rattle.ar_space.specs.Accesses.{Accesses}
use Rattle.aml_path.specs.declared.segment.Seg.{Seg}
use Rattle.aml_grammar.specs.Apart.{code_of, operand_of}
use Rattle.aml_grammar.specs.Tree.{Part, Parts, Tree, Trees, bytes, inner, list, name, no_parts, no_trees, null, number, part, term, tree}
use Rattle.aml_grammar.specs.declared.opcode.Opcode.TheVariants as opcodes
use Rattle.aml_grammar.specs.declared.opcode.Opcode.{Opcode}
use Rattle.aml_grammar.specs.declared.opcode.TermCode.TheVariants as codes
use Rattle.aml_grammar.specs.declared.opcode.TermCode.{TermCode}
use Rattle.aml_objects.specs.declared.entry.NamedObject.{NamedObject}
use Rattle.aml_objects.specs.declared.object.Element.{Element}
use Rattle.aml_objects.specs.declared.value.Reference.{Reference}
use Rattle.aml_objects.specs.declared.value.Slot.{Slot}
use Rattle.aml_objects.specs.declared.value.Value.{Value}
use Rattle.aml_world.specs.state.Run.{Run}
use Rattle.aml_world.specs.declared.state.invocation.Invocation.TheVariants as invocations
use Rattle.aml_world.specs.declared.state.invocation.Invocation.{Invocation}
use Rattle.aml_world.specs.declared.values.store_target.StoreTarget.{StoreTarget}
use Rattle.aml_world.specs.declared.values.operation_kind.Count.{Count}
use Rattle.aml_world.specs.declared.values.operation_kind.OneOperand.{OneOperand}
use Rattle.aml_world.specs.declared.values.operation_kind.Test.{Test}
use Rattle.aml_world.specs.declared.values.operation_kind.TwoOperands.{TwoOperands}
use Rattle.aml_meaning.specs.DataTerms.{buffer_rule, constant_rule, data_rule, element_by, elements_in_turn, integer_rule, named_element, package_of, package_rule, string_rule, valued_element, var_package_rule}
use Rattle.aml_meaning.specs.DeclarationTerms.{alias_rule, declaration_rule, declaring, method_rule, name_rule, new_scope, scope_rule}
use Rattle.aml_meaning.specs.Evaluation.{code_rule, kind_rule, rule}
use Rattle.aml_meaning.specs.FieldTerms.{bits_field_rule, field_list_rule, fields_laid, index_list_rule, region_rule, region_term_rule, sized_field_rule}
use Rattle.aml_meaning.specs.InvocationTerms.{arguments_in_turn, call_rule, field_rule, invocation_rule, name_value, osi_rule}
use Rattle.aml_meaning.specs.OperatorTerms.{acquire_rule, conditional_rule, copy_rule, count_rule, dereference_rule, divide_rule, lnot_rule, one_rule, operator_rule, reference_found, reference_rule, reference_stored, referent_by, referent_by_kind, referent_of_target, referent_of_value, size_rule, slot_rule, sought, sought_name, sought_target, store_rule, test_rule, two_rule, type_rule}
use Rattle.aml_meaning.specs.StatementTerms.{branch, else_rule, fatal_rule, if_rule, notify_rule, otherwise, pause_rule, release_rule, return_rule, statement_rule, while_rule}
use Rattle.aml_meaning.specs.TargetTerms.{dereferenced_target, first_target, indexed_target, name_target, part_target, target_at, target_by, target_by_kind, target_of, targeted}
use Rattle.aml_meaning.specs.Tasks.{Task}
use Rattle.aml_meaning.specs.Terms.{count_of, kind_of, target_kind}
use Rattle.aml_meaning.specs.declared.flow.Flow.{Flow}
use Rattle.aml_meaning.specs.declared.term_kind.TargetKind.TheVariants as target
use Rattle.aml_meaning.specs.declared.term_kind.TargetKind.{TargetKind}
use Rattle.aml_meaning.specs.declared.term_kind.DataKind.TheVariants as datas
use Rattle.aml_meaning.specs.declared.term_kind.DataKind.{DataKind}
use Rattle.aml_meaning.specs.declared.term_kind.DeclarationKind.TheVariants as declarations
use Rattle.aml_meaning.specs.declared.term_kind.DeclarationKind.{DeclarationKind}
use Rattle.aml_meaning.specs.declared.term_kind.OperatorKind.TheVariants as operators
use Rattle.aml_meaning.specs.declared.term_kind.OperatorKind.{OperatorKind}
use Rattle.aml_meaning.specs.declared.term_kind.RegionKind.TheVariants as regions
use Rattle.aml_meaning.specs.declared.term_kind.RegionKind.{RegionKind}
use Rattle.aml_meaning.specs.declared.term_kind.StatementKind.TheVariants as statements
use Rattle.aml_meaning.specs.declared.term_kind.StatementKind.{StatementKind}
use Rattle.aml_meaning.specs.declared.term_kind.TermKind.TheVariants as kinds
use Rattle.aml_meaning.specs.declared.term_kind.TermKind.{TermKind}
use Rattle.aml_laws.proofs.CleanObjects.{make_string_clean, new_buffer_field_clean}
use Rattle.aml_laws.proofs.CleanValues.{resolved_clean}
use Rattle.aml_laws.proofs.CleanWorlds.{buffer_of_clean, bytes_of_clean, inner_of_clean, list_of_clean, name_of_clean, number_of_clean, reference_in_clean, sized_clean}
use Rattle.aml_laws.proofs.FaultsOfCalls.{completed_explains, field_read_explains, held_integer_explains, held_value_explains, in_turn_explains, invoked_explains, operand_integer_explains, operand_value_explains, referent_read_explains, stored_back_explains, stored_to_explains, two_values_explains, value_at_explains}
use Rattle.aml_laws.proofs.FaultsOfChanges.{RunExplains, charge_explains, give_explains, lift_explains, on_objects_explains, settle_explains, stop_explains, then_explains}
use Rattle.aml_laws.proofs.Costs.{Costs}
use Rattle.aml_laws.proofs.FaultsOfLoops.{loop_explains}
use Rattle.aml_laws.proofs.FaultsOfFields.{elements_laid_explains, field_found_explains, region_found_explains}
use Rattle.aml_laws.proofs.FaultsOfOperations.{counted_by_explains, divided_in_explains, integer_in_explains, integer_kept_explains, invocation_found_explains, new_buffer_explains, new_method_explains, new_name_explains, new_package_explains, osi_answered_explains, path_found_explains, result_of_one_explains, result_of_test_explains, result_of_two_explains, scope_found_explains, size_in_explains, target_named_explains, lnot_explains, within_explains, call_allowed_explains}
use Rattle.aml_laws.proofs.FaultsOfStoreTargets.{acquired_at_explains, copied_to_explains, dereferenced_explains, given_back_at_explains, if_initialized_explains, reference_if_found_explains, reference_of_explains, slot_read_explains, target_read_explains, target_referent_explains, tested_explains, value_referent_explains}
use Rattle.aml_laws.proofs.FaultsOfWideTerms.{connections_asked_explains, in_wide_explains}

module _ {S : Type 0} (accesses : Accesses S) (ev : Task → Run S Flow) (parts : (t : Task) → RunExplains accesses (ev t)) where
  constant_rule_explains : (k : ℕ) → RunExplains accesses (constant_rule ev k)
  unfolding constant_rule
  constant_rule_explains k = then_explains _ _ (lift_explains _ (integer_kept_explains k)) (λ v. give_explains _)

  buffer_rule_explains : (scope : List Seg) (depth : ℕ) (t : Tree) → RunExplains accesses (buffer_rule ev scope depth t)
  unfolding buffer_rule
  buffer_rule_explains scope depth t = then_explains _ _ (settle_explains _ (inner_of_clean _)) (λ size. then_explains _ _ (operand_integer_explains accesses ev parts scope depth size) (λ k. then_explains _ _ (settle_explains _ (bytes_of_clean _)) (λ bytes. then_explains _ _ (lift_explains _ (new_buffer_explains k bytes)) (λ v. give_explains _))))

  named_element_explains : (scope : List Seg) (t : Tree) → RunExplains accesses (named_element ev scope t)
  unfolding named_element
  named_element_explains scope t = then_explains _ _ charge_explains (λ u. then_explains _ _ (settle_explains _ (name_of_clean _)) (λ x. give_explains _))

  valued_element_explains : (scope : List Seg) (depth : ℕ) (t : Tree) → RunExplains accesses (valued_element ev scope depth t)
  unfolding valued_element
  valued_element_explains scope depth t = then_explains _ _ (operand_value_explains accesses ev parts scope depth t) (λ v. give_explains _)

  element_by_explains : (c : TermCode) (scope : List Seg) (depth : ℕ) (t : Tree) → RunExplains accesses (element_by ev c scope depth t)
  element_by_explains codes.Name scope depth t = named_element_explains scope t
  element_by_explains (codes.Opcode op) scope depth t = valued_element_explains scope depth t
  element_by_explains codes.MethodInvocation scope depth t = valued_element_explains scope depth t
  element_by_explains codes.NamedField scope depth t = valued_element_explains scope depth t
  element_by_explains codes.ReservedField scope depth t = valued_element_explains scope depth t
  element_by_explains codes.AccessField scope depth t = valued_element_explains scope depth t
  element_by_explains codes.ExtendedAccessField scope depth t = valued_element_explains scope depth t
  element_by_explains codes.ConnectField scope depth t = valued_element_explains scope depth t

  elements_in_turn_explains : (scope : List Seg) (depth k : ℕ) (ts : Trees) (done : List Element) → RunExplains accesses (elements_in_turn ev scope depth k ts done)
  unfolding elements_in_turn
  elements_in_turn_explains scope depth zero ts done = give_explains _
  elements_in_turn_explains scope depth (suc k) no_trees done = give_explains _
  elements_in_turn_explains scope depth (suc k) (tree t ts) done = then_explains _ _ (element_by_explains (code_of t) scope depth t) (λ e. elements_in_turn_explains scope depth k ts _)

  package_of_explains : (scope : List Seg) (depth k : ℕ) (ts : Trees) → RunExplains accesses (package_of ev scope depth k ts)
  unfolding package_of
  package_of_explains scope depth k ts = then_explains _ _ (elements_in_turn_explains scope depth k ts _) (λ es. then_explains _ _ (lift_explains _ (new_package_explains k es)) (λ v. give_explains _))

  package_rule_explains : (scope : List Seg) (depth : ℕ) (t : Tree) → RunExplains accesses (package_rule ev scope depth t)
  unfolding package_rule
  package_rule_explains scope depth t = then_explains _ _ (settle_explains _ (number_of_clean _)) (λ k. then_explains _ _ (settle_explains _ (list_of_clean _)) (λ ts. package_of_explains scope depth k ts))

  var_package_rule_explains : (scope : List Seg) (depth : ℕ) (t : Tree) → RunExplains accesses (var_package_rule ev scope depth t)
  unfolding var_package_rule
  var_package_rule_explains scope depth t = then_explains _ _ (settle_explains _ (inner_of_clean _)) (λ size. then_explains _ _ (operand_integer_explains accesses ev parts scope depth size) (λ k. then_explains _ _ (lift_explains _ (within_explains _ k)) (λ u. then_explains _ _ (settle_explains _ (list_of_clean _)) (λ ts. package_of_explains scope depth k ts))))

  pub declaring_explains : (scope : List Seg) (depth : ℕ) (t : Tree) (position : ℕ) (o : NamedObject) → RunExplains accesses (declaring ev scope depth t position o)
  unfolding declaring
  declaring_explains scope depth t position o = then_explains _ _ (settle_explains _ (name_of_clean _)) (λ x. then_explains _ _ (settle_explains _ (resolved_clean _ _)) (λ q. then_explains _ _ (lift_explains _ (new_name_explains _ q o)) (λ u. give_explains _)))

  name_rule_explains : (scope : List Seg) (depth : ℕ) (t : Tree) → RunExplains accesses (name_rule ev scope depth t)
  unfolding name_rule
  name_rule_explains scope depth t = then_explains _ _ (settle_explains _ (inner_of_clean _)) (λ d. then_explains _ _ (operand_value_explains accesses ev parts scope depth d) (λ v. declaring_explains scope depth t _ _))

  new_scope_explains : (o : NamedObject) (place : ℕ) (scope : List Seg) (depth : ℕ) (t : Tree) → RunExplains accesses (new_scope ev o place scope depth t)
  unfolding new_scope
  new_scope_explains o place scope depth t = then_explains _ _ (settle_explains _ (name_of_clean _)) (λ x. then_explains _ _ (settle_explains _ (resolved_clean _ _)) (λ q. then_explains _ _ (lift_explains _ (new_name_explains _ q o)) (λ u. then_explains _ _ (settle_explains _ (list_of_clean _)) (λ ts. in_turn_explains accesses ev parts q depth ts))))

  scope_rule_explains : (scope : List Seg) (depth : ℕ) (t : Tree) → RunExplains accesses (scope_rule ev scope depth t)
  unfolding scope_rule
  scope_rule_explains scope depth t = then_explains _ _ (settle_explains _ (name_of_clean _)) (λ x. then_explains _ _ (lift_explains _ (scope_found_explains scope x)) (λ q. then_explains _ _ (settle_explains _ (list_of_clean _)) (λ ts. in_turn_explains accesses ev parts q depth ts)))

  alias_rule_explains : (scope : List Seg) (depth : ℕ) (t : Tree) → RunExplains accesses (alias_rule ev scope depth t)
  unfolding alias_rule
  alias_rule_explains scope depth t = then_explains _ _ (settle_explains _ (name_of_clean _)) (λ x. then_explains _ _ (lift_explains _ (path_found_explains scope x)) (λ target. then_explains _ _ (settle_explains _ (name_of_clean _)) (λ y. then_explains _ _ (settle_explains _ (resolved_clean _ _)) (λ q. then_explains _ _ (lift_explains _ (new_name_explains _ q _)) (λ u. give_explains _)))))

  method_rule_explains : (scope : List Seg) (depth : ℕ) (t : Tree) → RunExplains accesses (method_rule ev scope depth t)
  unfolding method_rule
  method_rule_explains scope depth t = then_explains _ _ (settle_explains _ (name_of_clean _)) (λ x. then_explains _ _ (settle_explains _ (resolved_clean _ _)) (λ q. then_explains _ _ (settle_explains _ (number_of_clean _)) (λ flags. then_explains _ _ (settle_explains _ (bytes_of_clean _)) (λ body. then_explains _ _ (lift_explains _ (new_method_explains _ q _ body)) (λ u. give_explains _)))))

  string_rule_explains : (t : Tree) → RunExplains accesses (string_rule ev t)
  unfolding string_rule
  string_rule_explains t = then_explains _ _ (settle_explains _ (bytes_of_clean _)) (λ x. then_explains _ _ (lift_explains _ (on_objects_explains _ (make_string_clean _))) (λ v. give_explains _))

  integer_rule_explains : (t : Tree) → RunExplains accesses (integer_rule ev t)
  unfolding integer_rule
  integer_rule_explains t = then_explains _ _ (settle_explains _ (number_of_clean _)) (λ k. constant_rule_explains k)

  data_rule_explains : (k : DataKind) (scope : List Seg) (depth : ℕ) (t : Tree) → RunExplains accesses (data_rule ev k scope depth t)
  data_rule_explains (datas.Constant k) scope depth t = constant_rule_explains k
  data_rule_explains datas.Integer scope depth t = integer_rule_explains t
  data_rule_explains datas.String scope depth t = string_rule_explains t
  data_rule_explains datas.Buffer scope depth t = buffer_rule_explains scope depth t
  data_rule_explains datas.Package scope depth t = package_rule_explains scope depth t
  data_rule_explains datas.VarPackage scope depth t = var_package_rule_explains scope depth t

  declaration_rule_explains : (k : DeclarationKind) (scope : List Seg) (depth : ℕ) (t : Tree) → RunExplains accesses (declaration_rule ev k scope depth t)
  declaration_rule_explains declarations.Scope scope depth t = scope_rule_explains scope depth t
  declaration_rule_explains declarations.Device scope depth t = new_scope_explains _ _ scope depth t
  declaration_rule_explains declarations.Processor scope depth t = new_scope_explains _ _ scope depth t
  declaration_rule_explains declarations.PowerResource scope depth t = new_scope_explains _ _ scope depth t
  declaration_rule_explains declarations.ThermalZone scope depth t = new_scope_explains _ _ scope depth t
  declaration_rule_explains declarations.Name scope depth t = name_rule_explains scope depth t
  declaration_rule_explains declarations.Alias scope depth t = alias_rule_explains scope depth t
  declaration_rule_explains declarations.External scope depth t = give_explains _
  declaration_rule_explains declarations.Method scope depth t = method_rule_explains scope depth t
  declaration_rule_explains declarations.Mutex scope depth t = declaring_explains scope depth t _ _
  declaration_rule_explains declarations.Event scope depth t = declaring_explains scope depth t _ _

  -- ---- places and operators

  indexed_target_explains : (scope : List Seg) (depth : ℕ) (t : Tree) → RunExplains accesses (indexed_target ev scope depth t)
  unfolding indexed_target
  indexed_target_explains scope depth t = then_explains _ _ (operand_value_explains accesses ev parts scope depth t) (λ v. then_explains _ _ (settle_explains _ (reference_in_clean _)) (λ r. give_explains _))

  dereferenced_target_explains : (scope : List Seg) (depth : ℕ) (t : Tree) → RunExplains accesses (dereferenced_target ev scope depth t)
  unfolding dereferenced_target
  dereferenced_target_explains scope depth t = then_explains _ _ charge_explains (λ u. then_explains _ _ (value_at_explains accesses ev parts scope depth t 0) (λ v. then_explains _ _ (settle_explains _ (reference_in_clean _)) (λ r. then_explains _ _ (lift_explains _ (tested_explains r)) (λ there. give_explains _))))

  target_by_kind_explains : (scope : List Seg) (depth : ℕ) (t : Tree) (m : Run S StoreTarget) (kind : TargetKind) → RunExplains accesses m → RunExplains accesses (target_by_kind ev scope depth t m kind)
  target_by_kind_explains scope depth t m target.Nowhere h = give_explains _
  target_by_kind_explains scope depth t m (target.Slot slot) h = give_explains _
  target_by_kind_explains scope depth t m target.RefOf h = then_explains _ _ charge_explains (λ u. h)
  target_by_kind_explains scope depth t m target.DerefOf h = dereferenced_target_explains scope depth t
  target_by_kind_explains scope depth t m target.Index h = indexed_target_explains scope depth t
  target_by_kind_explains scope depth t m target.Other h = stop_explains _ tt

  mutual
    unfolding target_of

    target_of_explains : (scope : List Seg) (depth : ℕ) (t : Tree) → RunExplains accesses (target_of ev scope depth t)
    target_of_explains scope depth (term c ps) = target_by_kind_explains scope depth (term c ps) _ (target_kind c) (first_target_explains scope depth ps)

    first_target_explains : (scope : List Seg) (depth : ℕ) (ps : Parts) → RunExplains accesses (first_target ev scope depth ps)
    first_target_explains scope depth no_parts = stop_explains _ tt
    first_target_explains scope depth (part p ps) = part_target_explains scope depth p

    part_target_explains : (scope : List Seg) (depth : ℕ) (p : Part) → RunExplains accesses (part_target ev scope depth p)
    part_target_explains scope depth null = give_explains _
    part_target_explains scope depth (name x) = lift_explains _ (target_named_explains scope x)
    part_target_explains scope depth (number k) = stop_explains _ tt
    part_target_explains scope depth (bytes bs) = stop_explains _ tt
    part_target_explains scope depth (inner u) = target_of_explains scope depth u
    part_target_explains scope depth (list ts) = stop_explains _ tt

  name_target_explains : (scope : List Seg) (t : Tree) (i : ℕ) → RunExplains accesses (name_target ev scope t i)
  unfolding name_target
  name_target_explains scope t i = then_explains _ _ (settle_explains _ (name_of_clean _)) (λ x. lift_explains _ (target_named_explains scope x))

  target_by_explains : (scope : List Seg) (depth : ℕ) (t : Tree) (i : ℕ) (o : Option Part) → RunExplains accesses (target_by ev scope depth t i o)
  target_by_explains scope depth t i None = stop_explains _ tt
  target_by_explains scope depth t i (Some null) = give_explains _
  target_by_explains scope depth t i (Some (name x)) = name_target_explains scope t i
  target_by_explains scope depth t i (Some (number k)) = stop_explains _ tt
  target_by_explains scope depth t i (Some (bytes bs)) = stop_explains _ tt
  target_by_explains scope depth t i (Some (inner u)) = target_of_explains scope depth u
  target_by_explains scope depth t i (Some (list ts)) = stop_explains _ tt

  target_at_explains : (scope : List Seg) (depth : ℕ) (t : Tree) (i : ℕ) → RunExplains accesses (target_at ev scope depth t i)
  target_at_explains scope depth t i = target_by_explains scope depth t i (operand_of t i)

  targeted_explains : (scope : List Seg) (depth : ℕ) (t : Tree) (i : ℕ) (v : Value) → RunExplains accesses (targeted accesses ev scope depth t i v)
  unfolding targeted
  targeted_explains scope depth t i v = then_explains _ _ (target_at_explains scope depth t i) (λ q. then_explains _ _ (stored_to_explains accesses ev parts depth q v) (λ done. give_explains _))

  slot_rule_explains : (slot : Slot) → RunExplains accesses (slot_rule accesses ev slot)
  unfolding slot_rule
  slot_rule_explains slot = then_explains _ _ (lift_explains _ (slot_read_explains slot)) (λ v. give_explains _)

  store_rule_explains : (scope : List Seg) (depth : ℕ) (t : Tree) → RunExplains accesses (store_rule accesses ev scope depth t)
  unfolding store_rule
  store_rule_explains scope depth t = then_explains _ _ (value_at_explains accesses ev parts scope depth t 0) (λ v. targeted_explains scope depth t 1 v)

  copy_rule_explains : (scope : List Seg) (depth : ℕ) (t : Tree) → RunExplains accesses (copy_rule accesses ev scope depth t)
  unfolding copy_rule
  copy_rule_explains scope depth t = then_explains _ _ (value_at_explains accesses ev parts scope depth t 0) (λ v. then_explains _ _ (target_at_explains scope depth t 1) (λ q. then_explains _ _ (lift_explains _ (copied_to_explains q v)) (λ s. then_explains _ _ (completed_explains accesses ev parts depth s v) (λ done. give_explains _))))

  two_rule_explains : (k : TwoOperands) (scope : List Seg) (depth : ℕ) (t : Tree) → RunExplains accesses (two_rule accesses ev k scope depth t)
  unfolding two_rule
  two_rule_explains k scope depth t = then_explains _ _ (two_values_explains accesses ev parts scope depth t) (λ x. then_explains _ _ (lift_explains _ (result_of_two_explains k x.0 x.1)) (λ r. targeted_explains scope depth t 2 r))

  divide_rule_explains : (scope : List Seg) (depth : ℕ) (t : Tree) → RunExplains accesses (divide_rule accesses ev scope depth t)
  unfolding divide_rule
  divide_rule_explains scope depth t = then_explains _ _ (two_values_explains accesses ev parts scope depth t) (λ x. then_explains _ _ (lift_explains _ (divided_in_explains x.0 x.1)) (λ d. then_explains _ _ (targeted_explains scope depth t 2 _) (λ done. targeted_explains scope depth t 3 _)))

  one_rule_explains : (k : OneOperand) (scope : List Seg) (depth : ℕ) (t : Tree) → RunExplains accesses (one_rule accesses ev k scope depth t)
  unfolding one_rule
  one_rule_explains k scope depth t = then_explains _ _ (value_at_explains accesses ev parts scope depth t 0) (λ v. then_explains _ _ (lift_explains _ (result_of_one_explains k v)) (λ r. targeted_explains scope depth t 1 r))

  test_rule_explains : (k : Test) (scope : List Seg) (depth : ℕ) (t : Tree) → RunExplains accesses (test_rule accesses ev k scope depth t)
  unfolding test_rule
  test_rule_explains k scope depth t = then_explains _ _ (two_values_explains accesses ev parts scope depth t) (λ x. then_explains _ _ (lift_explains _ (result_of_test_explains k x.0 x.1)) (λ r. give_explains _))

  lnot_rule_explains : (scope : List Seg) (depth : ℕ) (t : Tree) → RunExplains accesses (lnot_rule accesses ev scope depth t)
  unfolding lnot_rule
  lnot_rule_explains scope depth t = then_explains _ _ (value_at_explains accesses ev parts scope depth t 0) (λ v. then_explains _ _ (lift_explains _ (lnot_explains v)) (λ r. give_explains _))

  count_rule_explains : (k : Count) (scope : List Seg) (depth : ℕ) (t : Tree) → RunExplains accesses (count_rule accesses ev k scope depth t)
  unfolding count_rule
  count_rule_explains k scope depth t = then_explains _ _ (target_at_explains scope depth t 0) (λ q. then_explains _ _ (lift_explains _ (target_read_explains q)) (λ h. then_explains _ _ (held_integer_explains accesses ev parts depth h) (λ x. then_explains _ _ (lift_explains _ (counted_by_explains k x)) (λ r. then_explains _ _ (stored_back_explains accesses ev parts depth h q r) (λ done. give_explains _)))))

  referent_of_value_explains : (scope : List Seg) (depth : ℕ) (u : Tree) → RunExplains accesses (referent_of_value accesses ev scope depth u)
  unfolding referent_of_value
  referent_of_value_explains scope depth u = then_explains _ _ (operand_value_explains accesses ev parts scope depth u) (λ v. lift_explains _ (value_referent_explains v))

  referent_of_target_explains : (scope : List Seg) (depth : ℕ) (t : Tree) → RunExplains accesses (referent_of_target accesses ev scope depth t)
  unfolding referent_of_target
  referent_of_target_explains scope depth t = then_explains _ _ (target_at_explains scope depth t 0) (λ q. lift_explains _ (target_referent_explains q))

  referent_by_kind_explains : (scope : List Seg) (depth : ℕ) (t u : Tree) (k : TargetKind) → RunExplains accesses (referent_by_kind accesses ev scope depth t u k)
  referent_by_kind_explains scope depth t u target.RefOf = referent_of_value_explains scope depth u
  referent_by_kind_explains scope depth t u target.DerefOf = referent_of_value_explains scope depth u
  referent_by_kind_explains scope depth t u target.Index = referent_of_value_explains scope depth u
  referent_by_kind_explains scope depth t u target.Nowhere = referent_of_target_explains scope depth t
  referent_by_kind_explains scope depth t u (target.Slot slot) = referent_of_target_explains scope depth t
  referent_by_kind_explains scope depth t u target.Other = referent_of_target_explains scope depth t

  referent_by_explains : (scope : List Seg) (depth : ℕ) (t : Tree) (o : Option Part) → RunExplains accesses (referent_by accesses ev scope depth t o)
  referent_by_explains scope depth t None = referent_of_target_explains scope depth t
  referent_by_explains scope depth t (Some null) = referent_of_target_explains scope depth t
  referent_by_explains scope depth t (Some (name x)) = referent_of_target_explains scope depth t
  referent_by_explains scope depth t (Some (number k)) = referent_of_target_explains scope depth t
  referent_by_explains scope depth t (Some (bytes bs)) = referent_of_target_explains scope depth t
  referent_by_explains scope depth t (Some (inner u)) = referent_by_kind_explains scope depth t u _
  referent_by_explains scope depth t (Some (list ts)) = referent_of_target_explains scope depth t

  size_rule_explains : (scope : List Seg) (depth : ℕ) (t : Tree) → RunExplains accesses (size_rule accesses ev scope depth t)
  unfolding size_rule
  size_rule_explains scope depth t = then_explains _ _ (referent_by_explains scope depth t _) (λ r. then_explains _ _ (referent_read_explains accesses ev parts depth r) (λ s. then_explains _ _ (lift_explains _ (size_in_explains s)) (λ v. give_explains _)))

  type_rule_explains : (scope : List Seg) (depth : ℕ) (t : Tree) → RunExplains accesses (type_rule accesses ev scope depth t)
  unfolding type_rule
  type_rule_explains scope depth t = then_explains _ _ (referent_by_explains scope depth t _) (λ r. then_explains _ _ (referent_read_explains accesses ev parts depth r) (λ s. give_explains _))

  reference_rule_explains : (scope : List Seg) (depth : ℕ) (t : Tree) → RunExplains accesses (reference_rule accesses ev scope depth t)
  unfolding reference_rule
  reference_rule_explains scope depth t = then_explains _ _ (target_at_explains scope depth t 0) (λ q. then_explains _ _ (lift_explains _ (reference_of_explains q)) (λ r. give_explains _))

  dereference_rule_explains : (scope : List Seg) (depth : ℕ) (t : Tree) → RunExplains accesses (dereference_rule accesses ev scope depth t)
  unfolding dereference_rule
  dereference_rule_explains scope depth t = then_explains _ _ (value_at_explains accesses ev parts scope depth t 0) (λ v. then_explains _ _ (settle_explains _ (reference_in_clean _)) (λ r. then_explains _ _ (lift_explains _ (dereferenced_explains r)) (λ h. then_explains _ _ (held_value_explains accesses ev parts depth h) (λ x. give_explains _))))

  sought_name_explains : (scope : List Seg) (t : Tree) → RunExplains accesses (sought_name accesses ev scope t)
  unfolding sought_name
  sought_name_explains scope t = then_explains _ _ (settle_explains _ (name_of_clean _)) (λ x. lift_explains _ (reference_if_found_explains scope x))

  sought_target_explains : (scope : List Seg) (depth : ℕ) (t : Tree) → RunExplains accesses (sought_target accesses ev scope depth t)
  unfolding sought_target
  sought_target_explains scope depth t = then_explains _ _ (target_at_explains scope depth t 0) (λ q. then_explains _ _ (lift_explains _ (reference_of_explains q)) (λ r. lift_explains _ (if_initialized_explains r)))

  sought_explains : (scope : List Seg) (depth : ℕ) (t : Tree) (o : Option Part) → RunExplains accesses (sought accesses ev scope depth t o)
  sought_explains scope depth t None = sought_target_explains scope depth t
  sought_explains scope depth t (Some null) = sought_target_explains scope depth t
  sought_explains scope depth t (Some (name x)) = sought_name_explains scope t
  sought_explains scope depth t (Some (number k)) = sought_target_explains scope depth t
  sought_explains scope depth t (Some (bytes bs)) = sought_target_explains scope depth t
  sought_explains scope depth t (Some (inner u)) = sought_target_explains scope depth t
  sought_explains scope depth t (Some (list ts)) = sought_target_explains scope depth t

  reference_found_explains : (scope : List Seg) (depth : ℕ) (t : Tree) (o : Option Reference) → RunExplains accesses (reference_found accesses ev scope depth t o)
  unfolding reference_stored
  reference_found_explains scope depth t None = give_explains _
  reference_found_explains scope depth t (Some r) = then_explains _ _ (targeted_explains scope depth t 1 _) (λ done. then_explains _ _ (lift_explains _ (integer_kept_explains _)) (λ v. give_explains _))

  conditional_rule_explains : (scope : List Seg) (depth : ℕ) (t : Tree) → RunExplains accesses (conditional_rule accesses ev scope depth t)
  unfolding conditional_rule
  conditional_rule_explains scope depth t = then_explains _ _ (sought_explains scope depth t _) (λ o. reference_found_explains scope depth t o)

  acquire_rule_explains : (scope : List Seg) (depth : ℕ) (t : Tree) → RunExplains accesses (acquire_rule accesses ev scope depth t)
  unfolding acquire_rule
  acquire_rule_explains scope depth t = then_explains _ _ (target_at_explains scope depth t 0) (λ q. then_explains _ _ (lift_explains _ (acquired_at_explains q)) (λ done. give_explains _))

  operator_rule_explains : (k : OperatorKind) (scope : List Seg) (depth : ℕ) (t : Tree) → RunExplains accesses (operator_rule accesses ev k scope depth t)
  operator_rule_explains (operators.Slot slot) scope depth t = slot_rule_explains slot
  operator_rule_explains operators.Store scope depth t = store_rule_explains scope depth t
  operator_rule_explains operators.CopyObject scope depth t = copy_rule_explains scope depth t
  operator_rule_explains (operators.Two k) scope depth t = two_rule_explains k scope depth t
  operator_rule_explains operators.Divide scope depth t = divide_rule_explains scope depth t
  operator_rule_explains (operators.One k) scope depth t = one_rule_explains k scope depth t
  operator_rule_explains (operators.Test k) scope depth t = test_rule_explains k scope depth t
  operator_rule_explains operators.LNot scope depth t = lnot_rule_explains scope depth t
  operator_rule_explains (operators.Count k) scope depth t = count_rule_explains k scope depth t
  operator_rule_explains operators.SizeOf scope depth t = size_rule_explains scope depth t
  operator_rule_explains operators.ObjectType scope depth t = type_rule_explains scope depth t
  operator_rule_explains operators.Acquire scope depth t = acquire_rule_explains scope depth t
  operator_rule_explains operators.RefOf scope depth t = reference_rule_explains scope depth t
  operator_rule_explains operators.CondRefOf scope depth t = conditional_rule_explains scope depth t
  operator_rule_explains operators.DerefOf scope depth t = dereference_rule_explains scope depth t

  -- ---- statements

  otherwise_explains : (scope : List Seg) (depth : ℕ) (e : Option Tree) → RunExplains accesses (otherwise ev scope depth e)
  otherwise_explains scope depth None = give_explains _
  otherwise_explains scope depth (Some e) = parts _

  branch_explains : (scope : List Seg) (depth : ℕ) (ts : Trees) (e : Option Tree) (b : Bool) → RunExplains accesses (branch ev scope depth ts e b)
  branch_explains scope depth ts e true = in_turn_explains accesses ev parts scope depth ts
  branch_explains scope depth ts e false = otherwise_explains scope depth e

  if_rule_explains : (scope : List Seg) (depth : ℕ) (t : Tree) → RunExplains accesses (if_rule ev scope depth t)
  unfolding if_rule
  if_rule_explains scope depth t = then_explains _ _ (settle_explains _ (inner_of_clean _)) (λ c. then_explains _ _ (settle_explains _ (list_of_clean _)) (λ ts. then_explains _ _ (operand_integer_explains accesses ev parts scope depth c) (λ x. branch_explains scope depth ts _ _)))

  else_rule_explains : (scope : List Seg) (depth : ℕ) (t : Tree) → RunExplains accesses (else_rule ev scope depth t)
  unfolding else_rule
  else_rule_explains scope depth t = then_explains _ _ (settle_explains _ (list_of_clean _)) (λ ts. in_turn_explains accesses ev parts scope depth ts)

  while_rule_explains : Costs ev → (scope : List Seg) (depth : ℕ) (t : Tree) → RunExplains accesses (while_rule ev scope depth t)
  unfolding while_rule
  while_rule_explains costs scope depth t = then_explains _ _ (settle_explains _ (inner_of_clean _)) (λ c. then_explains _ _ (settle_explains _ (list_of_clean _)) (λ ts. loop_explains accesses ev parts costs scope depth c ts))

  return_rule_explains : (scope : List Seg) (depth : ℕ) (t : Tree) → RunExplains accesses (return_rule ev scope depth t)
  unfolding return_rule
  return_rule_explains scope depth t = then_explains _ _ (value_at_explains accesses ev parts scope depth t 0) (λ v. give_explains _)

  release_rule_explains : (scope : List Seg) (depth : ℕ) (t : Tree) → RunExplains accesses (release_rule ev scope depth t)
  unfolding release_rule
  release_rule_explains scope depth t = then_explains _ _ (target_at_explains scope depth t 0) (λ q. then_explains _ _ (lift_explains _ (given_back_at_explains q)) (λ done. give_explains _))

  notify_rule_explains : (scope : List Seg) (depth : ℕ) (t : Tree) → RunExplains accesses (notify_rule ev scope depth t)
  unfolding notify_rule
  notify_rule_explains scope depth t = then_explains _ _ (target_at_explains scope depth t 0) (λ q. then_explains _ _ (value_at_explains accesses ev parts scope depth t 1) (λ v. give_explains _))

  pause_rule_explains : (scope : List Seg) (depth : ℕ) (t : Tree) → RunExplains accesses (pause_rule ev scope depth t)
  unfolding pause_rule
  pause_rule_explains scope depth t = then_explains _ _ (value_at_explains accesses ev parts scope depth t 0) (λ v. give_explains _)

  fatal_rule_explains : (scope : List Seg) (depth : ℕ) (t : Tree) → RunExplains accesses (fatal_rule ev scope depth t)
  unfolding fatal_rule
  fatal_rule_explains scope depth t = then_explains _ _ (value_at_explains accesses ev parts scope depth t 2) (λ v. stop_explains _ tt)

  statement_rule_explains : Costs ev → (k : StatementKind) (scope : List Seg) (depth : ℕ) (t : Tree) → RunExplains accesses (statement_rule ev k scope depth t)
  statement_rule_explains costs statements.If scope depth t = if_rule_explains scope depth t
  statement_rule_explains costs statements.Else scope depth t = else_rule_explains scope depth t
  statement_rule_explains costs statements.While scope depth t = while_rule_explains costs scope depth t
  statement_rule_explains costs statements.Break scope depth t = give_explains _
  statement_rule_explains costs statements.Continue scope depth t = give_explains _
  statement_rule_explains costs statements.Noop scope depth t = give_explains _
  statement_rule_explains costs statements.Return scope depth t = return_rule_explains scope depth t
  statement_rule_explains costs statements.Release scope depth t = release_rule_explains scope depth t
  statement_rule_explains costs statements.Notify scope depth t = notify_rule_explains scope depth t
  statement_rule_explains costs statements.Pause scope depth t = pause_rule_explains scope depth t
  statement_rule_explains costs statements.Fatal scope depth t = fatal_rule_explains scope depth t

  -- ---- calls

  arguments_in_turn_explains : (scope : List Seg) (depth : ℕ) (ts : Trees) (done : List Value) → RunExplains accesses (arguments_in_turn ev scope depth ts done)
  unfolding arguments_in_turn
  arguments_in_turn_explains scope depth no_trees done = give_explains _
  arguments_in_turn_explains scope depth (tree t ts) done = then_explains _ _ (operand_value_explains accesses ev parts scope depth t) (λ v. arguments_in_turn_explains scope depth ts _)

  osi_rule_explains : (scope : List Seg) (depth : ℕ) (ts : Trees) → RunExplains accesses (osi_rule ev scope depth ts)
  unfolding osi_rule
  osi_rule_explains scope depth ts = then_explains _ _ (arguments_in_turn_explains scope depth ts _) (λ arguments. then_explains _ _ (lift_explains _ (call_allowed_explains _)) (λ few. then_explains _ _ (lift_explains _ (osi_answered_explains arguments)) (λ v. give_explains _)))

  invocation_rule_explains : (scope : List Seg) (depth : ℕ) (ts : Trees) (i : Invocation) → RunExplains accesses (invocation_rule accesses ev scope depth ts i)
  unfolding field_rule call_rule
  invocation_rule_explains scope depth ts (invocations.Value v) = give_explains _
  invocation_rule_explains scope depth ts (invocations.Field f) = then_explains _ _ (field_read_explains accesses ev parts depth f) (λ v. give_explains _)
  invocation_rule_explains scope depth ts (invocations.Method q body) = then_explains _ _ (arguments_in_turn_explains scope depth ts _) (λ arguments. invoked_explains accesses ev parts depth q body arguments)
  invocation_rule_explains scope depth ts invocations.Osi = osi_rule_explains scope depth ts

  name_value_explains : (scope : List Seg) (depth : ℕ) (t : Tree) → RunExplains accesses (name_value accesses ev scope depth t)
  unfolding name_value
  name_value_explains scope depth t = then_explains _ _ (settle_explains _ (name_of_clean _)) (λ x. then_explains _ _ (settle_explains _ (list_of_clean _)) (λ ts. then_explains _ _ (lift_explains _ (invocation_found_explains scope x (count_of ts))) (invocation_rule_explains scope depth ts)))

  -- ---- operation regions and fields

  pub region_rule_explains : (scope : List Seg) (depth : ℕ) (t : Tree) → RunExplains accesses (region_rule ev scope depth t)
  unfolding region_rule
  region_rule_explains scope depth t =
      then_explains _ _ (settle_explains _ (number_of_clean _)) (λ space. then_explains _ _ (value_at_explains accesses ev parts scope depth t 2) (λ offset. then_explains _ _ (value_at_explains accesses ev parts scope depth t 3) (λ size. then_explains _ _ (lift_explains _ (integer_in_explains offset)) (λ x. then_explains _ _ (lift_explains _ (integer_in_explains size)) (λ y. declaring_explains scope depth t _ _)))))

  region_term_rule_explains : (k : RegionKind) (scope : List Seg) (depth : ℕ) (t : Tree) → RunExplains accesses (region_term_rule ev k scope depth t)
  unfolding field_list_rule index_list_rule fields_laid sized_field_rule bits_field_rule
  region_term_rule_explains regions.OperationRegion scope depth t = region_rule_explains scope depth t
  region_term_rule_explains regions.Field scope depth t =
      then_explains _ _ (settle_explains _ (list_of_clean _)) (λ ts. then_explains _ _ (lift_explains _ (connections_asked_explains opcodes.Field ts)) (λ asked. then_explains _ _ (settle_explains _ (name_of_clean _)) (λ x. then_explains _ _ (lift_explains _ (region_found_explains scope x)) (λ region. then_explains _ _ (settle_explains _ (number_of_clean _)) (λ flags. then_explains _ _ (lift_explains _ (elements_laid_explains _ scope depth _ ts)) (λ laid. give_explains _))))))
  region_term_rule_explains regions.IndexField scope depth t =
      then_explains _ _ (settle_explains _ (list_of_clean _)) (λ ts. then_explains _ _ (lift_explains _ (connections_asked_explains opcodes.IndexField ts)) (λ asked. then_explains _ _ (settle_explains _ (name_of_clean _)) (λ x. then_explains _ _ (lift_explains _ (field_found_explains scope x)) (λ index. then_explains _ _ (settle_explains _ (name_of_clean _)) (λ y. then_explains _ _ (lift_explains _ (field_found_explains scope y)) (λ behind. then_explains _ _ (settle_explains _ (number_of_clean _)) (λ flags. then_explains _ _ (lift_explains _ (elements_laid_explains _ scope depth _ ts)) (λ laid. give_explains _))))))))
  region_term_rule_explains (regions.SizedBufferField size) scope depth t =
      then_explains _ _ (two_values_explains accesses ev parts scope depth t) (λ x. then_explains _ _ (settle_explains _ (buffer_of_clean _)) (λ o. then_explains _ _ (lift_explains _ (integer_in_explains _)) (λ i. then_explains _ _ (lift_explains _ (on_objects_explains _ (new_buffer_field_clean _ _ _))) (λ b. declaring_explains scope depth t _ _))))
  region_term_rule_explains regions.BufferField scope depth t =
      then_explains _ _ (value_at_explains accesses ev parts scope depth t 0) (λ source. then_explains _ _ (value_at_explains accesses ev parts scope depth t 1) (λ index. then_explains _ _ (value_at_explains accesses ev parts scope depth t 2) (λ count. then_explains _ _ (settle_explains _ (buffer_of_clean _)) (λ o. then_explains _ _ (lift_explains _ (integer_in_explains index)) (λ i. then_explains _ _ (lift_explains _ (integer_in_explains count)) (λ n.
      then_explains _ _ (settle_explains _ (sized_clean n)) (λ bits. then_explains _ _ (lift_explains _ (on_objects_explains _ (new_buffer_field_clean _ _ _))) (λ b. declaring_explains scope depth t _ _))))))))

  -- ---- which rule

  kind_rule_explains : Costs ev → (k : TermKind) (op : Opcode) (scope : List Seg) (depth : ℕ) (t : Tree) → RunExplains accesses (kind_rule accesses ev k op scope depth t)
  kind_rule_explains costs (kinds.Data k) op scope depth t = data_rule_explains k scope depth t
  kind_rule_explains costs (kinds.Declaration k) op scope depth t = declaration_rule_explains k scope depth t
  kind_rule_explains costs (kinds.Region k) op scope depth t = region_term_rule_explains k scope depth t
  kind_rule_explains costs (kinds.Operator k) op scope depth t = operator_rule_explains k scope depth t
  kind_rule_explains costs (kinds.Statement k) op scope depth t = statement_rule_explains costs k scope depth t
  kind_rule_explains costs (kinds.Wide k) op scope depth t = in_wide_explains accesses ev parts target_at_explains targeted_explains op k scope depth t
  kind_rule_explains costs kinds.Unsupported op scope depth t = stop_explains _ tt

  code_rule_explains : Costs ev → (c : TermCode) (scope : List Seg) (depth : ℕ) (t : Tree) → RunExplains accesses (code_rule accesses ev c scope depth t)
  code_rule_explains costs (codes.Opcode op) scope depth t = kind_rule_explains costs (kind_of op) op scope depth t
  code_rule_explains costs codes.MethodInvocation scope depth t = name_value_explains scope depth t
  code_rule_explains costs codes.Name scope depth t = stop_explains _ tt
  code_rule_explains costs codes.NamedField scope depth t = stop_explains _ tt
  code_rule_explains costs codes.ReservedField scope depth t = stop_explains _ tt
  code_rule_explains costs codes.AccessField scope depth t = stop_explains _ tt
  code_rule_explains costs codes.ExtendedAccessField scope depth t = stop_explains _ tt
  code_rule_explains costs codes.ConnectField scope depth t = stop_explains _ tt

  pub rule_explains : Costs ev → (t : Task) → RunExplains accesses (rule accesses ev t)
  unfolding rule
  rule_explains costs t = code_rule_explains costs (code_of t.term) t.scope t.depth t.term
