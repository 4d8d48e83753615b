-- The rule of each term goes the same way over two register spaces, where its parts do; so every evaluation does.
use Rattle.std.specs.Prelude.{ℕ, zero, suc, List, Bool, true, false, Option, Some, None, refl}
use Rattle.std.proofs.Common.{inl}
use Rattle.ar_space.specs.Accesses.{Accesses}
use Rattle.aml_path.specs.declared.segment.Seg.{Seg}
use Rattle.aml_grammar.specs.declared.opcode.Opcode.{Opcode}
use Rattle.aml_grammar.specs.declared.opcode.TermCode.{TermCode}
use Rattle.aml_grammar.specs.declared.opcode.TermCode.TheVariants as codes
use Rattle.aml_grammar.specs.Tree.{Tree, term, Trees, no_trees, tree, Part, null, name, number, bytes, inner, list, Parts, no_parts, part}
use Rattle.aml_grammar.specs.Apart.{code_of, operand_of}
use Rattle.aml_objects.specs.declared.value.Value.{Value}
use Rattle.aml_objects.specs.declared.value.Slot.{Slot}
use Rattle.aml_objects.specs.declared.object.Element.{Element}
use Rattle.aml_objects.specs.declared.entry.NamedObject.{NamedObject}
use Rattle.aml_world.specs.declared.values.operation_kind.OneOperand.{OneOperand}
use Rattle.aml_world.specs.declared.values.operation_kind.TwoOperands.{TwoOperands}
use Rattle.aml_world.specs.declared.values.operation_kind.Test.{Test}
use Rattle.aml_world.specs.declared.values.operation_kind.Count.{Count}
use Rattle.aml_world.specs.declared.state.invocation.Invocation.{Invocation}
use Rattle.aml_world.specs.declared.state.invocation.Invocation.TheVariants as invocations
use Rattle.aml_world.specs.declared.values.store_target.StoreTarget.{StoreTarget}
use Rattle.aml_world.specs.state.Run.{Run}
use Rattle.aml_meaning.specs.declared.flow.Flow.{Flow}
use Rattle.aml_meaning.specs.declared.term_kind.TermKind.{TermKind}
use Rattle.aml_meaning.specs.declared.term_kind.TermKind.TheVariants as kinds
use Rattle.aml_meaning.specs.declared.term_kind.DataKind.{DataKind}
use Rattle.aml_meaning.specs.declared.term_kind.DataKind.TheVariants as datas
use Rattle.aml_meaning.specs.declared.term_kind.DeclarationKind.{DeclarationKind}
use Rattle.aml_meaning.specs.declared.term_kind.DeclarationKind.TheVariants as declarations
use Rattle.aml_meaning.specs.declared.term_kind.OperatorKind.{OperatorKind}
use Rattle.aml_meaning.specs.declared.term_kind.OperatorKind.TheVariants as operators
use Rattle.aml_meaning.specs.declared.term_kind.StatementKind.{StatementKind}
use Rattle.aml_meaning.specs.declared.term_kind.StatementKind.TheVariants as statements
use Rattle.aml_meaning.specs.declared.term_kind.TargetKind.{TargetKind}
use Rattle.aml_objects.specs.declared.value.Reference.{Reference}
use Rattle.aml_meaning.specs.declared.term_kind.TargetKind.TheVariants as target
use Rattle.aml_meaning.specs.declared.term_kind.RegionKind.{RegionKind}
use Rattle.aml_meaning.specs.declared.term_kind.RegionKind.TheVariants as regions
use Rattle.aml_meaning.specs.Terms.{kind_of, target_kind, count_of}
use Rattle.aml_meaning.specs.Tasks.{Task}
use Rattle.aml_meaning.specs.DataTerms.{constant_rule, integer_rule, string_rule, buffer_rule, named_element, valued_element, element_by, elements_in_turn, package_of, package_rule, var_package_rule, data_rule}
use Rattle.aml_meaning.specs.DeclarationTerms.{declaring, name_rule, alias_rule, method_rule, scope_rule, new_scope, declaration_rule}
use Rattle.aml_meaning.specs.TargetTerms.{indexed_target, dereferenced_target, target_by_kind, target_of, first_target, part_target, name_target, target_by, target_at, targeted}
use Rattle.aml_meaning.specs.OperatorTerms.{slot_rule, store_rule, copy_rule, two_rule, divide_rule, one_rule, test_rule, lnot_rule, count_rule, referent_of_value, referent_of_target, referent_by_kind, referent_by, size_rule, type_rule, acquire_rule, reference_rule, dereference_rule, sought_name, sought_target, sought, reference_stored, reference_found, conditional_rule, operator_rule}
use Rattle.aml_meaning.specs.StatementTerms.{otherwise, branch, if_rule, else_rule, turn_of, turn, loop_end, after_turn, turns, loop, while_rule, return_rule, release_rule, notify_rule, pause_rule, fatal_rule, statement_rule}
use Rattle.aml_meaning.specs.InvocationTerms.{arguments_in_turn, call_rule, osi_rule, field_rule, invocation_rule, name_value}
use Rattle.aml_meaning.specs.FieldTerms.{fields_laid, region_rule, field_list_rule, index_list_rule, sized_field_rule, bits_field_rule, region_term_rule}
use Rattle.aml_meaning.specs.Evaluation.{kind_rule, code_rule, rule}
use Rattle.aml_laws.proofs.Together.{Fits, Sides, Together, ended_fits, ended_together, fits_before, fits_ended, fits_next, fits_none, more_fits, give_together, settle_together, stop_together, then_together}
use Rattle.aml_laws.proofs.WorldsTogether.{charge_together, lift_together, objects_together, runs}
use Rattle.aml_laws.proofs.ChangesTogether.{counted_by_together, divided_in_together, integer_in_together, integer_kept_together, new_buffer_together, new_method_together, new_name_together, new_package_together, osi_answered_together, path_found_together, result_of_one_together, result_of_test_together, result_of_two_together, scope_found_together, size_in_together, target_named_together, lnot_together, within_together, invocation_found_together}
use Rattle.aml_laws.proofs.NestingTogether.{call_allowed_together}
use Rattle.aml_laws.proofs.StoreTargetsTogether.{acquired_at_together, copied_to_together, dereferenced_together, given_back_at_together, if_initialized_together, reference_if_found_together, reference_of_together, slot_read_together, target_read_together, target_referent_together, tested_together, value_referent_together}
use Rattle.aml_laws.proofs.FieldsTogether.{elements_laid_together, field_found_together, region_found_together}
use Rattle.aml_laws.proofs.Levels.{level, at_level}
use Rattle.aml_laws.proofs.OperandsTogether.{PartsTogether, completed_together, field_read_together, held_integer_together, held_value_together, in_turn_together, invoked_together, operand_integer_together, operand_value_together, referent_read_together, stored_back_together, stored_to_together, two_values_together, value_at_together}
use Rattle.aml_laws.proofs.WideTermsTogether.{connections_asked_together, in_wide_together}

module _ {S T : Type 0} {accesses : Accesses S} {accesses2 : Accesses T} {side : Sides accesses accesses2} {ev : Task → Run S Flow} {ev2 : Task → Run T Flow} (parts : PartsTogether side ev ev2) where
  constant_rule_together : (k : ℕ) → Together side runs (constant_rule ev k) (constant_rule ev2 k)
  unfolding constant_rule
  constant_rule_together k = then_together (lift_together (integer_kept_together k)) (λ v. give_together _)

  buffer_rule_together : (scope : List Seg) (depth : ℕ) (t : Tree) → Together (level side depth) runs (buffer_rule ev scope depth t) (buffer_rule ev2 scope depth t)
  unfolding buffer_rule
  buffer_rule_together scope depth t = then_together (settle_together _) (λ size. then_together (operand_integer_together parts scope depth size) (λ k. then_together (settle_together _) (λ bytes. then_together (lift_together (new_buffer_together k bytes)) (λ v. give_together _))))

  named_element_together : (scope : List Seg) (t : Tree) → Together side runs (named_element ev scope t) (named_element ev2 scope t)
  unfolding named_element
  named_element_together scope t = then_together charge_together (λ u. then_together (settle_together _) (λ x. give_together _))

  valued_element_together : (scope : List Seg) (depth : ℕ) (t : Tree) → Together (level side depth) runs (valued_element ev scope depth t) (valued_element ev2 scope depth t)
  unfolding valued_element
  valued_element_together scope depth t = then_together (operand_value_together parts scope depth t) (λ v. give_together _)

  element_by_together : (c : TermCode) (scope : List Seg) (depth : ℕ) (t : Tree) → Together (level side depth) runs (element_by ev c scope depth t) (element_by ev2 c scope depth t)
  element_by_together codes.Name scope depth t = at_level side depth (named_element_together scope t)
  element_by_together (codes.Opcode op) scope depth t = valued_element_together scope depth t
  element_by_together codes.MethodInvocation scope depth t = valued_element_together scope depth t
  element_by_together codes.NamedField scope depth t = valued_element_together scope depth t
  element_by_together codes.ReservedField scope depth t = valued_element_together scope depth t
  element_by_together codes.AccessField scope depth t = valued_element_together scope depth t
  element_by_together codes.ExtendedAccessField scope depth t = valued_element_together scope depth t
  element_by_together codes.ConnectField scope depth t = valued_element_together scope depth t

  elements_in_turn_together : (scope : List Seg) (depth k : ℕ) (ts : Trees) (done : List Element) → Together (level side depth) runs (elements_in_turn ev scope depth k ts done) (elements_in_turn ev2 scope depth k ts done)
  unfolding elements_in_turn
  elements_in_turn_together scope depth zero ts done = give_together _
  elements_in_turn_together scope depth (suc k) no_trees done = give_together _
  elements_in_turn_together scope depth (suc k) (tree t ts) done = then_together (element_by_together (code_of t) scope depth t) (λ e. elements_in_turn_together scope depth k ts _)

  package_of_together : (scope : List Seg) (depth k : ℕ) (ts : Trees) → Together (level side depth) runs (package_of ev scope depth k ts) (package_of ev2 scope depth k ts)
  unfolding package_of
  package_of_together scope depth k ts = then_together (elements_in_turn_together scope depth k ts _) (λ es. then_together (lift_together (new_package_together k es)) (λ v. give_together _))

  package_rule_together : (scope : List Seg) (depth : ℕ) (t : Tree) → Together (level side depth) runs (package_rule ev scope depth t) (package_rule ev2 scope depth t)
  unfolding package_rule
  package_rule_together scope depth t = then_together (settle_together _) (λ k. then_together (settle_together _) (λ ts. package_of_together scope depth k ts))

  var_package_rule_together : (scope : List Seg) (depth : ℕ) (t : Tree) → Together (level side depth) runs (var_package_rule ev scope depth t) (var_package_rule ev2 scope depth t)
  unfolding var_package_rule
  var_package_rule_together scope depth t = then_together (settle_together _) (λ size. then_together (operand_integer_together parts scope depth size) (λ k. then_together (lift_together (within_together _ k)) (λ u. then_together (settle_together _) (λ ts. package_of_together scope depth k ts))))

  pub declaring_together : (scope : List Seg) (depth : ℕ) (t : Tree) (position : ℕ) (o : NamedObject) → Together (level side depth) runs (declaring ev scope depth t position o) (declaring ev2 scope depth t position o)
  unfolding declaring
  declaring_together scope depth t position o = then_together (settle_together _) (λ x. then_together (settle_together _) (λ q. then_together (lift_together (new_name_together _ q o)) (λ u. give_together _)))

  name_rule_together : (scope : List Seg) (depth : ℕ) (t : Tree) → Together (level side depth) runs (name_rule ev scope depth t) (name_rule ev2 scope depth t)
  unfolding name_rule
  name_rule_together scope depth t = then_together (settle_together _) (λ d. then_together (operand_value_together parts scope depth d) (λ v. declaring_together scope depth t _ _))

  new_scope_together : (o : NamedObject) (place : ℕ) (scope : List Seg) (depth : ℕ) (t : Tree) → Together (level side depth) runs (new_scope ev o place scope depth t) (new_scope ev2 o place scope depth t)
  unfolding new_scope
  new_scope_together o place scope depth t = then_together (settle_together _) (λ x. then_together (settle_together _) (λ q. then_together (lift_together (new_name_together _ q o)) (λ u. then_together (settle_together _) (λ ts. in_turn_together parts q depth ts))))

  scope_rule_together : (scope : List Seg) (depth : ℕ) (t : Tree) → Together (level side depth) runs (scope_rule ev scope depth t) (scope_rule ev2 scope depth t)
  unfolding scope_rule
  scope_rule_together scope depth t = then_together (settle_together _) (λ x. then_together (lift_together (scope_found_together scope x)) (λ q. then_together (settle_together _) (λ ts. in_turn_together parts q depth ts)))

  alias_rule_together : (scope : List Seg) (depth : ℕ) (t : Tree) → Together (level side depth) runs (alias_rule ev scope depth t) (alias_rule ev2 scope depth t)
  unfolding alias_rule
  alias_rule_together scope depth t = then_together (settle_together _) (λ x. then_together (lift_together (path_found_together scope x)) (λ target. then_together (settle_together _) (λ y. then_together (settle_together _) (λ q. then_together (lift_together (new_name_together _ q _)) (λ u. give_together _)))))

  method_rule_together : (scope : List Seg) (depth : ℕ) (t : Tree) → Together (level side depth) runs (method_rule ev scope depth t) (method_rule ev2 scope depth t)
  unfolding method_rule
  method_rule_together scope depth t = then_together (settle_together _) (λ x. then_together (settle_together _) (λ q. then_together (settle_together _) (λ flags. then_together (settle_together _) (λ body. then_together (lift_together (new_method_together _ q _ body)) (λ u. give_together _)))))

  string_rule_together : (t : Tree) → Together side runs (string_rule ev t) (string_rule ev2 t)
  unfolding string_rule
  string_rule_together t = then_together (settle_together _) (λ x. then_together (lift_together (objects_together _)) (λ v. give_together _))

  integer_rule_together : (t : Tree) → Together side runs (integer_rule ev t) (integer_rule ev2 t)
  unfolding integer_rule
  integer_rule_together t = then_together (settle_together _) (λ k. constant_rule_together k)

  data_rule_together : (k : DataKind) (scope : List Seg) (depth : ℕ) (t : Tree) → Together (level side depth) runs (data_rule ev k scope depth t) (data_rule ev2 k scope depth t)
  data_rule_together (datas.Constant k) scope depth t = at_level side depth (constant_rule_together k)
  data_rule_together datas.Integer scope depth t = at_level side depth (integer_rule_together t)
  data_rule_together datas.String scope depth t = at_level side depth (string_rule_together t)
  data_rule_together datas.Buffer scope depth t = buffer_rule_together scope depth t
  data_rule_together datas.Package scope depth t = package_rule_together scope depth t
  data_rule_together datas.VarPackage scope depth t = var_package_rule_together scope depth t

  declaration_rule_together : (k : DeclarationKind) (scope : List Seg) (depth : ℕ) (t : Tree) → Together (level side depth) runs (declaration_rule ev k scope depth t) (declaration_rule ev2 k scope depth t)
  declaration_rule_together declarations.Scope scope depth t = scope_rule_together scope depth t
  declaration_rule_together declarations.Device scope depth t = new_scope_together _ _ scope depth t
  declaration_rule_together declarations.Processor scope depth t = new_scope_together _ _ scope depth t
  declaration_rule_together declarations.PowerResource scope depth t = new_scope_together _ _ scope depth t
  declaration_rule_together declarations.ThermalZone scope depth t = new_scope_together _ _ scope depth t
  declaration_rule_together declarations.Name scope depth t = name_rule_together scope depth t
  declaration_rule_together declarations.Alias scope depth t = alias_rule_together scope depth t
  declaration_rule_together declarations.External scope depth t = give_together _
  declaration_rule_together declarations.Method scope depth t = method_rule_together scope depth t
  declaration_rule_together declarations.Mutex scope depth t = declaring_together scope depth t _ _
  declaration_rule_together declarations.Event scope depth t = declaring_together scope depth t _ _

  -- ---- places and operators

  indexed_target_together : (scope : List Seg) (depth : ℕ) (t : Tree) → Together (level side depth) runs (indexed_target ev scope depth t) (indexed_target ev2 scope depth t)
  unfolding indexed_target
  indexed_target_together scope depth t = then_together (operand_value_together parts scope depth t) (λ v. then_together (settle_together _) (λ r. give_together _))

  dereferenced_target_together : (scope : List Seg) (depth : ℕ) (t : Tree) → Together (level side depth) runs (dereferenced_target ev scope depth t) (dereferenced_target ev2 scope depth t)
  unfolding dereferenced_target
  dereferenced_target_together scope depth t = then_together charge_together (λ u. then_together (value_at_together parts scope depth t 0) (λ v. then_together (settle_together _) (λ r. then_together (lift_together (tested_together r)) (λ there. give_together _))))

  target_by_kind_together : (scope : List Seg) (depth : ℕ) (t : Tree) {m : Run S StoreTarget} {m2 : Run T StoreTarget} (kind : TargetKind) → Together (level side depth) runs m m2 → Together (level side depth) runs (target_by_kind ev scope depth t m kind) (target_by_kind ev2 scope depth t m2 kind)
  target_by_kind_together scope depth t target.Nowhere h = give_together _
  target_by_kind_together scope depth t (target.Slot slot) h = give_together _
  target_by_kind_together scope depth t target.RefOf h = then_together charge_together (λ u. h)
  target_by_kind_together scope depth t target.DerefOf h = dereferenced_target_together scope depth t
  target_by_kind_together scope depth t target.Index h = indexed_target_together scope depth t
  target_by_kind_together scope depth t target.Other h = stop_together _

  mutual
    unfolding target_of

    target_of_together : (scope : List Seg) (depth : ℕ) (t : Tree) → Together (level side depth) runs (target_of ev scope depth t) (target_of ev2 scope depth t)
    target_of_together scope depth (term c ps) = target_by_kind_together scope depth (term c ps) (target_kind c) (first_target_together scope depth ps)

    first_target_together : (scope : List Seg) (depth : ℕ) (ps : Parts) → Together (level side depth) runs (first_target ev scope depth ps) (first_target ev2 scope depth ps)
    first_target_together scope depth no_parts = stop_together _
    first_target_together scope depth (part p ps) = part_target_together scope depth p

    part_target_together : (scope : List Seg) (depth : ℕ) (p : Part) → Together (level side depth) runs (part_target ev scope depth p) (part_target ev2 scope depth p)
    part_target_together scope depth null = give_together _
    part_target_together scope depth (name x) = lift_together (target_named_together scope x)
    part_target_together scope depth (number k) = stop_together _
    part_target_together scope depth (bytes bs) = stop_together _
    part_target_together scope depth (inner u) = target_of_together scope depth u
    part_target_together scope depth (list ts) = stop_together _

  name_target_together : (scope : List Seg) (t : Tree) (i : ℕ) → Together side runs (name_target ev scope t i) (name_target ev2 scope t i)
  unfolding name_target
  name_target_together scope t i = then_together (settle_together _) (λ x. lift_together (target_named_together scope x))

  target_by_together : (scope : List Seg) (depth : ℕ) (t : Tree) (i : ℕ) (o : Option Part) → Together (level side depth) runs (target_by ev scope depth t i o) (target_by ev2 scope depth t i o)
  target_by_together scope depth t i None = stop_together _
  target_by_together scope depth t i (Some null) = give_together _
  target_by_together scope depth t i (Some (name x)) = at_level side depth (name_target_together scope t i)
  target_by_together scope depth t i (Some (number k)) = stop_together _
  target_by_together scope depth t i (Some (bytes bs)) = stop_together _
  target_by_together scope depth t i (Some (inner u)) = target_of_together scope depth u
  target_by_together scope depth t i (Some (list ts)) = stop_together _

  target_at_together : (scope : List Seg) (depth : ℕ) (t : Tree) (i : ℕ) → Together (level side depth) runs (target_at ev scope depth t i) (target_at ev2 scope depth t i)
  target_at_together scope depth t i = target_by_together scope depth t i (operand_of t i)

  targeted_together : (scope : List Seg) (depth : ℕ) (t : Tree) (i : ℕ) (v : Value) → Together (level side depth) runs (targeted accesses ev scope depth t i v) (targeted accesses2 ev2 scope depth t i v)
  unfolding targeted
  targeted_together scope depth t i v = then_together (target_at_together scope depth t i) (λ q. then_together (stored_to_together parts depth q v) (λ done. give_together _))

  slot_rule_together : (slot : Slot) → Together side runs (slot_rule accesses ev slot) (slot_rule accesses2 ev2 slot)
  unfolding slot_rule
  slot_rule_together slot = then_together (lift_together (slot_read_together slot)) (λ v. give_together _)

  store_rule_together : (scope : List Seg) (depth : ℕ) (t : Tree) → Together (level side depth) runs (store_rule accesses ev scope depth t) (store_rule accesses2 ev2 scope depth t)
  unfolding store_rule
  store_rule_together scope depth t = then_together (value_at_together parts scope depth t 0) (λ v. targeted_together scope depth t 1 v)

  copy_rule_together : (scope : List Seg) (depth : ℕ) (t : Tree) → Together (level side depth) runs (copy_rule accesses ev scope depth t) (copy_rule accesses2 ev2 scope depth t)
  unfolding copy_rule
  copy_rule_together scope depth t = then_together (value_at_together parts scope depth t 0) (λ v. then_together (target_at_together scope depth t 1) (λ q. then_together (lift_together (copied_to_together q v)) (λ s. then_together (completed_together parts depth s v) (λ done. give_together _))))

  two_rule_together : (k : TwoOperands) (scope : List Seg) (depth : ℕ) (t : Tree) → Together (level side depth) runs (two_rule accesses ev k scope depth t) (two_rule accesses2 ev2 k scope depth t)
  unfolding two_rule
  two_rule_together k scope depth t = then_together (two_values_together parts scope depth t) (λ x. then_together (lift_together (result_of_two_together k x.0 x.1)) (λ r. targeted_together scope depth t 2 r))

  divide_rule_together : (scope : List Seg) (depth : ℕ) (t : Tree) → Together (level side depth) runs (divide_rule accesses ev scope depth t) (divide_rule accesses2 ev2 scope depth t)
  unfolding divide_rule
  divide_rule_together scope depth t = then_together (two_values_together parts scope depth t) (λ x. then_together (lift_together (divided_in_together x.0 x.1)) (λ d. then_together (targeted_together scope depth t 2 _) (λ done. targeted_together scope depth t 3 _)))

  one_rule_together : (k : OneOperand) (scope : List Seg) (depth : ℕ) (t : Tree) → Together (level side depth) runs (one_rule accesses ev k scope depth t) (one_rule accesses2 ev2 k scope depth t)
  unfolding one_rule
  one_rule_together k scope depth t = then_together (value_at_together parts scope depth t 0) (λ v. then_together (lift_together (result_of_one_together k v)) (λ r. targeted_together scope depth t 1 r))

  test_rule_together : (k : Test) (scope : List Seg) (depth : ℕ) (t : Tree) → Together (level side depth) runs (test_rule accesses ev k scope depth t) (test_rule accesses2 ev2 k scope depth t)
  unfolding test_rule
  test_rule_together k scope depth t = then_together (two_values_together parts scope depth t) (λ x. then_together (lift_together (result_of_test_together k x.0 x.1)) (λ r. give_together _))

  lnot_rule_together : (scope : List Seg) (depth : ℕ) (t : Tree) → Together (level side depth) runs (lnot_rule accesses ev scope depth t) (lnot_rule accesses2 ev2 scope depth t)
  unfolding lnot_rule
  lnot_rule_together scope depth t = then_together (value_at_together parts scope depth t 0) (λ v. then_together (lift_together (lnot_together v)) (λ r. give_together _))

  count_rule_together : (k : Count) (scope : List Seg) (depth : ℕ) (t : Tree) → Together (level side depth) runs (count_rule accesses ev k scope depth t) (count_rule accesses2 ev2 k scope depth t)
  unfolding count_rule
  count_rule_together k scope depth t = then_together (target_at_together scope depth t 0) (λ q. then_together (lift_together (target_read_together q)) (λ h. then_together (held_integer_together parts depth h) (λ x. then_together (lift_together (counted_by_together k x)) (λ r. then_together (stored_back_together parts depth h q r) (λ done. give_together _)))))

  referent_of_value_together : (scope : List Seg) (depth : ℕ) (u : Tree) → Together (level side depth) runs (referent_of_value accesses ev scope depth u) (referent_of_value accesses2 ev2 scope depth u)
  unfolding referent_of_value
  referent_of_value_together scope depth u = then_together (operand_value_together parts scope depth u) (λ v. lift_together (value_referent_together v))

  referent_of_target_together : (scope : List Seg) (depth : ℕ) (t : Tree) → Together (level side depth) runs (referent_of_target accesses ev scope depth t) (referent_of_target accesses2 ev2 scope depth t)
  unfolding referent_of_target
  referent_of_target_together scope depth t = then_together (target_at_together scope depth t 0) (λ q. lift_together (target_referent_together q))

  referent_by_kind_together : (scope : List Seg) (depth : ℕ) (t u : Tree) (k : TargetKind) → Together (level side depth) runs (referent_by_kind accesses ev scope depth t u k) (referent_by_kind accesses2 ev2 scope depth t u k)
  referent_by_kind_together scope depth t u target.RefOf = referent_of_value_together scope depth u
  referent_by_kind_together scope depth t u target.DerefOf = referent_of_value_together scope depth u
  referent_by_kind_together scope depth t u target.Index = referent_of_value_together scope depth u
  referent_by_kind_together scope depth t u target.Nowhere = referent_of_target_together scope depth t
  referent_by_kind_together scope depth t u (target.Slot slot) = referent_of_target_together scope depth t
  referent_by_kind_together scope depth t u target.Other = referent_of_target_together scope depth t

  referent_by_together : (scope : List Seg) (depth : ℕ) (t : Tree) (o : Option Part) → Together (level side depth) runs (referent_by accesses ev scope depth t o) (referent_by accesses2 ev2 scope depth t o)
  referent_by_together scope depth t None = referent_of_target_together scope depth t
  referent_by_together scope depth t (Some null) = referent_of_target_together scope depth t
  referent_by_together scope depth t (Some (name x)) = referent_of_target_together scope depth t
  referent_by_together scope depth t (Some (number k)) = referent_of_target_together scope depth t
  referent_by_together scope depth t (Some (bytes bs)) = referent_of_target_together scope depth t
  referent_by_together scope depth t (Some (inner u)) = referent_by_kind_together scope depth t u _
  referent_by_together scope depth t (Some (list ts)) = referent_of_target_together scope depth t

  size_rule_together : (scope : List Seg) (depth : ℕ) (t : Tree) → Together (level side depth) runs (size_rule accesses ev scope depth t) (size_rule accesses2 ev2 scope depth t)
  unfolding size_rule
  size_rule_together scope depth t = then_together (referent_by_together scope depth t _) (λ r. then_together (referent_read_together parts depth r) (λ s. then_together (lift_together (size_in_together s)) (λ v. give_together _)))

  type_rule_together : (scope : List Seg) (depth : ℕ) (t : Tree) → Together (level side depth) runs (type_rule accesses ev scope depth t) (type_rule accesses2 ev2 scope depth t)
  unfolding type_rule
  type_rule_together scope depth t = then_together (referent_by_together scope depth t _) (λ r. then_together (referent_read_together parts depth r) (λ s. give_together _))

  reference_rule_together : (scope : List Seg) (depth : ℕ) (t : Tree) → Together (level side depth) runs (reference_rule accesses ev scope depth t) (reference_rule accesses2 ev2 scope depth t)
  unfolding reference_rule
  reference_rule_together scope depth t = then_together (target_at_together scope depth t 0) (λ q. then_together (lift_together (reference_of_together q)) (λ r. give_together _))

  dereference_rule_together : (scope : List Seg) (depth : ℕ) (t : Tree) → Together (level side depth) runs (dereference_rule accesses ev scope depth t) (dereference_rule accesses2 ev2 scope depth t)
  unfolding dereference_rule
  dereference_rule_together scope depth t = then_together (value_at_together parts scope depth t 0) (λ v. then_together (settle_together _) (λ r. then_together (lift_together (dereferenced_together r)) (λ h. then_together (held_value_together parts depth h) (λ x. give_together _))))

  sought_name_together : (scope : List Seg) (t : Tree) → Together side runs (sought_name accesses ev scope t) (sought_name accesses2 ev2 scope t)
  unfolding sought_name
  sought_name_together scope t = then_together (settle_together _) (λ x. lift_together (reference_if_found_together scope x))

  sought_target_together : (scope : List Seg) (depth : ℕ) (t : Tree) → Together (level side depth) runs (sought_target accesses ev scope depth t) (sought_target accesses2 ev2 scope depth t)
  unfolding sought_target
  sought_target_together scope depth t = then_together (target_at_together scope depth t 0) (λ q. then_together (lift_together (reference_of_together q)) (λ r. lift_together (if_initialized_together r)))

  sought_together : (scope : List Seg) (depth : ℕ) (t : Tree) (o : Option Part) → Together (level side depth) runs (sought accesses ev scope depth t o) (sought accesses2 ev2 scope depth t o)
  sought_together scope depth t None = sought_target_together scope depth t
  sought_together scope depth t (Some null) = sought_target_together scope depth t
  sought_together scope depth t (Some (name x)) = at_level side depth (sought_name_together scope t)
  sought_together scope depth t (Some (number k)) = sought_target_together scope depth t
  sought_together scope depth t (Some (bytes bs)) = sought_target_together scope depth t
  sought_together scope depth t (Some (inner u)) = sought_target_together scope depth t
  sought_together scope depth t (Some (list ts)) = sought_target_together scope depth t

  reference_found_together : (scope : List Seg) (depth : ℕ) (t : Tree) (o : Option Reference) → Together (level side depth) runs (reference_found accesses ev scope depth t o) (reference_found accesses2 ev2 scope depth t o)
  unfolding reference_stored
  reference_found_together scope depth t None = give_together _
  reference_found_together scope depth t (Some r) = then_together (targeted_together scope depth t 1 _) (λ done. then_together (lift_together (integer_kept_together _)) (λ v. give_together _))

  conditional_rule_together : (scope : List Seg) (depth : ℕ) (t : Tree) → Together (level side depth) runs (conditional_rule accesses ev scope depth t) (conditional_rule accesses2 ev2 scope depth t)
  unfolding conditional_rule
  conditional_rule_together scope depth t = then_together (sought_together scope depth t _) (λ o. reference_found_together scope depth t o)

  acquire_rule_together : (scope : List Seg) (depth : ℕ) (t : Tree) → Together (level side depth) runs (acquire_rule accesses ev scope depth t) (acquire_rule accesses2 ev2 scope depth t)
  unfolding acquire_rule
  acquire_rule_together scope depth t = then_together (target_at_together scope depth t 0) (λ q. then_together (lift_together (acquired_at_together q)) (λ done. give_together _))

  operator_rule_together : (k : OperatorKind) (scope : List Seg) (depth : ℕ) (t : Tree) → Together (level side depth) runs (operator_rule accesses ev k scope depth t) (operator_rule accesses2 ev2 k scope depth t)
  operator_rule_together (operators.Slot slot) scope depth t = at_level side depth (slot_rule_together slot)
  operator_rule_together operators.Store scope depth t = store_rule_together scope depth t
  operator_rule_together operators.CopyObject scope depth t = copy_rule_together scope depth t
  operator_rule_together (operators.Two k) scope depth t = two_rule_together k scope depth t
  operator_rule_together operators.Divide scope depth t = divide_rule_together scope depth t
  operator_rule_together (operators.One k) scope depth t = one_rule_together k scope depth t
  operator_rule_together (operators.Test k) scope depth t = test_rule_together k scope depth t
  operator_rule_together operators.LNot scope depth t = lnot_rule_together scope depth t
  operator_rule_together (operators.Count k) scope depth t = count_rule_together k scope depth t
  operator_rule_together operators.SizeOf scope depth t = size_rule_together scope depth t
  operator_rule_together operators.ObjectType scope depth t = type_rule_together scope depth t
  operator_rule_together operators.Acquire scope depth t = acquire_rule_together scope depth t
  operator_rule_together operators.RefOf scope depth t = reference_rule_together scope depth t
  operator_rule_together operators.CondRefOf scope depth t = conditional_rule_together scope depth t
  operator_rule_together operators.DerefOf scope depth t = dereference_rule_together scope depth t

  -- ---- statements

  otherwise_together : (scope : List Seg) (depth : ℕ) (e : Option Tree) → Together (level side depth) runs (otherwise ev scope depth e) (otherwise ev2 scope depth e)
  otherwise_together scope depth None = give_together _
  otherwise_together scope depth (Some e) = parts.part _

  branch_together : (scope : List Seg) (depth : ℕ) (ts : Trees) (e : Option Tree) (b : Bool) → Together (level side depth) runs (branch ev scope depth ts e b) (branch ev2 scope depth ts e b)
  branch_together scope depth ts e true = in_turn_together parts scope depth ts
  branch_together scope depth ts e false = otherwise_together scope depth e

  if_rule_together : (scope : List Seg) (depth : ℕ) (t : Tree) → Together (level side depth) runs (if_rule ev scope depth t) (if_rule ev2 scope depth t)
  unfolding if_rule
  if_rule_together scope depth t = then_together (settle_together _) (λ c. then_together (settle_together _) (λ ts. then_together (operand_integer_together parts scope depth c) (λ x. branch_together scope depth ts _ _)))

  else_rule_together : (scope : List Seg) (depth : ℕ) (t : Tree) → Together (level side depth) runs (else_rule ev scope depth t) (else_rule ev2 scope depth t)
  unfolding else_rule
  else_rule_together scope depth t = then_together (settle_together _) (λ ts. in_turn_together parts scope depth ts)

  turn_of_together : (scope : List Seg) (depth : ℕ) (ts : Trees) (b : Bool) → Together (level side depth) runs (turn_of ev scope depth ts b) (turn_of ev2 scope depth ts b)
  turn_of_together scope depth ts true = in_turn_together parts scope depth ts
  turn_of_together scope depth ts false = give_together _

  turn_together : (scope : List Seg) (depth : ℕ) (c : Tree) (ts : Trees) → Together (level side depth) runs (turn ev scope depth c ts) (turn ev2 scope depth c ts)
  unfolding turn
  turn_together scope depth c ts = then_together (operand_integer_together parts scope depth c) (λ x. turn_of_together scope depth ts _)

  after_turn_together : (depth : ℕ) (o : Option Flow) {m : Run S Flow} {m2 : Run T Flow} → Together (level side depth) runs m m2 → Together (level side depth) runs (after_turn ev o m) (after_turn ev2 o m2)
  after_turn_together depth None h = h
  after_turn_together depth (Some f) h = give_together _

  turns_together : (j k : ℕ) → Fits side j k → (scope : List Seg) (depth : ℕ) (c : Tree) (ts : Trees) → Together (level side depth) runs (turns ev j scope depth c ts) (turns ev2 k scope depth c ts)
  unfolding turns
  turns_together zero zero fits scope depth c ts = stop_together _
  turns_together (suc j) zero fits scope depth c ts = absurd (fits_none side j fits)
  turns_together zero (suc k) fits scope depth c ts =
      let ends = fits_ended side k fits in
      let turn_by_turn = then_together (turn_together scope depth c ts) (λ f. after_turn_together depth (loop_end f) (turns_together zero k (ended_fits side k ends) scope depth c ts)) in
      ended_together _ (inl ends) (λ s u p. turn_by_turn.right_parted s u p)
  turns_together (suc j) (suc k) fits scope depth c ts = then_together (turn_together scope depth c ts) (λ f. after_turn_together depth (loop_end f) (turns_together j k (fits_before side j k fits) scope depth c ts))

  loop_together : (scope : List Seg) (depth : ℕ) (c : Tree) (ts : Trees) → Together (level side depth) runs (loop ev scope depth c ts) (loop ev2 scope depth c ts)
  unfolding loop
  loop_together scope depth c ts = record {
    left_parted = λ s t h. (turns_together (suc s.1) (suc s.1) (inl refl) scope depth c ts).left_parted s t h;
    right_parted = λ s u h. (turns_together (suc u.1) (suc u.1) (inl refl) scope depth c ts).right_parted s u h;
    goes = λ s t i. (turns_together (suc s.1) (suc (side.more s.1)) (fits_next side s.1 (side.more s.1) (more_fits side s.1)) scope depth c ts).goes s t i;
  }

  while_rule_together : (scope : List Seg) (depth : ℕ) (t : Tree) → Together (level side depth) runs (while_rule ev scope depth t) (while_rule ev2 scope depth t)
  unfolding while_rule
  while_rule_together scope depth t = then_together (settle_together _) (λ c. then_together (settle_together _) (λ ts. loop_together scope depth c ts))

  return_rule_together : (scope : List Seg) (depth : ℕ) (t : Tree) → Together (level side depth) runs (return_rule ev scope depth t) (return_rule ev2 scope depth t)
  unfolding return_rule
  return_rule_together scope depth t = then_together (value_at_together parts scope depth t 0) (λ v. give_together _)

  release_rule_together : (scope : List Seg) (depth : ℕ) (t : Tree) → Together (level side depth) runs (release_rule ev scope depth t) (release_rule ev2 scope depth t)
  unfolding release_rule
  release_rule_together scope depth t = then_together (target_at_together scope depth t 0) (λ q. then_together (lift_together (given_back_at_together q)) (λ done. give_together _))

  notify_rule_together : (scope : List Seg) (depth : ℕ) (t : Tree) → Together (level side depth) runs (notify_rule ev scope depth t) (notify_rule ev2 scope depth t)
  unfolding notify_rule
  notify_rule_together scope depth t = then_together (target_at_together scope depth t 0) (λ q. then_together (value_at_together parts scope depth t 1) (λ v. give_together _))

  pause_rule_together : (scope : List Seg) (depth : ℕ) (t : Tree) → Together (level side depth) runs (pause_rule ev scope depth t) (pause_rule ev2 scope depth t)
  unfolding pause_rule
  pause_rule_together scope depth t = then_together (value_at_together parts scope depth t 0) (λ v. give_together _)

  fatal_rule_together : (scope : List Seg) (depth : ℕ) (t : Tree) → Together (level side depth) runs (fatal_rule ev scope depth t) (fatal_rule ev2 scope depth t)
  unfolding fatal_rule
  fatal_rule_together scope depth t = then_together (value_at_together parts scope depth t 2) (λ v. stop_together _)

  statement_rule_together : (k : StatementKind) (scope : List Seg) (depth : ℕ) (t : Tree) → Together (level side depth) runs (statement_rule ev k scope depth t) (statement_rule ev2 k scope depth t)
  statement_rule_together statements.If scope depth t = if_rule_together scope depth t
  statement_rule_together statements.Else scope depth t = else_rule_together scope depth t
  statement_rule_together statements.While scope depth t = while_rule_together scope depth t
  statement_rule_together statements.Break scope depth t = give_together _
  statement_rule_together statements.Continue scope depth t = give_together _
  statement_rule_together statements.Noop scope depth t = give_together _
  statement_rule_together statements.Return scope depth t = return_rule_together scope depth t
  statement_rule_together statements.Release scope depth t = release_rule_together scope depth t
  statement_rule_together statements.Notify scope depth t = notify_rule_together scope depth t
  statement_rule_together statements.Pause scope depth t = pause_rule_together scope depth t
  statement_rule_together statements.Fatal scope depth t = fatal_rule_together scope depth t

  -- ---- calls

  arguments_in_turn_together : (scope : List Seg) (depth : ℕ) (ts : Trees) (done : List Value) → Together (level side depth) runs (arguments_in_turn ev scope depth ts done) (arguments_in_turn ev2 scope depth ts done)
  unfolding arguments_in_turn
  arguments_in_turn_together scope depth no_trees done = give_together _
  arguments_in_turn_together scope depth (tree t ts) done = then_together (operand_value_together parts scope depth t) (λ v. arguments_in_turn_together scope depth ts _)

  call_rule_together : (scope : List Seg) (depth : ℕ) (ts : Trees) (q : List Seg) (body : List ℕ) → Together (level side depth) runs (call_rule ev scope depth ts q body) (call_rule ev2 scope depth ts q body)
  unfolding call_rule
  call_rule_together scope depth ts q body = then_together (arguments_in_turn_together scope depth ts _) (λ arguments. invoked_together parts depth depth q body arguments)

  osi_rule_together : (scope : List Seg) (depth : ℕ) (ts : Trees) → Together (level side depth) runs (osi_rule ev scope depth ts) (osi_rule ev2 scope depth ts)
  unfolding osi_rule
  osi_rule_together scope depth ts = then_together (arguments_in_turn_together scope depth ts _) (λ arguments. then_together (lift_together (call_allowed_together depth)) (λ few. then_together (lift_together (osi_answered_together arguments)) (λ v. give_together _)))

  invocation_rule_together : (scope : List Seg) (depth : ℕ) (ts : Trees) (i : Invocation) → Together (level side depth) runs (invocation_rule accesses ev scope depth ts i) (invocation_rule accesses2 ev2 scope depth ts i)
  unfolding field_rule
  invocation_rule_together scope depth ts (invocations.Value v) = give_together _
  invocation_rule_together scope depth ts (invocations.Field f) = then_together (field_read_together parts depth f) (λ v. give_together _)
  invocation_rule_together scope depth ts (invocations.Method q body) = call_rule_together scope depth ts q body
  invocation_rule_together scope depth ts invocations.Osi = osi_rule_together scope depth ts

  name_value_together : (scope : List Seg) (depth : ℕ) (t : Tree) → Together (level side depth) runs (name_value accesses ev scope depth t) (name_value accesses2 ev2 scope depth t)
  unfolding name_value
  name_value_together scope depth t = then_together (settle_together _) (λ x. then_together (settle_together _) (λ ts. then_together (lift_together (invocation_found_together scope x (count_of ts))) (invocation_rule_together scope depth ts)))

  -- ---- operation regions and fields

  pub region_rule_together : (scope : List Seg) (depth : ℕ) (t : Tree) → Together (level side depth) runs (region_rule ev scope depth t) (region_rule ev2 scope depth t)
  unfolding region_rule
  region_rule_together scope depth t =
      then_together (settle_together _) (λ space. then_together (value_at_together parts scope depth t 2) (λ offset. then_together (value_at_together parts scope depth t 3) (λ size. then_together (lift_together (integer_in_together offset)) (λ x. then_together (lift_together (integer_in_together size)) (λ y. declaring_together scope depth t _ _)))))

  region_term_rule_together : (k : RegionKind) (scope : List Seg) (depth : ℕ) (t : Tree) → Together (level side depth) runs (region_term_rule ev k scope depth t) (region_term_rule ev2 k scope depth t)
  unfolding field_list_rule index_list_rule fields_laid sized_field_rule bits_field_rule
  region_term_rule_together regions.OperationRegion scope depth t = region_rule_together scope depth t
  region_term_rule_together regions.Field scope depth t =
      then_together (settle_together _) (λ ts. then_together (lift_together (connections_asked_together _ ts)) (λ asked. then_together (settle_together _) (λ x. then_together (lift_together (region_found_together scope x)) (λ region. then_together (settle_together _) (λ flags. then_together (lift_together (elements_laid_together _ scope depth _ ts)) (λ laid. give_together _))))))
  region_term_rule_together regions.IndexField scope depth t =
      then_together (settle_together _) (λ ts. then_together (lift_together (connections_asked_together _ ts)) (λ asked. then_together (settle_together _) (λ x. then_together (lift_together (field_found_together scope x)) (λ index. then_together (settle_together _) (λ y. then_together (lift_together (field_found_together scope y)) (λ behind. then_together (settle_together _) (λ flags. then_together (lift_together (elements_laid_together _ scope depth _ ts)) (λ laid. give_together _))))))))
  region_term_rule_together (regions.SizedBufferField size) scope depth t =
      then_together (two_values_together parts scope depth t) (λ x. then_together (settle_together _) (λ o. then_together (lift_together (integer_in_together _)) (λ i. then_together (lift_together (objects_together _)) (λ b. declaring_together scope depth t _ _))))
  region_term_rule_together regions.BufferField scope depth t =
      then_together (value_at_together parts scope depth t 0) (λ source. then_together (value_at_together parts scope depth t 1) (λ index. then_together (value_at_together parts scope depth t 2) (λ count. then_together (settle_together _) (λ o. then_together (lift_together (integer_in_together index)) (λ i. then_together (lift_together (integer_in_together count)) (λ n.
      then_together (settle_together _) (λ bits. then_together (lift_together (objects_together _)) (λ b. declaring_together scope depth t _ _))))))))

  -- ---- which rule

  kind_rule_together : (k : TermKind) (op : Opcode) (scope : List Seg) (depth : ℕ) (t : Tree) → Together (level side depth) runs (kind_rule accesses ev k op scope depth t) (kind_rule accesses2 ev2 k op scope depth t)
  kind_rule_together (kinds.Data k) op scope depth t = data_rule_together k scope depth t
  kind_rule_together (kinds.Declaration k) op scope depth t = declaration_rule_together k scope depth t
  kind_rule_together (kinds.Region k) op scope depth t = region_term_rule_together k scope depth t
  kind_rule_together (kinds.Operator k) op scope depth t = operator_rule_together k scope depth t
  kind_rule_together (kinds.Statement k) op scope depth t = statement_rule_together k scope depth t
  kind_rule_together (kinds.Wide k) op scope depth t = in_wide_together parts target_at_together targeted_together op k scope depth t
  kind_rule_together kinds.Unsupported op scope depth t = stop_together _

  code_rule_together : (c : TermCode) (scope : List Seg) (depth : ℕ) (t : Tree) → Together (level side depth) runs (code_rule accesses ev c scope depth t) (code_rule accesses2 ev2 c scope depth t)
  code_rule_together (codes.Opcode op) scope depth t = kind_rule_together (kind_of op) op scope depth t
  code_rule_together codes.MethodInvocation scope depth t = name_value_together scope depth t
  code_rule_together codes.Name scope depth t = stop_together _
  code_rule_together codes.NamedField scope depth t = stop_together _
  code_rule_together codes.ReservedField scope depth t = stop_together _
  code_rule_together codes.AccessField scope depth t = stop_together _
  code_rule_together codes.ExtendedAccessField scope depth t = stop_together _
  code_rule_together codes.ConnectField scope depth t = stop_together _

  pub rule_together : (t : Task) → Together (level side t.depth) runs (rule accesses ev t) (rule accesses2 ev2 t)
  unfolding rule
  rule_together t = code_rule_together (code_of t.term) t.scope t.depth t.term
