-- The rule of each term maintains that what a world holds fits a claim, where its parts do; so every evaluation does.
use Rattle.std.specs.Prelude.{◌≡◌, ◌==◌, ◌≤◌, ℕ, zero, suc, List, [], Bool, true, false, Option, Some, None, Ok}
use Rattle.ar_space.specs.Change.{Change, give, settle, ◌>>=◌}
use Rattle.aml_world.specs.state.Run.{Run, lift}
use Rattle.ar_space.specs.Accesses.{Accesses}
use Rattle.aml_path.specs.declared.segment.Seg.{Seg}
use Rattle.aml_grammar.specs.declared.opcode.Opcode.{Opcode}
use Rattle.aml_grammar.specs.declared.opcode.TermCode.{TermCode}
use Rattle.aml_grammar.specs.declared.opcode.TermCode.TheVariants as codes
use Rattle.aml_grammar.specs.Tree.{Tree, term, Trees, no_trees, tree, Part, null, name, number, bytes, inner, list, Parts, no_parts, part}
use Rattle.aml_grammar.specs.Apart.{code_of, operand_of}
use Rattle.aml_objects.specs.declared.value.Value.{Value}
use Rattle.aml_objects.specs.declared.object.Element.{Element}
use Rattle.aml_objects.specs.declared.entry.NamedObject.{NamedObject}
use Rattle.aml_world.specs.declared.values.operation_kind.OneOperand.{OneOperand}
use Rattle.aml_world.specs.declared.values.operation_kind.TwoOperands.{TwoOperands}
use Rattle.aml_world.specs.declared.values.operation_kind.Test.{Test}
use Rattle.aml_world.specs.declared.values.operation_kind.Count.{Count}
use Rattle.aml_world.specs.declared.state.invocation.Invocation.{Invocation}
use Rattle.aml_world.specs.declared.state.invocation.Invocation.TheVariants as invocations
use Rattle.aml_world.specs.declared.values.store_target.StoreTarget.{StoreTarget}
use Rattle.aml_world.specs.declared.values.operation_kind.BufferFieldSize.{BufferFieldSize}
use Rattle.aml_world.specs.declared.values.operation_kind.BufferFieldSize.TheVariants as sizes
use Rattle.aml_world.specs.state.State.{State}
use Rattle.aml_world.specs.values.StoreTargets.{reference_in, target_named}
use Rattle.aml_world.specs.fields.BufferFields.{bits_of_size, buffer_of}
use Rattle.aml_world.specs.declared.values.object_type.ObjectType.{ObjectType}
use Rattle.aml_world.specs.declared.values.object_type.ObjectType.TheVariants as types
use Rattle.aml_world.specs.declared.values.operation_kind.OneOperand.TheVariants as one
use Rattle.aml_world.specs.declared.values.operation_kind.TwoOperands.TheVariants as two
use Rattle.aml_world.specs.declared.values.operation_kind.Test.TheVariants as test
use Rattle.aml_objects.specs.declared.value.Reference.{Reference}
use Rattle.aml_path.specs.Paths.{Name}
use Rattle.aml_world.specs.declared.values.operation_kind.Count.TheVariants as count
use Rattle.aml_world.specs.values.Operations.{type_number, type_of_referent, result_of_two, result_of_one, result_of_test, counted_by}
use Rattle.aml_world.specs.fields.FieldLayouts.{region_found, field_found}
use Rattle.aml_meaning.specs.declared.flow.Flow.{Flow}
use Rattle.aml_meaning.specs.declared.term_kind.TermKind.{TermKind}
use Rattle.aml_meaning.specs.declared.term_kind.TermKind.TheVariants as kinds
use Rattle.aml_meaning.specs.declared.term_kind.DataKind.{DataKind}
use Rattle.aml_meaning.specs.declared.term_kind.DataKind.TheVariants as datas
use Rattle.aml_meaning.specs.declared.term_kind.DeclarationKind.{DeclarationKind}
use Rattle.aml_meaning.specs.declared.term_kind.DeclarationKind.TheVariants as declarations
use Rattle.aml_meaning.specs.declared.term_kind.OperatorKind.{OperatorKind}
use Rattle.aml_meaning.specs.declared.term_kind.OperatorKind.TheVariants as operators
use Rattle.aml_meaning.specs.declared.term_kind.StatementKind.{StatementKind}
use Rattle.aml_meaning.specs.declared.term_kind.StatementKind.TheVariants as statements
use Rattle.aml_meaning.specs.declared.term_kind.TargetKind.{TargetKind}
use Rattle.aml_meaning.specs.declared.term_kind.TargetKind.TheVariants as target
use Rattle.aml_meaning.specs.declared.term_kind.RegionKind.{RegionKind}
use Rattle.aml_meaning.specs.declared.term_kind.RegionKind.TheVariants as regions
use Rattle.aml_meaning.specs.Terms.{kind_of, target_kind, count_of, else_of}
use Rattle.aml_meaning.specs.Tasks.{Task, in_turn, task}
use Rattle.aml_meaning.specs.DataTerms.{constant_rule, integer_rule, string_rule, buffer_rule, named_element, valued_element, element_by, elements_in_turn, package_of, package_rule, var_package_rule, data_rule}
use Rattle.std.proofs.Common.{arith}
use Rattle.aml_meaning.specs.DeclarationTerms.{declaring, name_rule, alias_rule, method_rule, scope_rule, new_scope, declaration_rule}
use Rattle.aml_meaning.specs.TargetTerms.{indexed_target, dereferenced_target, target_by_kind, target_of, first_target, part_target, name_target, target_by, target_at, targeted}
use Rattle.aml_meaning.specs.OperatorTerms.{slot_rule, store_rule, copy_rule, two_rule, divide_rule, one_rule, test_rule, lnot_rule, count_rule, referent_of_value, referent_of_target, referent_by_kind, referent_by, size_rule, type_rule, acquire_rule, reference_rule, dereference_rule, sought_name, sought_target, sought, reference_stored, reference_found, conditional_rule, operator_rule}
use Rattle.aml_meaning.specs.StatementTerms.{otherwise, branch, if_rule, else_rule, turn_of, turn, loop_end, after_turn, turns, loop, while_rule, return_rule, release_rule, notify_rule, pause_rule, fatal_rule, statement_rule}
use Rattle.aml_meaning.specs.InvocationTerms.{arguments_in_turn, call_rule, osi_rule, field_rule, invocation_rule, name_value}
use Rattle.aml_meaning.specs.FieldTerms.{fields_laid, region_rule, field_list_rule, index_list_rule, sized_field_rule, bits_field_rule, region_term_rule}
use Rattle.aml_objects.specs.declared.value.Value.TheVariants as value
use Rattle.aml_meaning.specs.Evaluation.{kind_rule, code_rule, rule}
use Rattle.aml_meaning.specs.Meaning.{meaning, evaluated_within}
use Rattle.aml_laws.proofs.Invariants.{Maintained, Maintains, ok_fits, err_maintained, give_maintains, stop_maintains, settle_maintains, then_maintains, each_push}
use Rattle.aml_laws.proofs.ValuesOfObjects.{make_string_maintains}
use Rattle.aml_laws.proofs.IntegersOfOperators.{small_number_fits}
use Rattle.aml_laws.proofs.ValuesOfWorlds.{WorldWithin, on_objects_maintains, integer_kept_maintains, integer_in_maintains, entry_found_maintains, path_found_maintains, scope_found_maintains, at_most_maintains, new_buffer_maintains, new_package_maintains, new_name_maintains, new_method_maintains, operated_maintains, divided_in_maintains, operated_on_one_maintains, operated_logically_maintains, lnot_maintains, incremented_maintains, decremented_maintains, compared_in_maintains, joined_maintains, to_buffer_in_maintains, to_integer_in_maintains, osi_answered_maintains}
use Rattle.aml_laws.proofs.ValuesOfTargets.{TargetFits, AnyReferenceFits, ReferentFits, slot_read_maintains, tested_maintains, dereferenced_maintains, target_read_maintains, reference_of_maintains, if_initialized_maintains, reference_if_found_maintains, target_referent_maintains, value_referent_maintains, copied_to_maintains}
use Rattle.aml_laws.proofs.ValuesOfFields.{RunWithin, lift_maintains, charge_maintains, new_buffer_field_maintains}
use Rattle.aml_laws.proofs.ValuesOfSizes.{field_has_few_bits, joined_resources_maintains, indexed_maintains, size_in_maintains, acquired_at_maintains, given_back_at_maintains, elements_laid_maintains}
use Rattle.aml_laws.proofs.ValuesOfOperands.{PartsMaintain, OperandFits, operand_of_fits, inner_operand_maintains, list_operand_maintains, bytes_operand_maintains, any_settle_maintains, FlowFits, InvocationFits, operand_value_maintains, value_at_maintains, two_values_maintains, operand_integer_maintains, in_turn_maintains, invoked_maintains, field_read_maintains, held_integer_maintains, referent_read_maintains, completed_maintains, stored_to_maintains, stored_back_maintains, held_value_maintains, invocation_found_maintains, call_allowed_maintains}
use Rattle.aml_meaning.specs.declared.flow.Flow.TheVariants as flow
use Rattle.aml_laws.proofs.ValuesOfWideTerms.{connections_asked_maintains, in_wide_maintains}
use Rattle.aml_laws.specs.AllWithin.{Each}
use Rattle.aml_laws.specs.Numbers.{numbers_of}
use Rattle.aml_laws.proofs.Claims.{Claim, IntegerFits, ReferenceFits, ValueFits, TreeFits, TreesFit, PartFits, PartsFit, BitsFit, ElementFits, NamedFits, WorldFits}
use Rattle.aml_laws.proofs.FrameNumbers.{frame_numbers_relation}
use Rattle.aml_laws.proofs.RulesPreserve.{evaluated_within_preserves, meaning_preserves}

module _ (S : Type 0) (claim : Claim) (accesses : Accesses S) (ev : Task → Run S Flow) (parts : PartsMaintain S claim accesses ev) where
  value_given_maintains : (m : Change (State S) Value) → Maintains (WorldWithin S claim) (ValueFits claim) m → Maintains (RunWithin S claim) (FlowFits claim) (lift m >>= (λ v. give (flow.Value v)))
  value_given_maintains m h = then_maintains _ _ (lift_maintains S claim _ h) (λ v f. give_maintains _ f)

  -- ---- data

  constant_rule_maintains : (n : ℕ) → Maintains (RunWithin S claim) (FlowFits claim) (constant_rule ev n)
  unfolding constant_rule
  constant_rule_maintains n = value_given_maintains _ (integer_kept_maintains S claim n)

  element_by_maintains : (c : TermCode) (scope : List Seg) (depth : ℕ) (t : Tree) → TreeFits claim t → Maintains (RunWithin S claim) (ElementFits claim) (element_by ev c scope depth t)
  unfolding named_element valued_element
  element_by_maintains codes.Name scope depth t h = then_maintains _ _ (charge_maintains S claim) (λ u v. then_maintains _ _ (any_settle_maintains _) (λ x y. give_maintains _ tt))
  element_by_maintains (codes.Opcode op) scope depth t h = then_maintains _ _ (operand_value_maintains S claim accesses ev parts scope depth t h) (λ v f. give_maintains _ f)
  element_by_maintains codes.MethodInvocation scope depth t h = then_maintains _ _ (operand_value_maintains S claim accesses ev parts scope depth t h) (λ v f. give_maintains _ f)
  element_by_maintains codes.NamedField scope depth t h = then_maintains _ _ (operand_value_maintains S claim accesses ev parts scope depth t h) (λ v f. give_maintains _ f)
  element_by_maintains codes.ReservedField scope depth t h = then_maintains _ _ (operand_value_maintains S claim accesses ev parts scope depth t h) (λ v f. give_maintains _ f)
  element_by_maintains codes.AccessField scope depth t h = then_maintains _ _ (operand_value_maintains S claim accesses ev parts scope depth t h) (λ v f. give_maintains _ f)
  element_by_maintains codes.ExtendedAccessField scope depth t h = then_maintains _ _ (operand_value_maintains S claim accesses ev parts scope depth t h) (λ v f. give_maintains _ f)
  element_by_maintains codes.ConnectField scope depth t h = then_maintains _ _ (operand_value_maintains S claim accesses ev parts scope depth t h) (λ v f. give_maintains _ f)

  elements_in_turn_maintains : (scope : List Seg) (depth k : ℕ) (ts : Trees) (done : List Element) → TreesFit claim ts → Each (ElementFits claim) done → Maintains (RunWithin S claim) (Each (ElementFits claim)) (elements_in_turn ev scope depth k ts done)
  unfolding elements_in_turn
  elements_in_turn_maintains scope depth zero ts done h g = give_maintains _ g
  elements_in_turn_maintains scope depth (suc k) no_trees done h g = give_maintains _ g
  elements_in_turn_maintains scope depth (suc k) (tree t ts) done h g = then_maintains _ _ (element_by_maintains (code_of t) scope depth t (λ m. (h m).0)) (λ e f. elements_in_turn_maintains scope depth k ts _ (λ m. (h m).1) (each_push (ElementFits claim) done e g f))

  package_of_maintains : (scope : List Seg) (depth k : ℕ) (ts : Trees) → TreesFit claim ts → Maintains (RunWithin S claim) (FlowFits claim) (package_of ev scope depth k ts)
  unfolding package_of
  package_of_maintains scope depth k ts h = then_maintains _ _ (elements_in_turn_maintains scope depth k ts [] h tt) (λ es f. value_given_maintains _ (new_package_maintains S claim k es f))

  data_rule_maintains : (k : DataKind) (scope : List Seg) (depth : ℕ) (t : Tree) → TreeFits claim t → Maintains (RunWithin S claim) (FlowFits claim) (data_rule ev k scope depth t)
  unfolding integer_rule string_rule buffer_rule package_rule var_package_rule
  data_rule_maintains (datas.Constant k) scope depth t h = constant_rule_maintains k
  data_rule_maintains datas.Integer scope depth t h = then_maintains _ _ (any_settle_maintains _) (λ n u. constant_rule_maintains n)
  data_rule_maintains datas.String scope depth t h = then_maintains _ _ (bytes_operand_maintains claim t 0 h) (λ bs f. value_given_maintains _ (on_objects_maintains S claim _ (make_string_maintains claim bs f)))
  data_rule_maintains datas.Buffer scope depth t h = then_maintains _ _ (inner_operand_maintains claim t 0 h) (λ size f. then_maintains _ _ (operand_integer_maintains S claim accesses ev parts scope depth size f) (λ n u. then_maintains _ _ (bytes_operand_maintains claim t 1 h) (λ bs g. value_given_maintains _ (new_buffer_maintains S claim n bs g))))
  data_rule_maintains datas.Package scope depth t h = then_maintains _ _ (any_settle_maintains _) (λ n u. then_maintains _ _ (list_operand_maintains claim t 1 h) (λ ts f. package_of_maintains scope depth n ts f))
  data_rule_maintains datas.VarPackage scope depth t h =
      then_maintains _ _ (inner_operand_maintains claim t 0 h) (λ size f. then_maintains _ _ (operand_integer_maintains S claim accesses ev parts scope depth size f) (λ n u. then_maintains _ _ (lift_maintains S claim _ (at_most_maintains S claim _ n)) (λ few v. then_maintains _ _ (list_operand_maintains claim t 1 h) (λ ts g. package_of_maintains scope depth n ts g))))

  -- ---- declarations

  declaring_maintains : (scope : List Seg) (depth : ℕ) (t : Tree) (position : ℕ) (o : NamedObject) → NamedFits claim o → Maintains (RunWithin S claim) (FlowFits claim) (declaring ev scope depth t position o)
  unfolding declaring
  declaring_maintains scope depth t position o f = then_maintains _ _ (any_settle_maintains _) (λ n u. then_maintains _ _ (any_settle_maintains _) (λ p v. then_maintains _ _ (lift_maintains S claim _ (new_name_maintains S claim _ p o f)) (λ k x. give_maintains _ tt)))

  new_scope_maintains : (o : NamedObject) → NamedFits claim o → (place : ℕ) (scope : List Seg) (depth : ℕ) (t : Tree) → TreeFits claim t → Maintains (RunWithin S claim) (FlowFits claim) (new_scope ev o place scope depth t)
  unfolding new_scope
  new_scope_maintains o f place scope depth t h = then_maintains _ _ (any_settle_maintains _) (λ n u. then_maintains _ _ (any_settle_maintains _) (λ p v. then_maintains _ _ (lift_maintains S claim _ (new_name_maintains S claim _ p o f)) (λ k x. then_maintains _ _ (list_operand_maintains claim t place h) (λ ts g. in_turn_maintains S claim accesses ev parts p depth ts g))))

  declaration_rule_maintains : (k : DeclarationKind) (scope : List Seg) (depth : ℕ) (t : Tree) → TreeFits claim t → Maintains (RunWithin S claim) (FlowFits claim) (declaration_rule ev k scope depth t)
  unfolding scope_rule name_rule alias_rule method_rule
  declaration_rule_maintains declarations.Scope scope depth t h = then_maintains _ _ (any_settle_maintains _) (λ n u. then_maintains _ _ (lift_maintains S claim _ (scope_found_maintains S claim scope n)) (λ p v. then_maintains _ _ (list_operand_maintains claim t 1 h) (λ ts g. in_turn_maintains S claim accesses ev parts p depth ts g)))
  declaration_rule_maintains declarations.Device scope depth t h = new_scope_maintains _ tt _ scope depth t h
  declaration_rule_maintains declarations.Processor scope depth t h = new_scope_maintains _ tt _ scope depth t h
  declaration_rule_maintains declarations.PowerResource scope depth t h = new_scope_maintains _ tt _ scope depth t h
  declaration_rule_maintains declarations.ThermalZone scope depth t h = new_scope_maintains _ tt _ scope depth t h
  declaration_rule_maintains declarations.Name scope depth t h = then_maintains _ _ (inner_operand_maintains claim t 1 h) (λ d f. then_maintains _ _ (operand_value_maintains S claim accesses ev parts scope depth d f) (λ v g. declaring_maintains scope depth t _ _ g))
  declaration_rule_maintains declarations.Alias scope depth t h = then_maintains _ _ (any_settle_maintains _) (λ n u. then_maintains _ _ (lift_maintains S claim _ (path_found_maintains S claim scope n)) (λ target v. then_maintains _ _ (any_settle_maintains _) (λ m x. then_maintains _ _ (any_settle_maintains _) (λ p y. then_maintains _ _ (lift_maintains S claim _ (new_name_maintains S claim _ p _ tt)) (λ k z. give_maintains _ tt)))))
  declaration_rule_maintains declarations.External scope depth t h = give_maintains _ tt
  declaration_rule_maintains declarations.Method scope depth t h = then_maintains _ _ (any_settle_maintains _) (λ n u. then_maintains _ _ (any_settle_maintains _) (λ p v. then_maintains _ _ (any_settle_maintains _) (λ flags x. then_maintains _ _ (bytes_operand_maintains claim t 2 h) (λ body f. then_maintains _ _ (lift_maintains S claim _ (new_method_maintains S claim _ p _ body f)) (λ k y. give_maintains _ tt)))))
  declaration_rule_maintains declarations.Mutex scope depth t h = declaring_maintains scope depth t _ _ tt
  declaration_rule_maintains declarations.Event scope depth t h = declaring_maintains scope depth t _ _ tt

  -- ---- targets and operators

  reference_in_fits : (v : Value) (r : Reference) → ValueFits claim v → reference_in v ≡ Ok r → ReferenceFits claim r
  reference_in_fits (value.Reference x) r f e = ok_fits (ReferenceFits claim) x r e f
  reference_in_fits value.Uninitialized r f e = absurd (cc e)
  reference_in_fits (value.Integer n) r f e = absurd (cc e)
  reference_in_fits (value.String o) r f e = absurd (cc e)
  reference_in_fits (value.Buffer o) r f e = absurd (cc e)
  reference_in_fits (value.Package o) r f e = absurd (cc e)

  reference_in_maintains : (v : Value) → ValueFits claim v → Maintains (RunWithin S claim) (ReferenceFits claim) (settle (reference_in v))
  reference_in_maintains v f = settle_maintains _ (λ r e. reference_in_fits v r f e)

  indexed_target_maintains : (scope : List Seg) (depth : ℕ) (t : Tree) → TreeFits claim t → Maintains (RunWithin S claim) (TargetFits claim) (indexed_target ev scope depth t)
  unfolding indexed_target
  indexed_target_maintains scope depth t h = then_maintains _ _ (operand_value_maintains S claim accesses ev parts scope depth t h) (λ v f. then_maintains _ _ (reference_in_maintains v f) (λ r u. give_maintains _ u))

  dereferenced_target_maintains : (scope : List Seg) (depth : ℕ) (t : Tree) → TreeFits claim t → Maintains (RunWithin S claim) (TargetFits claim) (dereferenced_target ev scope depth t)
  unfolding dereferenced_target
  dereferenced_target_maintains scope depth t h =
      then_maintains _ _ (charge_maintains S claim) (λ step x. then_maintains _ _ (value_at_maintains S claim accesses ev parts scope depth t 0 h) (λ v f. then_maintains _ _ (reference_in_maintains v f) (λ r u. then_maintains _ _ (lift_maintains S claim _ (tested_maintains S claim r)) (λ there y. give_maintains _ u))))

  target_by_kind_maintains : (scope : List Seg) (depth : ℕ) (t : Tree) (m : Run S StoreTarget) (kind : TargetKind) → TreeFits claim t → Maintains (RunWithin S claim) (TargetFits claim) m → Maintains (RunWithin S claim) (TargetFits claim) (target_by_kind ev scope depth t m kind)
  target_by_kind_maintains scope depth t m target.Nowhere h k = give_maintains _ tt
  target_by_kind_maintains scope depth t m (target.Slot slot) h k = give_maintains _ tt
  target_by_kind_maintains scope depth t m target.RefOf h k = then_maintains _ _ (charge_maintains S claim) (λ step x. k)
  target_by_kind_maintains scope depth t m target.DerefOf h k = dereferenced_target_maintains scope depth t h
  target_by_kind_maintains scope depth t m target.Index h k = indexed_target_maintains scope depth t h
  target_by_kind_maintains scope depth t m target.Other h k = stop_maintains _

  target_named_maintains : (scope : List Seg) (n : Name) → Maintains (WorldWithin S claim) (TargetFits claim) (target_named scope n)
  unfolding target_named
  target_named_maintains scope n = then_maintains _ _ (path_found_maintains S claim scope n) (λ p v. give_maintains _ tt)

  mutual
    unfolding target_of

    target_of_maintains : (scope : List Seg) (depth : ℕ) (t : Tree) → TreeFits claim t → Maintains (RunWithin S claim) (TargetFits claim) (target_of ev scope depth t)
    target_of_maintains scope depth (term c ps) h = target_by_kind_maintains scope depth (term c ps) _ (target_kind c) h (first_target_maintains scope depth ps h)

    first_target_maintains : (scope : List Seg) (depth : ℕ) (ps : Parts) → PartsFit claim ps → Maintains (RunWithin S claim) (TargetFits claim) (first_target ev scope depth ps)
    first_target_maintains scope depth no_parts h = stop_maintains _
    first_target_maintains scope depth (part p ps) h = part_target_maintains scope depth p (λ m. (h m).0)

    part_target_maintains : (scope : List Seg) (depth : ℕ) (p : Part) → PartFits claim p → Maintains (RunWithin S claim) (TargetFits claim) (part_target ev scope depth p)
    part_target_maintains scope depth null h = give_maintains _ tt
    part_target_maintains scope depth (name n) h = lift_maintains S claim _ (target_named_maintains scope n)
    part_target_maintains scope depth (number n) h = stop_maintains _
    part_target_maintains scope depth (bytes bs) h = stop_maintains _
    part_target_maintains scope depth (inner u) h = target_of_maintains scope depth u h
    part_target_maintains scope depth (list ts) h = stop_maintains _

  target_at_maintains : (scope : List Seg) (depth : ℕ) (t : Tree) (i : ℕ) → TreeFits claim t → Maintains (RunWithin S claim) (TargetFits claim) (target_at ev scope depth t i)
  unfolding name_target
  target_at_maintains scope depth t i h = target_by_maintains (operand_of t i) (operand_of_fits claim t i h)
    where
      target_by_maintains : (o : Option Part) → OperandFits claim o → Maintains (RunWithin S claim) (TargetFits claim) (target_by ev scope depth t i o)
      target_by_maintains None g = stop_maintains _
      target_by_maintains (Some null) g = give_maintains _ tt
      target_by_maintains (Some (name n)) g = then_maintains _ _ (any_settle_maintains _) (λ x u. lift_maintains S claim _ (target_named_maintains scope x))
      target_by_maintains (Some (number n)) g = stop_maintains _
      target_by_maintains (Some (bytes bs)) g = stop_maintains _
      target_by_maintains (Some (inner u)) g = target_of_maintains scope depth u g
      target_by_maintains (Some (list ts)) g = stop_maintains _

  targeted_maintains : (scope : List Seg) (depth : ℕ) (t : Tree) (i : ℕ) (v : Value) → TreeFits claim t → ValueFits claim v → Maintains (RunWithin S claim) (FlowFits claim) (targeted accesses ev scope depth t i v)
  unfolding targeted
  targeted_maintains scope depth t i v h f = then_maintains _ _ (target_at_maintains scope depth t i h) (λ p u. then_maintains _ _ (stored_to_maintains S claim accesses ev parts depth p v u f) (λ done x. give_maintains _ f))

  result_of_two_maintains : (k : TwoOperands) (v u : Value) → ValueFits claim v → ValueFits claim u → Maintains (WorldWithin S claim) (ValueFits claim) (result_of_two k v u)
  result_of_two_maintains (two.Integers op) v u f g = operated_maintains S claim op v u f g
  result_of_two_maintains two.Concatenate v u f g = joined_maintains S claim v u f g
  result_of_two_maintains two.ConcatenateResources v u f g = joined_resources_maintains S claim v u f g
  result_of_two_maintains two.Index v u f g = indexed_maintains S claim v u f g

  result_of_one_maintains : (k : OneOperand) (v : Value) → ValueFits claim v → Maintains (WorldWithin S claim) (ValueFits claim) (result_of_one k v)
  result_of_one_maintains (one.Integer op) v f = operated_on_one_maintains S claim op v f
  result_of_one_maintains one.ToBuffer v f = to_buffer_in_maintains S claim v f
  result_of_one_maintains one.ToInteger v f = to_integer_in_maintains S claim v f

  result_of_test_maintains : (k : Test) (v u : Value) → ValueFits claim v → ValueFits claim u → Maintains (WorldWithin S claim) (ValueFits claim) (result_of_test k v u)
  result_of_test_maintains (test.Logical op) v u f g = operated_logically_maintains S claim op v u f g
  result_of_test_maintains (test.Compare c) v u f g = compared_in_maintains S claim c v u

  counted_by_maintains : (k : Count) (n : ℕ) → Maintains (WorldWithin S claim) (ValueFits claim) (counted_by k n)
  counted_by_maintains count.Increment n = incremented_maintains S claim n
  counted_by_maintains count.Decrement n = decremented_maintains S claim n

  type_number_fits : (t : ObjectType) → IntegerFits claim (type_number t)
  type_number_fits t m = small_number_fits claim.width (type_number t) (by t)
    where
      by : (t : ObjectType) → type_number t ≤ 65
      by types.Uninitialized = omega arith
      by types.Integer = omega arith
      by types.String = omega arith
      by types.Buffer = omega arith
      by types.Package = omega arith
      by types.FieldUnit = omega arith
      by types.Device = omega arith
      by types.Event = omega arith
      by types.Method = omega arith
      by types.Mutex = omega arith
      by types.OperationRegion = omega arith
      by types.PowerResource = omega arith
      by types.Processor = omega arith
      by types.ThermalZone = omega arith
      by types.BufferField = omega arith
      by types.DebugObject = omega arith

  referent_of_value_maintains : (scope : List Seg) (depth : ℕ) (u : Tree) → TreeFits claim u → Maintains (RunWithin S claim) (ReferentFits claim) (referent_of_value accesses ev scope depth u)
  unfolding referent_of_value
  referent_of_value_maintains scope depth u h = then_maintains _ _ (operand_value_maintains S claim accesses ev parts scope depth u h) (λ v f. lift_maintains S claim _ (value_referent_maintains S claim v f))

  referent_of_target_maintains : (scope : List Seg) (depth : ℕ) (t : Tree) → TreeFits claim t → Maintains (RunWithin S claim) (ReferentFits claim) (referent_of_target accesses ev scope depth t)
  unfolding referent_of_target
  referent_of_target_maintains scope depth t h = then_maintains _ _ (target_at_maintains scope depth t 0 h) (λ p u. lift_maintains S claim _ (target_referent_maintains S claim p u))

  referent_by_kind_maintains : (scope : List Seg) (depth : ℕ) (t u : Tree) (k : TargetKind) → TreeFits claim t → TreeFits claim u → Maintains (RunWithin S claim) (ReferentFits claim) (referent_by_kind accesses ev scope depth t u k)
  referent_by_kind_maintains scope depth t u target.RefOf h g = referent_of_value_maintains scope depth u g
  referent_by_kind_maintains scope depth t u target.DerefOf h g = referent_of_value_maintains scope depth u g
  referent_by_kind_maintains scope depth t u target.Index h g = referent_of_value_maintains scope depth u g
  referent_by_kind_maintains scope depth t u target.Nowhere h g = referent_of_target_maintains scope depth t h
  referent_by_kind_maintains scope depth t u (target.Slot slot) h g = referent_of_target_maintains scope depth t h
  referent_by_kind_maintains scope depth t u target.Other h g = referent_of_target_maintains scope depth t h

  referent_by_maintains : (scope : List Seg) (depth : ℕ) (t : Tree) (o : Option Part) → TreeFits claim t → OperandFits claim o → Maintains (RunWithin S claim) (ReferentFits claim) (referent_by accesses ev scope depth t o)
  referent_by_maintains scope depth t None h g = referent_of_target_maintains scope depth t h
  referent_by_maintains scope depth t (Some null) h g = referent_of_target_maintains scope depth t h
  referent_by_maintains scope depth t (Some (name n)) h g = referent_of_target_maintains scope depth t h
  referent_by_maintains scope depth t (Some (number n)) h g = referent_of_target_maintains scope depth t h
  referent_by_maintains scope depth t (Some (bytes bs)) h g = referent_of_target_maintains scope depth t h
  referent_by_maintains scope depth t (Some (inner u)) h g = referent_by_kind_maintains scope depth t u _ h g
  referent_by_maintains scope depth t (Some (list ts)) h g = referent_of_target_maintains scope depth t h

  sought_target_maintains : (scope : List Seg) (depth : ℕ) (t : Tree) → TreeFits claim t → Maintains (RunWithin S claim) (AnyReferenceFits claim) (sought_target accesses ev scope depth t)
  unfolding sought_target
  sought_target_maintains scope depth t h = then_maintains _ _ (target_at_maintains scope depth t 0 h) (λ p u. then_maintains _ _ (lift_maintains S claim _ (reference_of_maintains S claim p u)) (λ r x. lift_maintains S claim _ (if_initialized_maintains S claim r x)))

  sought_maintains : (scope : List Seg) (depth : ℕ) (t : Tree) (o : Option Part) → TreeFits claim t → Maintains (RunWithin S claim) (AnyReferenceFits claim) (sought accesses ev scope depth t o)
  unfolding sought_name
  sought_maintains scope depth t None h = sought_target_maintains scope depth t h
  sought_maintains scope depth t (Some null) h = sought_target_maintains scope depth t h
  sought_maintains scope depth t (Some (name n)) h = then_maintains _ _ (any_settle_maintains _) (λ x u. lift_maintains S claim _ (reference_if_found_maintains S claim scope x))
  sought_maintains scope depth t (Some (number n)) h = sought_target_maintains scope depth t h
  sought_maintains scope depth t (Some (bytes bs)) h = sought_target_maintains scope depth t h
  sought_maintains scope depth t (Some (inner u)) h = sought_target_maintains scope depth t h
  sought_maintains scope depth t (Some (list ts)) h = sought_target_maintains scope depth t h

  reference_found_maintains : (scope : List Seg) (depth : ℕ) (t : Tree) (o : Option Reference) → TreeFits claim t → AnyReferenceFits claim o → Maintains (RunWithin S claim) (FlowFits claim) (reference_found accesses ev scope depth t o)
  unfolding reference_stored
  reference_found_maintains scope depth t None h f = give_maintains _ (λ m. small_number_fits claim.width 0 (omega arith))
  reference_found_maintains scope depth t (Some r) h f = then_maintains _ _ (targeted_maintains scope depth t 1 (value.Reference r) h f) (λ done u. value_given_maintains _ (integer_kept_maintains S claim _))

  operator_rule_maintains : (k : OperatorKind) (scope : List Seg) (depth : ℕ) (t : Tree) → TreeFits claim t → Maintains (RunWithin S claim) (FlowFits claim) (operator_rule accesses ev k scope depth t)
  unfolding slot_rule store_rule copy_rule two_rule divide_rule one_rule test_rule lnot_rule count_rule size_rule type_rule acquire_rule reference_rule dereference_rule conditional_rule
  operator_rule_maintains (operators.Slot slot) scope depth t h = value_given_maintains _ (slot_read_maintains S claim slot)
  operator_rule_maintains operators.Store scope depth t h = then_maintains _ _ (value_at_maintains S claim accesses ev parts scope depth t 0 h) (λ v f. targeted_maintains scope depth t 1 v h f)
  operator_rule_maintains operators.CopyObject scope depth t h = then_maintains _ _ (value_at_maintains S claim accesses ev parts scope depth t 0 h) (λ v f. then_maintains _ _ (target_at_maintains scope depth t 1 h) (λ p u. then_maintains _ _ (lift_maintains S claim _ (copied_to_maintains S claim p v u f)) (λ s g. then_maintains _ _ (completed_maintains S claim accesses ev parts depth s v g f) (λ done x. give_maintains _ f))))
  operator_rule_maintains (operators.Two k) scope depth t h = then_maintains _ _ (two_values_maintains S claim accesses ev parts scope depth t h) (λ x f. then_maintains _ _ (lift_maintains S claim _ (result_of_two_maintains k x.0 x.1 f.0 f.1)) (λ r g. targeted_maintains scope depth t 2 r h g))
  operator_rule_maintains operators.Divide scope depth t h = then_maintains _ _ (two_values_maintains S claim accesses ev parts scope depth t h) (λ x f. then_maintains _ _ (lift_maintains S claim _ (divided_in_maintains S claim x.0 x.1 f.0 f.1)) (λ d g. then_maintains _ _ (targeted_maintains scope depth t 2 (value.Integer d.remainder) h g.1) (λ done u. targeted_maintains scope depth t 3 (value.Integer d.quotient) h g.0)))
  operator_rule_maintains (operators.One k) scope depth t h = then_maintains _ _ (value_at_maintains S claim accesses ev parts scope depth t 0 h) (λ v f. then_maintains _ _ (lift_maintains S claim _ (result_of_one_maintains k v f)) (λ r g. targeted_maintains scope depth t 1 r h g))
  operator_rule_maintains (operators.Test k) scope depth t h = then_maintains _ _ (two_values_maintains S claim accesses ev parts scope depth t h) (λ x f. value_given_maintains _ (result_of_test_maintains k x.0 x.1 f.0 f.1))
  operator_rule_maintains operators.LNot scope depth t h = then_maintains _ _ (value_at_maintains S claim accesses ev parts scope depth t 0 h) (λ v f. value_given_maintains _ (lnot_maintains S claim v f))
  operator_rule_maintains (operators.Count k) scope depth t h =
      then_maintains _ _ (target_at_maintains scope depth t 0 h) (λ p u. then_maintains _ _ (lift_maintains S claim _ (target_read_maintains S claim p u)) (λ x f. then_maintains _ _ (held_integer_maintains S claim accesses ev parts depth x f) (λ n g. then_maintains _ _ (lift_maintains S claim _ (counted_by_maintains k n)) (λ r k. then_maintains _ _ (stored_back_maintains S claim accesses ev parts depth x p r f u k) (λ done v. give_maintains _ k)))))
  operator_rule_maintains operators.SizeOf scope depth t h = then_maintains _ _ (referent_by_maintains scope depth t (operand_of t 0) h (operand_of_fits claim t 0 h)) (λ r f. then_maintains _ _ (referent_read_maintains S claim accesses ev parts depth r f) (λ s g. value_given_maintains _ (size_in_maintains S claim s g)))
  operator_rule_maintains operators.ObjectType scope depth t h = then_maintains _ _ (referent_by_maintains scope depth t (operand_of t 0) h (operand_of_fits claim t 0 h)) (λ r f. then_maintains _ _ (referent_read_maintains S claim accesses ev parts depth r f) (λ s g. give_maintains _ (type_number_fits (type_of_referent s))))
  operator_rule_maintains operators.Acquire scope depth t h = then_maintains _ _ (target_at_maintains scope depth t 0 h) (λ p u. then_maintains _ _ (lift_maintains S claim _ (acquired_at_maintains S claim p)) (λ done v. give_maintains _ (λ m. small_number_fits claim.width 0 (omega arith))))
  operator_rule_maintains operators.RefOf scope depth t h = then_maintains _ _ (target_at_maintains scope depth t 0 h) (λ p u. then_maintains _ _ (lift_maintains S claim _ (reference_of_maintains S claim p u)) (λ r v. give_maintains _ v))
  operator_rule_maintains operators.CondRefOf scope depth t h = then_maintains _ _ (sought_maintains scope depth t (operand_of t 0) h) (λ o u. reference_found_maintains scope depth t o h u)
  operator_rule_maintains operators.DerefOf scope depth t h =
      then_maintains _ _ (value_at_maintains S claim accesses ev parts scope depth t 0 h) (λ v f. then_maintains _ _ (reference_in_maintains v f) (λ r u. then_maintains _ _ (lift_maintains S claim _ (dereferenced_maintains S claim r u)) (λ x g. then_maintains _ _ (held_value_maintains S claim accesses ev parts depth x g) (λ y k. give_maintains _ k))))

  -- ---- statements

  otherwise_maintains : (scope : List Seg) (depth : ℕ) (o : Option Part) → OperandFits claim o → Maintains (RunWithin S claim) (FlowFits claim) (otherwise ev scope depth (else_of o))
  otherwise_maintains scope depth (Some (inner u)) h = parts.fit (task scope depth u) h
  otherwise_maintains scope depth _ h = give_maintains _ tt

  branch_maintains : (scope : List Seg) (depth : ℕ) (ts : Trees) (o : Option Part) (b : Bool) → TreesFit claim ts → OperandFits claim o → Maintains (RunWithin S claim) (FlowFits claim) (branch ev scope depth ts (else_of o) b)
  branch_maintains scope depth ts o true h g = in_turn_maintains S claim accesses ev parts scope depth ts h
  branch_maintains scope depth ts o false h g = otherwise_maintains scope depth o g

  turn_of_maintains : (scope : List Seg) (depth : ℕ) (ts : Trees) (b : Bool) → TreesFit claim ts → Maintains (RunWithin S claim) (FlowFits claim) (turn_of ev scope depth ts b)
  turn_of_maintains scope depth ts true h = in_turn_maintains S claim accesses ev parts scope depth ts h
  turn_of_maintains scope depth ts false h = give_maintains _ tt

  after_turn_maintains : (f : Flow) (m : Run S Flow) → FlowFits claim f → Maintains (RunWithin S claim) (FlowFits claim) m → Maintains (RunWithin S claim) (FlowFits claim) (after_turn ev (loop_end f) m)
  after_turn_maintains flow.Break m g h = give_maintains _ tt
  after_turn_maintains (flow.Return v) m g h = give_maintains _ g
  after_turn_maintains (flow.Value v) m g h = h
  after_turn_maintains flow.Next m g h = h
  after_turn_maintains flow.Continue m g h = h

  turns_maintains : (k : ℕ) (scope : List Seg) (depth : ℕ) (c : Tree) (ts : Trees) → TreeFits claim c → TreesFit claim ts → Maintains (RunWithin S claim) (FlowFits claim) (turns ev k scope depth c ts)
  unfolding turns turn
  turns_maintains zero scope depth c ts h g = stop_maintains _
  turns_maintains (suc k) scope depth c ts h g = then_maintains _ _ (then_maintains _ _ (operand_integer_maintains S claim accesses ev parts scope depth c h) (λ x u. turn_of_maintains scope depth ts _ g)) (λ f k1. after_turn_maintains f _ k1 (turns_maintains k scope depth c ts h g))

  loop_maintains : (scope : List Seg) (depth : ℕ) (c : Tree) (ts : Trees) → TreeFits claim c → TreesFit claim ts → Maintains (RunWithin S claim) (FlowFits claim) (loop ev scope depth c ts)
  unfolding loop
  loop_maintains scope depth c ts h g = record { maintains = λ s a. (turns_maintains (suc s.1) scope depth c ts h g).maintains s a }

  statement_rule_maintains : (k : StatementKind) (scope : List Seg) (depth : ℕ) (t : Tree) → TreeFits claim t → Maintains (RunWithin S claim) (FlowFits claim) (statement_rule ev k scope depth t)
  unfolding if_rule else_rule while_rule return_rule release_rule notify_rule pause_rule fatal_rule
  statement_rule_maintains statements.If scope depth t h = then_maintains _ _ (inner_operand_maintains claim t 0 h) (λ c f. then_maintains _ _ (list_operand_maintains claim t 1 h) (λ ts g. then_maintains _ _ (operand_integer_maintains S claim accesses ev parts scope depth c f) (λ x u. branch_maintains scope depth ts (operand_of t 2) _ g (operand_of_fits claim t 2 h))))
  statement_rule_maintains statements.Else scope depth t h = then_maintains _ _ (list_operand_maintains claim t 0 h) (λ ts g. in_turn_maintains S claim accesses ev parts scope depth ts g)
  statement_rule_maintains statements.While scope depth t h = then_maintains _ _ (inner_operand_maintains claim t 0 h) (λ c f. then_maintains _ _ (list_operand_maintains claim t 1 h) (λ ts g. loop_maintains scope depth c ts f g))
  statement_rule_maintains statements.Break scope depth t h = give_maintains _ tt
  statement_rule_maintains statements.Continue scope depth t h = give_maintains _ tt
  statement_rule_maintains statements.Noop scope depth t h = give_maintains _ tt
  statement_rule_maintains statements.Return scope depth t h = then_maintains _ _ (value_at_maintains S claim accesses ev parts scope depth t 0 h) (λ v f. give_maintains _ f)
  statement_rule_maintains statements.Release scope depth t h = then_maintains _ _ (target_at_maintains scope depth t 0 h) (λ p u. then_maintains _ _ (lift_maintains S claim _ (given_back_at_maintains S claim p)) (λ done v. give_maintains _ tt))
  statement_rule_maintains statements.Notify scope depth t h = then_maintains _ _ (target_at_maintains scope depth t 0 h) (λ p u. then_maintains _ _ (value_at_maintains S claim accesses ev parts scope depth t 1 h) (λ v f. give_maintains _ tt))
  statement_rule_maintains statements.Pause scope depth t h = then_maintains _ _ (value_at_maintains S claim accesses ev parts scope depth t 0 h) (λ v f. give_maintains _ tt)
  statement_rule_maintains statements.Fatal scope depth t h = then_maintains _ _ (value_at_maintains S claim accesses ev parts scope depth t 2 h) (λ v f. stop_maintains _)

  -- ---- calls

  arguments_in_turn_maintains : (scope : List Seg) (depth : ℕ) (ts : Trees) (done : List Value) → TreesFit claim ts → Each (ValueFits claim) done → Maintains (RunWithin S claim) (Each (ValueFits claim)) (arguments_in_turn ev scope depth ts done)
  unfolding arguments_in_turn
  arguments_in_turn_maintains scope depth no_trees done h g = give_maintains _ g
  arguments_in_turn_maintains scope depth (tree t ts) done h g = then_maintains _ _ (operand_value_maintains S claim accesses ev parts scope depth t (λ m. (h m).0)) (λ v f. arguments_in_turn_maintains scope depth ts _ (λ m. (h m).1) (each_push (ValueFits claim) done v g f))

  osi_rule_maintains : (scope : List Seg) (depth : ℕ) (ts : Trees) → TreesFit claim ts → Maintains (RunWithin S claim) (FlowFits claim) (osi_rule ev scope depth ts)
  unfolding osi_rule
  osi_rule_maintains scope depth ts h = then_maintains _ _ (arguments_in_turn_maintains scope depth ts [] h tt) (λ vs g. then_maintains _ _ (call_allowed_maintains depth) (λ few u. value_given_maintains _ (osi_answered_maintains S claim vs)))

  invocation_rule_maintains : (scope : List Seg) (depth : ℕ) (ts : Trees) (i : Invocation) → TreesFit claim ts → InvocationFits claim i → Maintains (RunWithin S claim) (FlowFits claim) (invocation_rule accesses ev scope depth ts i)
  unfolding field_rule call_rule
  invocation_rule_maintains scope depth ts (invocations.Value v) h f = give_maintains _ f
  invocation_rule_maintains scope depth ts (invocations.Field u) h f = then_maintains _ _ (field_read_maintains S claim accesses ev parts depth u f) (λ v g. give_maintains _ g)
  invocation_rule_maintains scope depth ts (invocations.Method q body) h f = then_maintains _ _ (arguments_in_turn_maintains scope depth ts [] h tt) (λ vs g. invoked_maintains S claim accesses ev parts depth q body vs f g)
  invocation_rule_maintains scope depth ts invocations.Osi h f = osi_rule_maintains scope depth ts h

  name_value_maintains : (scope : List Seg) (depth : ℕ) (t : Tree) → TreeFits claim t → Maintains (RunWithin S claim) (FlowFits claim) (name_value accesses ev scope depth t)
  unfolding name_value
  name_value_maintains scope depth t h = then_maintains _ _ (any_settle_maintains _) (λ n u. then_maintains _ _ (list_operand_maintains claim t 1 h) (λ ts g. then_maintains _ _ (lift_maintains S claim _ (invocation_found_maintains S claim scope n (count_of ts))) (λ i f. invocation_rule_maintains scope depth ts i g f)))

  -- ---- regions and fields

  size_has_few_bits : (size : BufferFieldSize) → BitsFit claim (bits_of_size size)
  size_has_few_bits sizes.Bit m = omega arith
  size_has_few_bits sizes.Byte m = omega arith
  size_has_few_bits sizes.Word m = omega arith
  size_has_few_bits sizes.DWord m = omega arith
  size_has_few_bits sizes.QWord m = omega arith

  buffer_of_fits : (v : Value) (o : ℕ) → ValueFits claim v → buffer_of v ≡ Ok o → claim.Seen o
  buffer_of_fits (value.Buffer p) o f e = ok_fits claim.Seen p o e f
  buffer_of_fits value.Uninitialized o f e = absurd (cc e)
  buffer_of_fits (value.Integer n) o f e = absurd (cc e)
  buffer_of_fits (value.String p) o f e = absurd (cc e)
  buffer_of_fits (value.Package p) o f e = absurd (cc e)
  buffer_of_fits (value.Reference r) o f e = absurd (cc e)

  buffer_of_maintains : (v : Value) → ValueFits claim v → Maintains (RunWithin S claim) claim.Seen (settle (buffer_of v))
  buffer_of_maintains v f = settle_maintains _ (λ o e. buffer_of_fits v o f e)

  region_term_rule_maintains : (k : RegionKind) (scope : List Seg) (depth : ℕ) (t : Tree) → TreeFits claim t → Maintains (RunWithin S claim) (FlowFits claim) (region_term_rule ev k scope depth t)
  unfolding region_rule field_list_rule index_list_rule fields_laid region_found field_found sized_field_rule bits_field_rule
  region_term_rule_maintains regions.OperationRegion scope depth t h =
      then_maintains _ _ (any_settle_maintains _) (λ space u. then_maintains _ _ (value_at_maintains S claim accesses ev parts scope depth t 2 h) (λ offset f. then_maintains _ _ (value_at_maintains S claim accesses ev parts scope depth t 3 h) (λ size g.
      then_maintains _ _ (lift_maintains S claim _ (integer_in_maintains S claim offset f)) (λ x v. then_maintains _ _ (lift_maintains S claim _ (integer_in_maintains S claim size g)) (λ y z. declaring_maintains scope depth t _ _ tt)))))
  region_term_rule_maintains regions.Field scope depth t h =
      then_maintains _ _ (any_settle_maintains _) (λ ts u. then_maintains _ _ (lift_maintains S claim _ (connections_asked_maintains S claim _ ts)) (λ asked v. then_maintains _ _ (any_settle_maintains _) (λ n x. then_maintains _ _ (lift_maintains S claim _ (then_maintains _ _ (entry_found_maintains S claim scope n) (λ e f. any_settle_maintains _))) (λ region y. then_maintains _ _ (any_settle_maintains _) (λ flags z.
      then_maintains _ _ (lift_maintains S claim _ (elements_laid_maintains S claim _ scope depth _ ts)) (λ laid a. give_maintains _ tt))))))
  region_term_rule_maintains regions.IndexField scope depth t h =
      then_maintains _ _ (any_settle_maintains _) (λ ts u. then_maintains _ _ (lift_maintains S claim _ (connections_asked_maintains S claim _ ts)) (λ asked v. then_maintains _ _ (any_settle_maintains _) (λ m x. then_maintains _ _ (lift_maintains S claim _ (then_maintains _ _ (entry_found_maintains S claim scope m) (λ e f. any_settle_maintains _))) (λ index y. then_maintains _ _ (any_settle_maintains _) (λ n z.
      then_maintains _ _ (lift_maintains S claim _ (then_maintains _ _ (entry_found_maintains S claim scope n) (λ e f. any_settle_maintains _))) (λ behind a. then_maintains _ _ (any_settle_maintains _) (λ flags b. then_maintains _ _ (lift_maintains S claim _ (elements_laid_maintains S claim _ scope depth _ ts)) (λ laid c. give_maintains _ tt))))))))
  region_term_rule_maintains (regions.SizedBufferField size) scope depth t h =
      then_maintains _ _ (two_values_maintains S claim accesses ev parts scope depth t h) (λ x f. then_maintains _ _ (buffer_of_maintains x.0 f.0) (λ o u. then_maintains _ _ (lift_maintains S claim _ (integer_in_maintains S claim x.1 f.1)) (λ i v.
      then_maintains _ _ (lift_maintains S claim _ (on_objects_maintains S claim _ (new_buffer_field_maintains claim o _ _ (size_has_few_bits size) u))) (λ b fit. declaring_maintains scope depth t _ _ fit))))
  region_term_rule_maintains regions.BufferField scope depth t h =
      then_maintains _ _ (value_at_maintains S claim accesses ev parts scope depth t 0 h) (λ source f. then_maintains _ _ (value_at_maintains S claim accesses ev parts scope depth t 1 h) (λ index g. then_maintains _ _ (value_at_maintains S claim accesses ev parts scope depth t 2 h) (λ count k.
      then_maintains _ _ (buffer_of_maintains source f) (λ o u. then_maintains _ _ (lift_maintains S claim _ (integer_in_maintains S claim index g)) (λ i v. then_maintains _ _ (lift_maintains S claim _ (integer_in_maintains S claim count k)) (λ n x. then_maintains {Fit = BitsFit claim} _ _ (settle_maintains _ (λ m e. field_has_few_bits S claim (n == 0) n _ m e)) (λ bits l.
      then_maintains _ _ (lift_maintains S claim _ (on_objects_maintains S claim _ (new_buffer_field_maintains claim o i bits l u))) (λ b fit. declaring_maintains scope depth t _ _ fit))))))))

  kind_rule_maintains : (k : TermKind) (op : Opcode) (scope : List Seg) (depth : ℕ) (t : Tree) → TreeFits claim t → Maintains (RunWithin S claim) (FlowFits claim) (kind_rule accesses ev k op scope depth t)
  kind_rule_maintains (kinds.Data k) op scope depth t h = data_rule_maintains k scope depth t h
  kind_rule_maintains (kinds.Declaration k) op scope depth t h = declaration_rule_maintains k scope depth t h
  kind_rule_maintains (kinds.Region k) op scope depth t h = region_term_rule_maintains k scope depth t h
  kind_rule_maintains (kinds.Operator k) op scope depth t h = operator_rule_maintains k scope depth t h
  kind_rule_maintains (kinds.Statement k) op scope depth t h = statement_rule_maintains k scope depth t h
  kind_rule_maintains (kinds.Wide k) op scope depth t h = in_wide_maintains S claim accesses ev parts target_at_maintains targeted_maintains op k scope depth t h
  kind_rule_maintains kinds.Unsupported op scope depth t h = stop_maintains _

  code_rule_maintains : (c : TermCode) (scope : List Seg) (depth : ℕ) (t : Tree) → TreeFits claim t → Maintains (RunWithin S claim) (FlowFits claim) (code_rule accesses ev c scope depth t)
  code_rule_maintains (codes.Opcode op) scope depth t h = kind_rule_maintains (kind_of op) op scope depth t h
  code_rule_maintains codes.MethodInvocation scope depth t h = name_value_maintains scope depth t h
  code_rule_maintains codes.Name scope depth t h = stop_maintains _
  code_rule_maintains codes.NamedField scope depth t h = stop_maintains _
  code_rule_maintains codes.ReservedField scope depth t h = stop_maintains _
  code_rule_maintains codes.AccessField scope depth t h = stop_maintains _
  code_rule_maintains codes.ExtendedAccessField scope depth t h = stop_maintains _
  code_rule_maintains codes.ConnectField scope depth t h = stop_maintains _

  rule_maintains : (t : Task) → TreeFits claim t.term → Maintains (RunWithin S claim) (FlowFits claim) (rule accesses ev t)
  unfolding rule
  rule_maintains t h = code_rule_maintains (code_of t.term) t.scope t.depth t.term h

-- ---- evaluations

evaluated_within_balanced : (S : Type 0) (accesses : Accesses S) (n : ℕ) (t : Task) (s : State S × ℕ) → numbers_of (evaluated_within accesses n t s).1.0.frames ≡ numbers_of s.0.frames
evaluated_within_balanced S accesses n t s = evaluated_within_preserves (frame_numbers_relation accesses) n t s.0 s.1

evaluated_within_maintained : (S : Type 0) (claim : Claim) (accesses : Accesses S) (n : ℕ) (t : Task) (w : State S) (b : ℕ) → TreeFits claim t.term → WorldFits claim w → Maintained (RunWithin S claim) (FlowFits claim) (evaluated_within accesses n t (w, b))
unfolding evaluated_within
evaluated_within_maintained S claim accesses zero t w b h a = err_maintained _ _ a
evaluated_within_maintained S claim accesses (suc n) t w zero h a = err_maintained _ _ a
evaluated_within_maintained S claim accesses (suc n) t w (suc b) h a =
    (rule_maintains S claim accesses (evaluated_within accesses n) (record { fit = λ u g. record { maintains = λ s i. evaluated_within_maintained S claim accesses n u s.0 s.1 g i }; balanced = evaluated_within_balanced S accesses n }) t h).maintains (w, b) a

pub meaning_maintains : (S : Type 0) (claim : Claim) (accesses : Accesses S) (t : Task) → TreeFits claim t.term → Maintains (RunWithin S claim) (FlowFits claim) (meaning accesses t)
unfolding meaning
meaning_maintains S claim accesses t h = record { maintains = λ s a. evaluated_within_maintained S claim accesses s.1 t s.0 s.1 h a }

pub meaning_parts : (S : Type 0) (claim : Claim) (accesses : Accesses S) → PartsMaintain S claim accesses (meaning accesses)
meaning_parts S claim accesses = record { fit = meaning_maintains S claim accesses; balanced = λ t s. (meaning_preserves {relation = frame_numbers_relation accesses} t).preserves s }

pub list_maintains : (S : Type 0) (claim : Claim) (accesses : Accesses S) (scope : List Seg) (depth : ℕ) (ts : Trees) → TreesFit claim ts → Maintains (RunWithin S claim) (FlowFits claim) (in_turn (meaning accesses) scope depth ts)
list_maintains S claim accesses scope depth ts h = in_turn_maintains S claim accesses (meaning accesses) (meaning_parts S claim accesses) scope depth ts h
