-- The rule of a term leaves steps as a relation of steps keeps them, where its parts, its targets and its names of elements do.
use Rattle.std.specs.Prelude.{ℕ, zero, suc, List, Bool, true, false, Option, Some, None, refl, ◌≡◌, Ok, []}
use Rattle.ar_space.specs.Accesses.{Accesses}
use Rattle.aml_path.specs.declared.segment.Seg.{Seg}
use Rattle.aml_grammar.specs.declared.opcode.Opcode.{Opcode}
use Rattle.aml_grammar.specs.declared.opcode.TermCode.{TermCode}
use Rattle.aml_grammar.specs.Tree.{Tree, Trees, no_trees, tree, Part, null, name, number, bytes, inner, list}
use Rattle.aml_grammar.specs.Apart.{code_of, operand_of}
use Rattle.aml_objects.specs.declared.value.Value.{Value}
use Rattle.aml_objects.specs.declared.value.Slot.{Slot}
use Rattle.aml_objects.specs.declared.object.Element.{Element}
use Rattle.aml_objects.specs.declared.entry.NamedObject.{NamedObject}
use Rattle.aml_world.specs.declared.values.operation_kind.OneOperand.{OneOperand}
use Rattle.aml_world.specs.declared.values.operation_kind.TwoOperands.{TwoOperands}
use Rattle.aml_world.specs.declared.values.operation_kind.Test.{Test}
use Rattle.aml_world.specs.declared.values.operation_kind.Count.{Count}
use Rattle.aml_world.specs.declared.state.invocation.Invocation.{Invocation}
use Rattle.aml_world.specs.state.Run.{Run}
use Rattle.aml_world.specs.declared.values.operation_kind.Conversion.{Conversion}
use Rattle.aml_world.specs.declared.values.operation_kind.EventChange.{EventChange}
use Rattle.aml_world.specs.declared.values.searches.Search.{Search}
use Rattle.aml_world.specs.declared.values.store_target.Held.{Held}
use Rattle.aml_world.specs.declared.state.invocation.Invocation.TheVariants as invocations
use Rattle.aml_meaning.specs.declared.flow.Flow.{Flow}
use Rattle.aml_objects.specs.declared.value.Reference.{Reference}
use Rattle.aml_meaning.specs.declared.term_kind.TermKind.{TermKind}
use Rattle.aml_meaning.specs.declared.term_kind.DataKind.{DataKind}
use Rattle.aml_meaning.specs.declared.term_kind.DeclarationKind.{DeclarationKind}
use Rattle.aml_meaning.specs.declared.term_kind.OperatorKind.{OperatorKind}
use Rattle.aml_meaning.specs.declared.term_kind.StatementKind.{StatementKind}
use Rattle.aml_meaning.specs.declared.term_kind.TargetKind.{TargetKind}
use Rattle.aml_meaning.specs.declared.term_kind.RegionKind.{RegionKind}
use Rattle.aml_meaning.specs.Terms.{kind_of, list_of}
use Rattle.aml_meaning.specs.Tasks.{Task}
use Rattle.aml_meaning.specs.DataTerms.{constant_rule, integer_rule, string_rule, buffer_rule, named_element, valued_element, element_by, elements_in_turn, package_of, package_rule, var_package_rule, data_rule}
use Rattle.aml_meaning.specs.DeclarationTerms.{declaring, name_rule, alias_rule, method_rule, scope_rule, new_scope, declaration_rule}
use Rattle.aml_meaning.specs.TargetTerms.{target_at, targeted}
use Rattle.aml_meaning.specs.OperatorTerms.{slot_rule, store_rule, copy_rule, two_rule, divide_rule, one_rule, test_rule, lnot_rule, count_rule, referent_of_value, referent_of_target, referent_by_kind, referent_by, size_rule, type_rule, acquire_rule, reference_rule, dereference_rule, sought_name, sought_target, sought, reference_stored, reference_found, conditional_rule, operator_rule}
use Rattle.aml_meaning.specs.StatementTerms.{otherwise, branch, if_rule, else_rule, turn_of, turn, loop_end, after_turn, turns, loop, while_rule, return_rule, release_rule, notify_rule, pause_rule, fatal_rule, statement_rule}
use Rattle.aml_meaning.specs.InvocationTerms.{arguments_in_turn, call_rule, osi_rule, field_rule, invocation_rule, name_value}
use Rattle.aml_meaning.specs.FieldTerms.{fields_laid, region_rule, field_list_rule, index_list_rule, sized_field_rule, bits_field_rule, region_term_rule}
use Rattle.aml_meaning.specs.Evaluation.{kind_rule, code_rule, rule}
use Rattle.aml_meaning.specs.declared.term_kind.WideKind.{WideKind}
use Rattle.aml_meaning.specs.BankTerms.{banked_laid, bank_list_rule}
use Rattle.aml_meaning.specs.WideTerms.{in_wide, formed_at, convert_rule, to_string_rule, middle_rule, wide_rule, event_rule, wait_rule}
use Rattle.std.proofs.Common.{ap, sym, subst}
use Rattle.aml_laws.proofs.Preorders.{Preorder, give_respects, stop_respects, settle_respects, then_respects, settle_then_respects}
use Rattle.aml_laws.proofs.StepsOfParts.{Keeps, lift_keeps, operand_value_keeps, operand_integer_keeps, value_at_keeps, two_values_keeps, in_turn_keeps, invoked_keeps, field_read_keeps, held_integer_keeps, referent_read_keeps, completed_keeps, stored_to_keeps, held_value_keeps, stored_back_keeps}
use Rattle.aml_laws.specs.Declares.{IsItem, first, later}
use Rattle.aml_laws.specs.StepsTaken.{listed, elements_of}
use Rattle.aml_grammar.specs.declared.opcode.TermCode.TheVariants as codes
use Rattle.aml_meaning.specs.MatchTerms.{held_meets, if_held, element_meets, found_or, none_matches, searched_last, match_rule}
use Rattle.aml_meaning.specs.declared.term_kind.TermKind.TheVariants as kinds
use Rattle.aml_meaning.specs.declared.term_kind.DataKind.TheVariants as datas
use Rattle.aml_meaning.specs.declared.term_kind.DeclarationKind.TheVariants as declarations
use Rattle.aml_meaning.specs.declared.term_kind.OperatorKind.TheVariants as operators
use Rattle.aml_meaning.specs.declared.term_kind.StatementKind.TheVariants as statements
use Rattle.aml_meaning.specs.declared.term_kind.TargetKind.TheVariants as target
use Rattle.aml_meaning.specs.declared.term_kind.RegionKind.TheVariants as regions
use Rattle.aml_meaning.specs.declared.term_kind.WideKind.TheVariants as wides

module _ {S : Type 0} (R : Preorder ℕ) (accesses : Accesses S) (ev : Task → Run S Flow) (parts : (t : Task) → Keeps R (ev t)) where
  constant_rule_keeps : (k : ℕ) → Keeps R (constant_rule ev k)
  unfolding constant_rule
  constant_rule_keeps k = then_respects _ _ (lift_keeps R _) (λ v. give_respects _)

  buffer_rule_keeps : (scope : List Seg) (depth : ℕ) (t : Tree) → Keeps R (buffer_rule ev scope depth t)
  unfolding buffer_rule
  buffer_rule_keeps scope depth t = then_respects _ _ (settle_respects _) (λ size. then_respects _ _ (operand_integer_keeps R accesses ev parts scope depth size) (λ k. then_respects _ _ (settle_respects _) (λ bytes. then_respects _ _ (lift_keeps R _) (λ v. give_respects _))))

  valued_element_keeps : (scope : List Seg) (depth : ℕ) (t : Tree) → Keeps R (valued_element ev scope depth t)
  unfolding valued_element
  valued_element_keeps scope depth t = then_respects _ _ (operand_value_keeps R accesses ev parts scope depth t) (λ v. give_respects _)

  pub declaring_keeps : (scope : List Seg) (depth : ℕ) (t : Tree) (position : ℕ) (o : NamedObject) → Keeps R (declaring ev scope depth t position o)
  unfolding declaring
  declaring_keeps scope depth t position o = then_respects _ _ (settle_respects _) (λ x. then_respects _ _ (settle_respects _) (λ q. then_respects _ _ (lift_keeps R _) (λ u. give_respects _)))

  name_rule_keeps : (scope : List Seg) (depth : ℕ) (t : Tree) → Keeps R (name_rule ev scope depth t)
  unfolding name_rule
  name_rule_keeps scope depth t = then_respects _ _ (settle_respects _) (λ d. then_respects _ _ (operand_value_keeps R accesses ev parts scope depth d) (λ v. declaring_keeps scope depth t _ _))

  new_scope_keeps : (o : NamedObject) (place : ℕ) (scope : List Seg) (depth : ℕ) (t : Tree) → Keeps R (new_scope ev o place scope depth t)
  unfolding new_scope
  new_scope_keeps o place scope depth t = then_respects _ _ (settle_respects _) (λ x. then_respects _ _ (settle_respects _) (λ q. then_respects _ _ (lift_keeps R _) (λ u. then_respects _ _ (settle_respects _) (λ ts. in_turn_keeps R accesses ev parts q depth ts))))

  scope_rule_keeps : (scope : List Seg) (depth : ℕ) (t : Tree) → Keeps R (scope_rule ev scope depth t)
  unfolding scope_rule
  scope_rule_keeps scope depth t = then_respects _ _ (settle_respects _) (λ x. then_respects _ _ (lift_keeps R _) (λ q. then_respects _ _ (settle_respects _) (λ ts. in_turn_keeps R accesses ev parts q depth ts)))

  alias_rule_keeps : (scope : List Seg) (depth : ℕ) (t : Tree) → Keeps R (alias_rule ev scope depth t)
  unfolding alias_rule
  alias_rule_keeps scope depth t = then_respects _ _ (settle_respects _) (λ x. then_respects _ _ (lift_keeps R _) (λ target. then_respects _ _ (settle_respects _) (λ y. then_respects _ _ (settle_respects _) (λ q. then_respects _ _ (lift_keeps R _) (λ u. give_respects _)))))

  method_rule_keeps : (scope : List Seg) (depth : ℕ) (t : Tree) → Keeps R (method_rule ev scope depth t)
  unfolding method_rule
  method_rule_keeps scope depth t = then_respects _ _ (settle_respects _) (λ x. then_respects _ _ (settle_respects _) (λ q. then_respects _ _ (settle_respects _) (λ flags. then_respects _ _ (settle_respects _) (λ body. then_respects _ _ (lift_keeps R _) (λ u. give_respects _)))))

  string_rule_keeps : (t : Tree) → Keeps R (string_rule ev t)
  unfolding string_rule
  string_rule_keeps t = then_respects _ _ (settle_respects _) (λ x. then_respects _ _ (lift_keeps R _) (λ v. give_respects _))

  integer_rule_keeps : (t : Tree) → Keeps R (integer_rule ev t)
  unfolding integer_rule
  integer_rule_keeps t = then_respects _ _ (settle_respects _) (λ k. constant_rule_keeps k)

  declaration_rule_keeps : (k : DeclarationKind) (scope : List Seg) (depth : ℕ) (t : Tree) → Keeps R (declaration_rule ev k scope depth t)
  declaration_rule_keeps declarations.Scope scope depth t = scope_rule_keeps scope depth t
  declaration_rule_keeps declarations.Device scope depth t = new_scope_keeps _ _ scope depth t
  declaration_rule_keeps declarations.Processor scope depth t = new_scope_keeps _ _ scope depth t
  declaration_rule_keeps declarations.PowerResource scope depth t = new_scope_keeps _ _ scope depth t
  declaration_rule_keeps declarations.ThermalZone scope depth t = new_scope_keeps _ _ scope depth t
  declaration_rule_keeps declarations.Name scope depth t = name_rule_keeps scope depth t
  declaration_rule_keeps declarations.Alias scope depth t = alias_rule_keeps scope depth t
  declaration_rule_keeps declarations.External scope depth t = give_respects _
  declaration_rule_keeps declarations.Method scope depth t = method_rule_keeps scope depth t
  declaration_rule_keeps declarations.Mutex scope depth t = declaring_keeps scope depth t _ _
  declaration_rule_keeps declarations.Event scope depth t = declaring_keeps scope depth t _ _

  -- ---- places and operators

  slot_rule_keeps : (slot : Slot) → Keeps R (slot_rule accesses ev slot)
  unfolding slot_rule
  slot_rule_keeps slot = then_respects _ _ (lift_keeps R _) (λ v. give_respects _)

  test_rule_keeps : (k : Test) (scope : List Seg) (depth : ℕ) (t : Tree) → Keeps R (test_rule accesses ev k scope depth t)
  unfolding test_rule
  test_rule_keeps k scope depth t = then_respects _ _ (two_values_keeps R accesses ev parts scope depth t) (λ x. then_respects _ _ (lift_keeps R _) (λ r. give_respects _))

  lnot_rule_keeps : (scope : List Seg) (depth : ℕ) (t : Tree) → Keeps R (lnot_rule accesses ev scope depth t)
  unfolding lnot_rule
  lnot_rule_keeps scope depth t = then_respects _ _ (value_at_keeps R accesses ev parts scope depth t 0) (λ v. then_respects _ _ (lift_keeps R _) (λ r. give_respects _))

  referent_of_value_keeps : (scope : List Seg) (depth : ℕ) (u : Tree) → Keeps R (referent_of_value accesses ev scope depth u)
  unfolding referent_of_value
  referent_of_value_keeps scope depth u = then_respects _ _ (operand_value_keeps R accesses ev parts scope depth u) (λ v. lift_keeps R _)

  dereference_rule_keeps : (scope : List Seg) (depth : ℕ) (t : Tree) → Keeps R (dereference_rule accesses ev scope depth t)
  unfolding dereference_rule
  dereference_rule_keeps scope depth t = then_respects _ _ (value_at_keeps R accesses ev parts scope depth t 0) (λ v. then_respects _ _ (settle_respects _) (λ r. then_respects _ _ (lift_keeps R _) (λ h. then_respects _ _ (held_value_keeps R accesses ev parts depth h) (λ x. give_respects _))))

  sought_name_keeps : (scope : List Seg) (t : Tree) → Keeps R (sought_name accesses ev scope t)
  unfolding sought_name
  sought_name_keeps scope t = then_respects _ _ (settle_respects _) (λ x. lift_keeps R _)

  -- ---- statements

  otherwise_keeps : (scope : List Seg) (depth : ℕ) (e : Option Tree) → Keeps R (otherwise ev scope depth e)
  otherwise_keeps scope depth None = give_respects _
  otherwise_keeps scope depth (Some e) = parts _

  branch_keeps : (scope : List Seg) (depth : ℕ) (ts : Trees) (e : Option Tree) (b : Bool) → Keeps R (branch ev scope depth ts e b)
  branch_keeps scope depth ts e true = in_turn_keeps R accesses ev parts scope depth ts
  branch_keeps scope depth ts e false = otherwise_keeps scope depth e

  if_rule_keeps : (scope : List Seg) (depth : ℕ) (t : Tree) → Keeps R (if_rule ev scope depth t)
  unfolding if_rule
  if_rule_keeps scope depth t = then_respects _ _ (settle_respects _) (λ c. then_respects _ _ (settle_respects _) (λ ts. then_respects _ _ (operand_integer_keeps R accesses ev parts scope depth c) (λ x. branch_keeps scope depth ts _ _)))

  else_rule_keeps : (scope : List Seg) (depth : ℕ) (t : Tree) → Keeps R (else_rule ev scope depth t)
  unfolding else_rule
  else_rule_keeps scope depth t = then_respects _ _ (settle_respects _) (λ ts. in_turn_keeps R accesses ev parts scope depth ts)

  turn_of_keeps : (scope : List Seg) (depth : ℕ) (ts : Trees) (b : Bool) → Keeps R (turn_of ev scope depth ts b)
  turn_of_keeps scope depth ts true = in_turn_keeps R accesses ev parts scope depth ts
  turn_of_keeps scope depth ts false = give_respects _

  turn_keeps : (scope : List Seg) (depth : ℕ) (c : Tree) (ts : Trees) → Keeps R (turn ev scope depth c ts)
  unfolding turn
  turn_keeps scope depth c ts = then_respects _ _ (operand_integer_keeps R accesses ev parts scope depth c) (λ x. turn_of_keeps scope depth ts _)

  after_turn_keeps : (o : Option Flow) (k : Run S Flow) → Keeps R k → Keeps R (after_turn ev o k)
  after_turn_keeps None k h = h
  after_turn_keeps (Some f) k h = give_respects _

  turns_keeps : (k : ℕ) (scope : List Seg) (depth : ℕ) (c : Tree) (ts : Trees) → Keeps R (turns ev k scope depth c ts)
  unfolding turns
  turns_keeps zero scope depth c ts = stop_respects _
  turns_keeps (suc k) scope depth c ts = then_respects _ _ (turn_keeps scope depth c ts) (λ f. after_turn_keeps (loop_end f) _ (turns_keeps k scope depth c ts))

  loop_keeps : (scope : List Seg) (depth : ℕ) (c : Tree) (ts : Trees) → Keeps R (loop ev scope depth c ts)
  unfolding loop
  loop_keeps scope depth c ts = record { respects = λ s. (turns_keeps (suc s.1) scope depth c ts).respects s }

  while_rule_keeps : (scope : List Seg) (depth : ℕ) (t : Tree) → Keeps R (while_rule ev scope depth t)
  unfolding while_rule
  while_rule_keeps scope depth t = then_respects _ _ (settle_respects _) (λ c. then_respects _ _ (settle_respects _) (λ ts. loop_keeps scope depth c ts))

  return_rule_keeps : (scope : List Seg) (depth : ℕ) (t : Tree) → Keeps R (return_rule ev scope depth t)
  unfolding return_rule
  return_rule_keeps scope depth t = then_respects _ _ (value_at_keeps R accesses ev parts scope depth t 0) (λ v. give_respects _)

  pause_rule_keeps : (scope : List Seg) (depth : ℕ) (t : Tree) → Keeps R (pause_rule ev scope depth t)
  unfolding pause_rule
  pause_rule_keeps scope depth t = then_respects _ _ (value_at_keeps R accesses ev parts scope depth t 0) (λ v. give_respects _)

  fatal_rule_keeps : (scope : List Seg) (depth : ℕ) (t : Tree) → Keeps R (fatal_rule ev scope depth t)
  unfolding fatal_rule
  fatal_rule_keeps scope depth t = then_respects _ _ (value_at_keeps R accesses ev parts scope depth t 2) (λ v. stop_respects _)

  -- ---- calls

  arguments_in_turn_keeps : (scope : List Seg) (depth : ℕ) (ts : Trees) (done : List Value) → Keeps R (arguments_in_turn ev scope depth ts done)
  unfolding arguments_in_turn
  arguments_in_turn_keeps scope depth no_trees done = give_respects _
  arguments_in_turn_keeps scope depth (tree t ts) done = then_respects _ _ (operand_value_keeps R accesses ev parts scope depth t) (λ v. arguments_in_turn_keeps scope depth ts _)

  osi_rule_keeps : (scope : List Seg) (depth : ℕ) (ts : Trees) → Keeps R (osi_rule ev scope depth ts)
  unfolding osi_rule
  osi_rule_keeps scope depth ts = then_respects _ _ (arguments_in_turn_keeps scope depth ts _) (λ arguments. then_respects _ _ (lift_keeps R _) (λ few. then_respects _ _ (lift_keeps R _) (λ v. give_respects _)))

  invocation_rule_keeps : (scope : List Seg) (depth : ℕ) (ts : Trees) (i : Invocation) → Keeps R (invocation_rule accesses ev scope depth ts i)
  unfolding field_rule call_rule
  invocation_rule_keeps scope depth ts (invocations.Value v) = give_respects _
  invocation_rule_keeps scope depth ts (invocations.Field f) = then_respects _ _ (field_read_keeps R accesses ev parts depth f) (λ v. give_respects _)
  invocation_rule_keeps scope depth ts (invocations.Method q body) = then_respects _ _ (arguments_in_turn_keeps scope depth ts _) (λ arguments. invoked_keeps R accesses ev parts depth q body arguments)
  invocation_rule_keeps scope depth ts invocations.Osi = osi_rule_keeps scope depth ts

  name_value_keeps : (scope : List Seg) (depth : ℕ) (t : Tree) → Keeps R (name_value accesses ev scope depth t)
  unfolding name_value
  name_value_keeps scope depth t = then_respects _ _ (settle_respects _) (λ x. then_respects _ _ (settle_respects _) (λ ts. then_respects _ _ (lift_keeps R _) (invocation_rule_keeps scope depth ts)))

  -- ---- operation regions and fields

  pub region_rule_keeps : (scope : List Seg) (depth : ℕ) (t : Tree) → Keeps R (region_rule ev scope depth t)
  unfolding region_rule
  region_rule_keeps scope depth t =
      then_respects _ _ (settle_respects _) (λ space. then_respects _ _ (value_at_keeps R accesses ev parts scope depth t 2) (λ offset. then_respects _ _ (value_at_keeps R accesses ev parts scope depth t 3) (λ size. then_respects _ _ (lift_keeps R _) (λ x. then_respects _ _ (lift_keeps R _) (λ y. declaring_keeps scope depth t _ _)))))

  region_term_rule_keeps : (k : RegionKind) (scope : List Seg) (depth : ℕ) (t : Tree) → Keeps R (region_term_rule ev k scope depth t)
  unfolding field_list_rule index_list_rule fields_laid sized_field_rule bits_field_rule
  region_term_rule_keeps regions.OperationRegion scope depth t = region_rule_keeps scope depth t
  region_term_rule_keeps regions.Field scope depth t =
      then_respects _ _ (settle_respects _) (λ ts. then_respects _ _ (lift_keeps R _) (λ asked. then_respects _ _ (settle_respects _) (λ x. then_respects _ _ (lift_keeps R _) (λ region. then_respects _ _ (settle_respects _) (λ flags. then_respects _ _ (lift_keeps R _) (λ laid. give_respects _))))))
  region_term_rule_keeps regions.IndexField scope depth t =
      then_respects _ _ (settle_respects _) (λ ts. then_respects _ _ (lift_keeps R _) (λ asked. then_respects _ _ (settle_respects _) (λ x. then_respects _ _ (lift_keeps R _) (λ index. then_respects _ _ (settle_respects _) (λ y. then_respects _ _ (lift_keeps R _) (λ behind. then_respects _ _ (settle_respects _) (λ flags. then_respects _ _ (lift_keeps R _) (λ laid. give_respects _))))))))
  region_term_rule_keeps (regions.SizedBufferField size) scope depth t =
      then_respects _ _ (two_values_keeps R accesses ev parts scope depth t) (λ x. then_respects _ _ (settle_respects _) (λ o. then_respects _ _ (lift_keeps R _) (λ i. then_respects _ _ (lift_keeps R _) (λ b. declaring_keeps scope depth t _ _))))
  region_term_rule_keeps regions.BufferField scope depth t =
      then_respects _ _ (value_at_keeps R accesses ev parts scope depth t 0) (λ source. then_respects _ _ (value_at_keeps R accesses ev parts scope depth t 1) (λ index. then_respects _ _ (value_at_keeps R accesses ev parts scope depth t 2) (λ count. then_respects _ _ (settle_respects _) (λ o. then_respects _ _ (lift_keeps R _) (λ i. then_respects _ _ (lift_keeps R _) (λ n.
      then_respects _ _ (settle_respects _) (λ bits. then_respects _ _ (lift_keeps R _) (λ b. declaring_keeps scope depth t _ _))))))))

  -- ---- which rule

  if_held_keeps : (depth : ℕ) (x : Search) (o : Option Held) → Keeps R (if_held accesses ev depth x o)
  unfolding held_meets
  if_held_keeps depth x None = give_respects _
  if_held_keeps depth x (Some h) = then_respects _ _ (held_value_keeps R accesses ev parts depth h) (λ v. lift_keeps R _)

  found_or_keeps : (met : Bool) (i : ℕ) (k : Run S Flow) → Keeps R k → Keeps R (found_or met i k)
  found_or_keeps true i k h = give_respects _
  found_or_keeps false i k h = h

  searched_last_keeps : (depth : ℕ) (x : Search) (left : ℕ) → Keeps R (searched_last accesses ev depth x left)
  unfolding searched_last none_matches element_meets
  searched_last_keeps depth x zero = then_respects _ _ (lift_keeps R _) (λ v. give_respects _)
  searched_last_keeps depth x (suc n) = then_respects _ _ (then_respects _ _ (lift_keeps R _) (λ o. if_held_keeps depth x o)) (λ met. found_or_keeps met _ _ (searched_last_keeps depth x n))

  pub match_rule_keeps : (scope : List Seg) (depth : ℕ) (t : Tree) → Keeps R (match_rule accesses ev scope depth t)
  unfolding match_rule
  match_rule_keeps scope depth t =
      then_respects _ _ (value_at_keeps R accesses ev parts scope depth t 0) (λ p. then_respects _ _ (settle_respects _) (λ k. then_respects _ _ (value_at_keeps R accesses ev parts scope depth t 2) (λ a. then_respects _ _ (settle_respects _) (λ l. then_respects _ _ (value_at_keeps R accesses ev parts scope depth t 4) (λ b.
      then_respects _ _ (value_at_keeps R accesses ev parts scope depth t 5) (λ i. then_respects _ _ (lift_keeps R _) (λ x. searched_last_keeps depth x.search x.left)))))))

  bank_list_rule_keeps : (scope : List Seg) (depth : ℕ) (t : Tree) → Keeps R (bank_list_rule ev scope depth t)
  unfolding bank_list_rule banked_laid fields_laid
  bank_list_rule_keeps scope depth t =
      then_respects _ _ (settle_respects _) (λ x. then_respects _ _ (lift_keeps R _) (λ region. then_respects _ _ (settle_respects _) (λ y. then_respects _ _ (lift_keeps R _) (λ bank.
      then_respects _ _ (value_at_keeps R accesses ev parts scope depth t 2) (λ v. then_respects _ _ (settle_respects _) (λ flags. then_respects _ _ (settle_respects _) (λ ts.
      then_respects _ _ (lift_keeps R _) (λ n. then_respects _ _ (lift_keeps R _) (λ laid. give_respects _)))))))))

  -- ---- the rules whose operands name targets, and packages

  module _ (scope : List Seg) (depth : ℕ) (t : Tree) (aimed : (i : ℕ) → Keeps R (target_at ev scope depth t i)) (named : (e : Tree) → IsItem e (elements_of t) → code_of e ≡ codes.Name → Keeps R (named_element ev scope e)) where
    targeted_keeps : (i : ℕ) (v : Value) → Keeps R (targeted accesses ev scope depth t i v)
    unfolding targeted
    targeted_keeps i v = then_respects _ _ (aimed i) (λ q. then_respects _ _ (stored_to_keeps R accesses ev parts depth q v) (λ done. give_respects _))

    store_rule_keeps : Keeps R (store_rule accesses ev scope depth t)
    unfolding store_rule
    store_rule_keeps = then_respects _ _ (value_at_keeps R accesses ev parts scope depth t 0) (λ v. targeted_keeps 1 v)

    copy_rule_keeps : Keeps R (copy_rule accesses ev scope depth t)
    unfolding copy_rule
    copy_rule_keeps = then_respects _ _ (value_at_keeps R accesses ev parts scope depth t 0) (λ v. then_respects _ _ (aimed 1) (λ q. then_respects _ _ (lift_keeps R _) (λ s. then_respects _ _ (completed_keeps R accesses ev parts depth s v) (λ done. give_respects _))))

    two_rule_keeps : (k : TwoOperands) → Keeps R (two_rule accesses ev k scope depth t)
    unfolding two_rule
    two_rule_keeps k = then_respects _ _ (two_values_keeps R accesses ev parts scope depth t) (λ x. then_respects _ _ (lift_keeps R _) (λ r. targeted_keeps 2 r))

    divide_rule_keeps : Keeps R (divide_rule accesses ev scope depth t)
    unfolding divide_rule
    divide_rule_keeps = then_respects _ _ (two_values_keeps R accesses ev parts scope depth t) (λ x. then_respects _ _ (lift_keeps R _) (λ d. then_respects _ _ (targeted_keeps 2 _) (λ done. targeted_keeps 3 _)))

    one_rule_keeps : (k : OneOperand) → Keeps R (one_rule accesses ev k scope depth t)
    unfolding one_rule
    one_rule_keeps k = then_respects _ _ (value_at_keeps R accesses ev parts scope depth t 0) (λ v. then_respects _ _ (lift_keeps R _) (λ r. targeted_keeps 1 r))

    count_rule_keeps : (k : Count) → Keeps R (count_rule accesses ev k scope depth t)
    unfolding count_rule
    count_rule_keeps k = then_respects _ _ (aimed 0) (λ q. then_respects _ _ (lift_keeps R _) (λ h. then_respects _ _ (held_integer_keeps R accesses ev parts depth h) (λ x. then_respects _ _ (lift_keeps R _) (λ r. then_respects _ _ (stored_back_keeps R accesses ev parts depth h q r) (λ done. give_respects _)))))

    referent_of_target_keeps : Keeps R (referent_of_target accesses ev scope depth t)
    unfolding referent_of_target
    referent_of_target_keeps = then_respects _ _ (aimed 0) (λ q. lift_keeps R _)

    referent_by_kind_keeps : (u : Tree) (k : TargetKind) → Keeps R (referent_by_kind accesses ev scope depth t u k)
    referent_by_kind_keeps u target.RefOf = referent_of_value_keeps scope depth u
    referent_by_kind_keeps u target.DerefOf = referent_of_value_keeps scope depth u
    referent_by_kind_keeps u target.Index = referent_of_value_keeps scope depth u
    referent_by_kind_keeps u target.Nowhere = referent_of_target_keeps
    referent_by_kind_keeps u (target.Slot slot) = referent_of_target_keeps
    referent_by_kind_keeps u target.Other = referent_of_target_keeps

    referent_by_keeps : (o : Option Part) → Keeps R (referent_by accesses ev scope depth t o)
    referent_by_keeps None = referent_of_target_keeps
    referent_by_keeps (Some null) = referent_of_target_keeps
    referent_by_keeps (Some (name x)) = referent_of_target_keeps
    referent_by_keeps (Some (number k)) = referent_of_target_keeps
    referent_by_keeps (Some (bytes bs)) = referent_of_target_keeps
    referent_by_keeps (Some (inner u)) = referent_by_kind_keeps u _
    referent_by_keeps (Some (list ts)) = referent_of_target_keeps

    size_rule_keeps : Keeps R (size_rule accesses ev scope depth t)
    unfolding size_rule
    size_rule_keeps = then_respects _ _ (referent_by_keeps _) (λ r. then_respects _ _ (referent_read_keeps R accesses ev parts depth r) (λ s. then_respects _ _ (lift_keeps R _) (λ v. give_respects _)))

    type_rule_keeps : Keeps R (type_rule accesses ev scope depth t)
    unfolding type_rule
    type_rule_keeps = then_respects _ _ (referent_by_keeps _) (λ r. then_respects _ _ (referent_read_keeps R accesses ev parts depth r) (λ s. give_respects _))

    acquire_rule_keeps : Keeps R (acquire_rule accesses ev scope depth t)
    unfolding acquire_rule
    acquire_rule_keeps = then_respects _ _ (aimed 0) (λ q. then_respects _ _ (lift_keeps R _) (λ done. give_respects _))

    reference_rule_keeps : Keeps R (reference_rule accesses ev scope depth t)
    unfolding reference_rule
    reference_rule_keeps = then_respects _ _ (aimed 0) (λ q. then_respects _ _ (lift_keeps R _) (λ r. give_respects _))

    sought_target_keeps : Keeps R (sought_target accesses ev scope depth t)
    unfolding sought_target
    sought_target_keeps = then_respects _ _ (aimed 0) (λ q. then_respects _ _ (lift_keeps R _) (λ r. lift_keeps R _))

    sought_keeps : (o : Option Part) → Keeps R (sought accesses ev scope depth t o)
    sought_keeps None = sought_target_keeps
    sought_keeps (Some null) = sought_target_keeps
    sought_keeps (Some (name x)) = sought_name_keeps scope t
    sought_keeps (Some (number k)) = sought_target_keeps
    sought_keeps (Some (bytes bs)) = sought_target_keeps
    sought_keeps (Some (inner u)) = sought_target_keeps
    sought_keeps (Some (list ts)) = sought_target_keeps

    reference_found_keeps : (o : Option Reference) → Keeps R (reference_found accesses ev scope depth t o)
    unfolding reference_stored
    reference_found_keeps None = give_respects _
    reference_found_keeps (Some r) = then_respects _ _ (targeted_keeps 1 _) (λ done. then_respects _ _ (lift_keeps R _) (λ v. give_respects _))

    conditional_rule_keeps : Keeps R (conditional_rule accesses ev scope depth t)
    unfolding conditional_rule
    conditional_rule_keeps = then_respects _ _ (sought_keeps _) (λ o. reference_found_keeps o)

    operator_rule_keeps : (k : OperatorKind) → Keeps R (operator_rule accesses ev k scope depth t)
    operator_rule_keeps (operators.Slot slot) = slot_rule_keeps slot
    operator_rule_keeps operators.Store = store_rule_keeps
    operator_rule_keeps operators.CopyObject = copy_rule_keeps
    operator_rule_keeps (operators.Two k) = two_rule_keeps k
    operator_rule_keeps operators.Divide = divide_rule_keeps
    operator_rule_keeps (operators.One k) = one_rule_keeps k
    operator_rule_keeps (operators.Test k) = test_rule_keeps k scope depth t
    operator_rule_keeps operators.LNot = lnot_rule_keeps scope depth t
    operator_rule_keeps (operators.Count k) = count_rule_keeps k
    operator_rule_keeps operators.SizeOf = size_rule_keeps
    operator_rule_keeps operators.ObjectType = type_rule_keeps
    operator_rule_keeps operators.Acquire = acquire_rule_keeps
    operator_rule_keeps operators.RefOf = reference_rule_keeps
    operator_rule_keeps operators.CondRefOf = conditional_rule_keeps
    operator_rule_keeps operators.DerefOf = dereference_rule_keeps scope depth t

    release_rule_keeps : Keeps R (release_rule ev scope depth t)
    unfolding release_rule
    release_rule_keeps = then_respects _ _ (aimed 0) (λ q. then_respects _ _ (lift_keeps R _) (λ done. give_respects _))

    notify_rule_keeps : Keeps R (notify_rule ev scope depth t)
    unfolding notify_rule
    notify_rule_keeps = then_respects _ _ (aimed 0) (λ q. then_respects _ _ (value_at_keeps R accesses ev parts scope depth t 1) (λ v. give_respects _))

    statement_rule_keeps : (k : StatementKind) → Keeps R (statement_rule ev k scope depth t)
    statement_rule_keeps statements.If = if_rule_keeps scope depth t
    statement_rule_keeps statements.Else = else_rule_keeps scope depth t
    statement_rule_keeps statements.While = while_rule_keeps scope depth t
    statement_rule_keeps statements.Break = give_respects _
    statement_rule_keeps statements.Continue = give_respects _
    statement_rule_keeps statements.Noop = give_respects _
    statement_rule_keeps statements.Return = return_rule_keeps scope depth t
    statement_rule_keeps statements.Release = release_rule_keeps
    statement_rule_keeps statements.Notify = notify_rule_keeps
    statement_rule_keeps statements.Pause = pause_rule_keeps scope depth t
    statement_rule_keeps statements.Fatal = fatal_rule_keeps scope depth t

    -- an element of a package, which may be a name
    element_by_keeps : (e : Tree) → IsItem e (elements_of t) → (c : TermCode) → code_of e ≡ c → Keeps R (element_by ev c scope depth e)
    unfolding valued_element
    element_by_keeps e item codes.Name is = named e item is
    element_by_keeps e item (codes.Opcode op) is = then_respects _ _ (operand_value_keeps R accesses ev parts scope depth e) (λ v. give_respects _)
    element_by_keeps e item codes.MethodInvocation is = then_respects _ _ (operand_value_keeps R accesses ev parts scope depth e) (λ v. give_respects _)
    element_by_keeps e item codes.NamedField is = then_respects _ _ (operand_value_keeps R accesses ev parts scope depth e) (λ v. give_respects _)
    element_by_keeps e item codes.ReservedField is = then_respects _ _ (operand_value_keeps R accesses ev parts scope depth e) (λ v. give_respects _)
    element_by_keeps e item codes.AccessField is = then_respects _ _ (operand_value_keeps R accesses ev parts scope depth e) (λ v. give_respects _)
    element_by_keeps e item codes.ExtendedAccessField is = then_respects _ _ (operand_value_keeps R accesses ev parts scope depth e) (λ v. give_respects _)
    element_by_keeps e item codes.ConnectField is = then_respects _ _ (operand_value_keeps R accesses ev parts scope depth e) (λ v. give_respects _)

    elements_in_turn_keeps : (k : ℕ) (ts : Trees) (done : List Element) → ((e : Tree) → IsItem e ts → IsItem e (elements_of t)) → Keeps R (elements_in_turn ev scope depth k ts done)
    unfolding elements_in_turn
    elements_in_turn_keeps zero ts done items = give_respects _
    elements_in_turn_keeps (suc k) no_trees done items = give_respects _
    elements_in_turn_keeps (suc k) (tree e ts) done items = then_respects _ _ (element_by_keeps e (items e (first ts)) (code_of e) refl) (λ x. elements_in_turn_keeps k ts _ (λ y there. items y (later e ts there)))

    package_of_keeps : (k : ℕ) (ts : Trees) → list_of (operand_of t 1) ≡ Ok ts → Keeps R (package_of ev scope depth k ts)
    unfolding package_of
    package_of_keeps k ts is = then_respects _ _ (elements_in_turn_keeps k ts [] (λ e there. subst (IsItem e) (sym (ap listed is)) there)) (λ es. then_respects _ _ (lift_keeps R _) (λ v. give_respects _))

    package_rule_keeps : Keeps R (package_rule ev scope depth t)
    unfolding package_rule
    package_rule_keeps = then_respects _ _ (settle_respects _) (λ k. settle_then_respects _ _ (λ ts is. package_of_keeps k ts is))

    var_package_rule_keeps : Keeps R (var_package_rule ev scope depth t)
    unfolding var_package_rule
    var_package_rule_keeps = then_respects _ _ (settle_respects _) (λ size. then_respects _ _ (operand_integer_keeps R accesses ev parts scope depth size) (λ k. then_respects _ _ (lift_keeps R _) (λ u. settle_then_respects _ _ (λ ts is. package_of_keeps k ts is))))

    data_rule_keeps : (k : DataKind) → Keeps R (data_rule ev k scope depth t)
    data_rule_keeps (datas.Constant k) = constant_rule_keeps k
    data_rule_keeps datas.Integer = integer_rule_keeps t
    data_rule_keeps datas.String = string_rule_keeps t
    data_rule_keeps datas.Buffer = buffer_rule_keeps scope depth t
    data_rule_keeps datas.Package = package_rule_keeps
    data_rule_keeps datas.VarPackage = var_package_rule_keeps

    formed_at_keeps : (i : ℕ) (v : Value) → Keeps R (formed_at accesses ev scope depth t i v)
    unfolding formed_at
    formed_at_keeps i v = then_respects _ _ (aimed i) (λ q. then_respects _ _ (lift_keeps R _) (λ s. then_respects _ _ (completed_keeps R accesses ev parts depth s v) (λ done. give_respects _)))

    convert_rule_keeps : (k : Conversion) → Keeps R (convert_rule accesses ev k scope depth t)
    unfolding convert_rule
    convert_rule_keeps k = then_respects _ _ (value_at_keeps R accesses ev parts scope depth t 0) (λ v. then_respects _ _ (lift_keeps R _) (λ r. formed_at_keeps 1 r))

    to_string_rule_keeps : Keeps R (to_string_rule accesses ev scope depth t)
    unfolding to_string_rule
    to_string_rule_keeps = then_respects _ _ (two_values_keeps R accesses ev parts scope depth t) (λ y. then_respects _ _ (lift_keeps R _) (λ r. formed_at_keeps 2 r))

    middle_rule_keeps : Keeps R (middle_rule accesses ev scope depth t)
    unfolding middle_rule
    middle_rule_keeps = then_respects _ _ (two_values_keeps R accesses ev parts scope depth t) (λ y. then_respects _ _ (value_at_keeps R accesses ev parts scope depth t 2) (λ n. then_respects _ _ (lift_keeps R _) (λ r. targeted_keeps 3 r)))

    pub event_rule_keeps : (k : EventChange) → Keeps R (event_rule accesses ev k scope depth t)
    unfolding event_rule
    event_rule_keeps k = then_respects _ _ (aimed 0) (λ q. then_respects _ _ (lift_keeps R _) (λ e. then_respects _ _ (lift_keeps R _) (λ done. give_respects _)))

    pub wait_rule_keeps : Keeps R (wait_rule accesses ev scope depth t)
    unfolding wait_rule
    wait_rule_keeps = then_respects _ _ (aimed 0) (λ q. then_respects _ _ (lift_keeps R _) (λ e. then_respects _ _ (value_at_keeps R accesses ev parts scope depth t 1) (λ v. then_respects _ _ (lift_keeps R _) (λ r. give_respects _))))

    wide_rule_keeps : (k : WideKind) → Keeps R (wide_rule accesses ev k scope depth t)
    wide_rule_keeps (wides.Convert k) = convert_rule_keeps k
    wide_rule_keeps wides.ToString = to_string_rule_keeps
    wide_rule_keeps wides.Mid = middle_rule_keeps
    wide_rule_keeps wides.Match = match_rule_keeps scope depth t
    wide_rule_keeps (wides.Event k) = event_rule_keeps k
    wide_rule_keeps wides.Wait = wait_rule_keeps
    wide_rule_keeps wides.BankField = bank_list_rule_keeps scope depth t

    -- the profile is asked first
    pub in_wide_keeps : (op : Opcode) (k : WideKind) → Keeps R (in_wide op (wide_rule accesses ev k scope depth t))
    in_wide_keeps op k = then_respects _ _ (lift_keeps R _) (λ wide. wide_rule_keeps k)

    kind_rule_keeps : (k : TermKind) (op : Opcode) → Keeps R (kind_rule accesses ev k op scope depth t)
    kind_rule_keeps (kinds.Data k) op = data_rule_keeps k
    kind_rule_keeps (kinds.Declaration k) op = declaration_rule_keeps k scope depth t
    kind_rule_keeps (kinds.Region k) op = region_term_rule_keeps k scope depth t
    kind_rule_keeps (kinds.Operator k) op = operator_rule_keeps k
    kind_rule_keeps (kinds.Statement k) op = statement_rule_keeps k
    kind_rule_keeps (kinds.Wide k) op = in_wide_keeps op k
    kind_rule_keeps kinds.Unsupported op = stop_respects _

    code_rule_keeps : (c : TermCode) → Keeps R (code_rule accesses ev c scope depth t)
    code_rule_keeps (codes.Opcode op) = kind_rule_keeps (kind_of op) op
    code_rule_keeps codes.MethodInvocation = name_value_keeps scope depth t
    code_rule_keeps codes.Name = stop_respects _
    code_rule_keeps codes.NamedField = stop_respects _
    code_rule_keeps codes.ReservedField = stop_respects _
    code_rule_keeps codes.AccessField = stop_respects _
    code_rule_keeps codes.ExtendedAccessField = stop_respects _
    code_rule_keeps codes.ConnectField = stop_respects _

  pub rule_keeps : (t : Task) → ((i : ℕ) → Keeps R (target_at ev t.scope t.depth t.term i)) → ((e : Tree) → IsItem e (elements_of t.term) → code_of e ≡ codes.Name → Keeps R (named_element ev t.scope e)) → Keeps R (rule accesses ev t)
  unfolding rule
  rule_keeps t aimed named = code_rule_keeps t.scope t.depth t.term aimed named (code_of t.term)
