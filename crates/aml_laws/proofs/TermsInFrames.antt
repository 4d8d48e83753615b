-- The rule of each term comes to the same, whatever its parts do where more than 33 frames stand.
use Rattle.std.specs.Prelude.{ℕ, zero, suc, ◌≤◌, ◌+◌, ◌-◌, List, [], Bool, true, false, Option, Some, None, if◌then◌else◌}
use Rattle.std.proofs.Common.{arith, ap}
use Rattle.ar_space.specs.Accesses.{Accesses}
use Rattle.ar_space.specs.Change.{give}
use Rattle.aml_path.specs.declared.segment.Seg.{Seg}
use Rattle.aml_grammar.specs.declared.opcode.Opcode.{Opcode}
use Rattle.aml_grammar.specs.declared.opcode.TermCode.{TermCode}
use Rattle.aml_grammar.specs.declared.opcode.TermCode.TheVariants as codes
use Rattle.aml_grammar.specs.Tree.{Tree, term, Part, null, name, number, bytes, inner, list, Parts, no_parts, part, Trees, no_trees, tree}
use Rattle.aml_grammar.specs.Apart.{code_of, operand_of}
use Rattle.aml_objects.specs.declared.value.Value.{Value}
use Rattle.aml_objects.specs.declared.value.Slot.{Slot}
use Rattle.aml_objects.specs.declared.object.Element.{Element}
use Rattle.aml_objects.specs.declared.entry.NamedObject.{NamedObject}
use Rattle.aml_world.specs.state.State.{State}
use Rattle.aml_world.specs.state.Run.{Run}
use Rattle.aml_world.specs.state.Readings.{absolute}
use Rattle.aml_world.specs.declared.values.operation_kind.OneOperand.{OneOperand}
use Rattle.aml_world.specs.declared.values.operation_kind.TwoOperands.{TwoOperands}
use Rattle.aml_world.specs.declared.values.operation_kind.Test.{Test}
use Rattle.aml_world.specs.declared.values.operation_kind.Count.{Count}
use Rattle.aml_world.specs.declared.state.invocation.Invocation.{Invocation}
use Rattle.aml_world.specs.declared.state.invocation.Invocation.TheVariants as invocations
use Rattle.aml_world.specs.declared.values.store_target.StoreTarget.{StoreTarget}
use Rattle.aml_world.specs.declared.values.store_target.Held.{Held}
use Rattle.aml_world.specs.declared.values.object_type.Referent.{Referent}
use Rattle.aml_world.specs.declared.values.object_type.Referent.TheVariants as referent
use Rattle.aml_world.specs.declared.values.store_target.Held.TheVariants as held
use Rattle.aml_world.specs.declared.values.store_target.Stored.{Stored}
use Rattle.aml_world.specs.declared.values.store_target.Stored.TheVariants as store
use Rattle.aml_world.specs.values.StoreTargets.{is_element}
use Rattle.aml_world.specs.declared.values.operation_kind.Conversion.{Conversion}
use Rattle.aml_world.specs.declared.values.operation_kind.EventChange.{EventChange}
use Rattle.aml_world.specs.declared.values.searches.Search.{Search}
use Rattle.aml_meaning.specs.declared.flow.Flow.{Flow}
use Rattle.aml_meaning.specs.declared.term_kind.TermKind.{TermKind}
use Rattle.aml_meaning.specs.declared.term_kind.TermKind.TheVariants as kinds
use Rattle.aml_meaning.specs.Terms.{kind_of, target_kind, count_of}
use Rattle.aml_objects.specs.declared.value.Reference.{Reference}
use Rattle.aml_meaning.specs.declared.term_kind.DataKind.{DataKind}
use Rattle.aml_meaning.specs.declared.term_kind.DataKind.TheVariants as datas
use Rattle.aml_meaning.specs.declared.term_kind.DeclarationKind.{DeclarationKind}
use Rattle.aml_meaning.specs.declared.term_kind.DeclarationKind.TheVariants as declarations
use Rattle.aml_meaning.specs.declared.term_kind.OperatorKind.{OperatorKind}
use Rattle.aml_meaning.specs.declared.term_kind.OperatorKind.TheVariants as operators
use Rattle.aml_meaning.specs.declared.term_kind.StatementKind.{StatementKind}
use Rattle.aml_meaning.specs.declared.term_kind.StatementKind.TheVariants as statements
use Rattle.aml_objects.specs.declared.entry.Field.{Field}
use Rattle.aml_meaning.specs.declared.term_kind.TargetKind.{TargetKind}
use Rattle.aml_meaning.specs.declared.term_kind.TargetKind.TheVariants as target
use Rattle.aml_meaning.specs.declared.term_kind.RegionKind.{RegionKind}
use Rattle.aml_meaning.specs.declared.term_kind.RegionKind.TheVariants as regions
use Rattle.aml_meaning.specs.Tasks.{Task, operand_value, value_at, two_values, operand_integer, goes_on, in_turn}
use Rattle.aml_meaning.specs.DataTerms.{constant_rule, integer_rule, string_rule, buffer_rule, named_element, valued_element, element_by, elements_in_turn, package_of, package_rule, var_package_rule, data_rule}
use Rattle.aml_meaning.specs.DeclarationTerms.{declaring, name_rule, alias_rule, method_rule, scope_rule, new_scope, declaration_rule}
use Rattle.aml_meaning.specs.TargetTerms.{name_target, indexed_target, dereferenced_target, target_by_kind, target_of, first_target, part_target, target_by, target_at, targeted}
use Rattle.aml_meaning.specs.OperatorTerms.{slot_rule, store_rule, copy_rule, two_rule, divide_rule, one_rule, test_rule, lnot_rule, count_rule, referent_of_value, referent_of_target, referent_by_kind, referent_by, size_rule, type_rule, acquire_rule, reference_rule, dereference_rule, sought_name, sought_target, sought, reference_stored, reference_found, conditional_rule, operator_rule}
use Rattle.aml_meaning.specs.StatementTerms.{otherwise, branch, if_rule, else_rule, turn_of, turn, loop_end, after_turn, turns, loop, while_rule, return_rule, release_rule, notify_rule, pause_rule, fatal_rule, statement_rule}
use Rattle.aml_meaning.specs.Calls.{frame_arguments, invoked, method_value}
use Rattle.aml_meaning.specs.InvocationTerms.{arguments_in_turn, call_rule, osi_rule, field_rule, invocation_rule, name_value}
use Rattle.aml_meaning.specs.FieldCalls.{asked, method_integer, answer_over, answer_within, called_at, field_read, held_value, held_integer, referent_read, completed, stored_to, back_to, stored_back}
use Rattle.aml_meaning.specs.FieldTerms.{fields_laid, region_rule, field_list_rule, index_list_rule, sized_field_rule, bits_field_rule, region_term_rule}
use Rattle.aml_meaning.specs.declared.term_kind.WideKind.{WideKind}
use Rattle.aml_meaning.specs.declared.term_kind.WideKind.TheVariants as wides
use Rattle.aml_meaning.specs.MatchTerms.{held_meets, if_held, element_meets, found_or, none_matches, searched_last, match_rule}
use Rattle.aml_meaning.specs.BankTerms.{banked_laid, bank_list_rule}
use Rattle.aml_meaning.specs.WideTerms.{formed_at, convert_rule, to_string_rule, middle_rule, event_rule, wait_rule, wide_rule}
use Rattle.aml_meaning.specs.Evaluation.{kind_rule, code_rule, rule}
use Rattle.aml_laws.proofs.ObjectKinds.{make_string_keeps_kinds, new_buffer_field_keeps_kinds}
use Rattle.aml_laws.proofs.WorldRelations.{on_objects_preserves}
use Rattle.aml_laws.proofs.ChangesPreserve.{body_terms_preserves, call_allowed_preserves, counted_by_preserves, divided_in_preserves, integer_in_preserves, integer_kept_preserves, new_buffer_preserves, new_method_preserves, new_name_preserves, new_package_preserves, osi_answered_preserves, path_found_preserves, result_of_one_preserves, result_of_test_preserves, result_of_two_preserves, scope_found_preserves, size_in_preserves, target_named_preserves, lnot_preserves, within_preserves, invocation_found_finds_invocation}
use Rattle.aml_laws.proofs.StoreTargetsPreserve.{acquired_at_preserves, copied_to_preserves, dereferenced_preserves, given_back_at_preserves, if_initialized_preserves, reference_if_found_preserves, reference_of_preserves, slot_read_preserves, stored_preserves, target_read_preserves, target_referent_preserves, tested_preserves, value_referent_preserves}
use Rattle.aml_laws.proofs.FieldsPreserve.{elements_laid_preserves, field_found_preserves, region_found_preserves}
use Rattle.aml_laws.proofs.EventsPreserve.{event_changed_preserves, event_named_preserves, waited_preserves}
use Rattle.aml_laws.proofs.MatchesPreserve.{element_held_preserves, search_begun_preserves, value_meets_preserves}
use Rattle.aml_laws.proofs.WideTermsPreserve.{asked_for_preserves, connections_asked_preserves, converted_preserves, formed_to_preserves, middle_in_preserves, string_in_preserves}
use Rattle.aml_laws.proofs.InFrames.{InFrames, give_in_frames, stop_in_frames, settle_in_frames, lift_in_frames, still_in_frames, charge_in_frames, then_in_frames, deeper_in_frames, body_in_frames, allowed_in_frames, item_in_frames}
use Rattle.aml_laws.proofs.FieldsInFrames.{field_value_in_frames, field_integer_in_frames, field_part_in_frames, field_referent_in_frames, field_stored_in_frames}

module _ {S : Type 0} (accesses : Accesses S) (ev ew : Task → Run S Flow) (parts : (t : Task) → InFrames t.depth (ev t) (ew t)) where
  operand_value_in_frames : (scope : List Seg) (depth : ℕ) (t : Tree) → InFrames depth (operand_value ev scope depth t) (operand_value ew scope depth t)
  unfolding operand_value
  operand_value_in_frames scope depth t = then_in_frames _ _ _ _ (parts _) (λ f. settle_in_frames _)

  after_in_frames : {depth : ℕ} (go : Bool) (f : Flow) (m k : Run S Flow) → InFrames depth m k → InFrames depth (if go then m else give f) (if go then k else give f)
  after_in_frames true f m k h = h
  after_in_frames false f m k h = give_in_frames _

  pub in_turn_in_frames : (scope : List Seg) (depth : ℕ) (ts : Trees) → InFrames depth (in_turn ev scope depth ts) (in_turn ew scope depth ts)
  unfolding in_turn
  in_turn_in_frames scope depth no_trees = give_in_frames _
  in_turn_in_frames scope depth (tree t ts) = then_in_frames _ _ _ _ (item_in_frames ev ew parts scope depth t) (λ f. after_in_frames (goes_on f) f _ _ (in_turn_in_frames scope depth ts))

  pub invoked_in_frames : (depth : ℕ) (p : List Seg) (body : List ℕ) (arguments : List Value) → InFrames depth (invoked ev depth p body arguments) (invoked ew depth p body arguments)
  unfolding invoked
  invoked_in_frames depth p body arguments =
      allowed_in_frames accesses depth _ _ (λ less. then_in_frames _ _ _ _ (lift_in_frames accesses _ (body_terms_preserves p body)) (λ ts. body_in_frames depth (frame_arguments arguments) p (in_turn ev p (depth + 1) ts) (in_turn ew p (depth + 1) ts) (in_turn_in_frames p (depth + 1) ts) less))

  method_value_in_frames : (depth : ℕ) (p : List Seg) (body : List ℕ) (arguments : List Value) → InFrames depth (method_value ev depth p body arguments) (method_value ew depth p body arguments)
  unfolding method_value
  method_value_in_frames depth p body arguments = then_in_frames _ _ _ _ (invoked_in_frames depth p body arguments) (λ f. give_in_frames _)

  -- ---- field units

  asked_in_frames : {depth : ℕ} (answer other : Invocation → Run S ℕ) → ((i : Invocation) → InFrames depth (answer i) (other i)) → (p : List Seg) → InFrames depth (asked answer p) (asked other p)
  unfolding asked
  asked_in_frames answer other alike p = then_in_frames _ _ _ _ (still_in_frames _ (λ w. ap (λ (v : State S). v.frames) ((invocation_found_finds_invocation [] (absolute p) 0).same w))) (λ i. alike i)

  answer_over_in_frames : (depth k : ℕ) → depth ≤ 31 - k → (call other : List Seg → Run S ℕ) → ((p : List Seg) → InFrames depth (call p) (other p)) → (i : Invocation) → InFrames depth (answer_over accesses ev k call i) (answer_over accesses ew k other i)
  unfolding method_integer
  answer_over_in_frames depth k le call other alike (invocations.Value v) = settle_in_frames _
  answer_over_in_frames depth k le call other alike (invocations.Field u) = field_part_in_frames accesses call other alike u
  answer_over_in_frames depth k le call other alike (invocations.Method p body) = then_in_frames _ _ _ _ (deeper_in_frames depth (31 - k) _ _ le (omega arith) (method_value_in_frames (31 - k) p body [])) (λ v. settle_in_frames _)
  answer_over_in_frames depth k le call other alike invocations.Osi = stop_in_frames _

  -- within no more calls than are left
  answer_within_in_frames : (depth k : ℕ) → k ≤ 32 - depth → (i : Invocation) → InFrames depth (answer_within accesses ev k i) (answer_within accesses ew k i)
  unfolding answer_within
  answer_within_in_frames depth zero le i = stop_in_frames _
  answer_within_in_frames depth (suc k) le i = then_in_frames _ _ _ _ (lift_in_frames accesses _ (call_allowed_preserves _)) (λ few. answer_over_in_frames depth k (omega (arith, le)) _ _ (asked_in_frames _ _ (answer_within_in_frames depth k (omega (arith, le)))) i)

  called_at_in_frames : (depth : ℕ) (p : List Seg) → InFrames depth (called_at accesses ev depth p) (called_at accesses ew depth p)
  called_at_in_frames depth p = asked_in_frames _ _ (answer_within_in_frames depth (32 - depth) (omega arith)) p

  field_read_in_frames : (depth : ℕ) (u : Field) → InFrames depth (field_read accesses ev depth u) (field_read accesses ew depth u)
  field_read_in_frames depth u = field_value_in_frames accesses _ _ (called_at_in_frames depth) u

  held_integer_in_frames : (depth : ℕ) (h : Held) → InFrames depth (held_integer accesses ev depth h) (held_integer accesses ew depth h)
  held_integer_in_frames depth (held.Value v) = lift_in_frames accesses _ (integer_in_preserves v)
  held_integer_in_frames depth (held.Field u) = field_integer_in_frames accesses _ _ (called_at_in_frames depth) u

  referent_read_in_frames : (depth : ℕ) (r : Referent) → InFrames depth (referent_read accesses ev depth r) (referent_read accesses ew depth r)
  referent_read_in_frames depth (referent.Value v) = give_in_frames _
  referent_read_in_frames depth (referent.Object t) = give_in_frames _
  referent_read_in_frames depth (referent.Field u) = field_referent_in_frames accesses _ _ (called_at_in_frames depth) u
  referent_read_in_frames depth (referent.Bytes n) = give_in_frames _

  completed_in_frames : (depth : ℕ) (s : Stored) (v : Value) → InFrames depth (completed accesses ev depth s v) (completed accesses ew depth s v)
  completed_in_frames depth store.Done v = give_in_frames _
  completed_in_frames depth (store.Field u) v = field_stored_in_frames accesses _ _ (called_at_in_frames depth) u v

  stored_to_in_frames : (depth : ℕ) (p : StoreTarget) (v : Value) → InFrames depth (stored_to accesses ev depth p v) (stored_to accesses ew depth p v)
  unfolding stored_to
  stored_to_in_frames depth p v = then_in_frames _ _ _ _ (lift_in_frames accesses _ (stored_preserves p v)) (λ s. completed_in_frames depth s v)

  back_to_in_frames : (b : Bool) (depth : ℕ) (h : Held) (p : StoreTarget) (v : Value) → InFrames depth (back_to accesses ev b depth h p v) (back_to accesses ew b depth h p v)
  back_to_in_frames true depth h p v = stored_to_in_frames depth p v
  back_to_in_frames false depth (held.Value old) p v = stored_to_in_frames depth p v
  back_to_in_frames false depth (held.Field u) p v = field_stored_in_frames accesses _ _ (called_at_in_frames depth) u v

  stored_back_in_frames : (depth : ℕ) (h : Held) (p : StoreTarget) (v : Value) → InFrames depth (stored_back accesses ev depth h p v) (stored_back accesses ew depth h p v)
  stored_back_in_frames depth h p v = back_to_in_frames (is_element p) depth h p v

  held_value_in_frames : (depth : ℕ) (h : Held) → InFrames depth (held_value accesses ev depth h) (held_value accesses ew depth h)
  held_value_in_frames depth (held.Value v) = give_in_frames _
  held_value_in_frames depth (held.Field u) = field_read_in_frames depth u

  constant_rule_in_frames : {depth : ℕ} (k : ℕ) → InFrames depth (constant_rule ev k) (constant_rule ew k)
  unfolding constant_rule
  constant_rule_in_frames k = then_in_frames _ _ _ _ (lift_in_frames accesses _ (integer_kept_preserves k)) (λ v. give_in_frames _)

  operand_integer_in_frames : (scope : List Seg) (depth : ℕ) (t : Tree) → InFrames depth (operand_integer ev scope depth t) (operand_integer ew scope depth t)
  unfolding operand_integer
  operand_integer_in_frames scope depth t = then_in_frames _ _ _ _ (operand_value_in_frames scope depth t) (λ v. lift_in_frames accesses _ (integer_in_preserves v))

  buffer_rule_in_frames : (scope : List Seg) (depth : ℕ) (t : Tree) → InFrames depth (buffer_rule ev scope depth t) (buffer_rule ew scope depth t)
  unfolding buffer_rule
  buffer_rule_in_frames scope depth t = then_in_frames _ _ _ _ (settle_in_frames _) (λ size. then_in_frames _ _ _ _ (operand_integer_in_frames scope depth size) (λ k. then_in_frames _ _ _ _ (settle_in_frames _) (λ bytes. then_in_frames _ _ _ _ (lift_in_frames accesses _ (new_buffer_preserves k bytes)) (λ v. give_in_frames _))))

  named_element_in_frames : {depth : ℕ} (scope : List Seg) (t : Tree) → InFrames depth (named_element ev scope t) (named_element ew scope t)
  unfolding named_element
  named_element_in_frames scope t = then_in_frames _ _ _ _ (charge_in_frames accesses) (λ u. then_in_frames _ _ _ _ (settle_in_frames _) (λ x. give_in_frames _))

  valued_element_in_frames : (scope : List Seg) (depth : ℕ) (t : Tree) → InFrames depth (valued_element ev scope depth t) (valued_element ew scope depth t)
  unfolding valued_element
  valued_element_in_frames scope depth t = then_in_frames _ _ _ _ (operand_value_in_frames scope depth t) (λ v. give_in_frames _)

  element_by_in_frames : (c : TermCode) (scope : List Seg) (depth : ℕ) (t : Tree) → InFrames depth (element_by ev c scope depth t) (element_by ew c scope depth t)
  element_by_in_frames codes.Name scope depth t = named_element_in_frames scope t
  element_by_in_frames (codes.Opcode op) scope depth t = valued_element_in_frames scope depth t
  element_by_in_frames codes.MethodInvocation scope depth t = valued_element_in_frames scope depth t
  element_by_in_frames codes.NamedField scope depth t = valued_element_in_frames scope depth t
  element_by_in_frames codes.ReservedField scope depth t = valued_element_in_frames scope depth t
  element_by_in_frames codes.AccessField scope depth t = valued_element_in_frames scope depth t
  element_by_in_frames codes.ExtendedAccessField scope depth t = valued_element_in_frames scope depth t
  element_by_in_frames codes.ConnectField scope depth t = valued_element_in_frames scope depth t

  elements_in_turn_in_frames : (scope : List Seg) (depth k : ℕ) (ts : Trees) (done : List Element) → InFrames depth (elements_in_turn ev scope depth k ts done) (elements_in_turn ew scope depth k ts done)
  unfolding elements_in_turn
  elements_in_turn_in_frames scope depth zero ts done = give_in_frames _
  elements_in_turn_in_frames scope depth (suc k) no_trees done = give_in_frames _
  elements_in_turn_in_frames scope depth (suc k) (tree t ts) done = then_in_frames _ _ _ _ (element_by_in_frames (code_of t) scope depth t) (λ e. elements_in_turn_in_frames scope depth k ts _)

  package_of_in_frames : (scope : List Seg) (depth k : ℕ) (ts : Trees) → InFrames depth (package_of ev scope depth k ts) (package_of ew scope depth k ts)
  unfolding package_of
  package_of_in_frames scope depth k ts = then_in_frames _ _ _ _ (elements_in_turn_in_frames scope depth k ts _) (λ es. then_in_frames _ _ _ _ (lift_in_frames accesses _ (new_package_preserves k es)) (λ v. give_in_frames _))

  package_rule_in_frames : (scope : List Seg) (depth : ℕ) (t : Tree) → InFrames depth (package_rule ev scope depth t) (package_rule ew scope depth t)
  unfolding package_rule
  package_rule_in_frames scope depth t = then_in_frames _ _ _ _ (settle_in_frames _) (λ k. then_in_frames _ _ _ _ (settle_in_frames _) (λ ts. package_of_in_frames scope depth k ts))

  var_package_rule_in_frames : (scope : List Seg) (depth : ℕ) (t : Tree) → InFrames depth (var_package_rule ev scope depth t) (var_package_rule ew scope depth t)
  unfolding var_package_rule
  var_package_rule_in_frames scope depth t = then_in_frames _ _ _ _ (settle_in_frames _) (λ size. then_in_frames _ _ _ _ (operand_integer_in_frames scope depth size) (λ k. then_in_frames _ _ _ _ (lift_in_frames accesses _ (within_preserves _ k)) (λ u. then_in_frames _ _ _ _ (settle_in_frames _) (λ ts. package_of_in_frames scope depth k ts))))

  declaring_in_frames : (scope : List Seg) (depth : ℕ) (t : Tree) (position : ℕ) (o : NamedObject) → InFrames depth (declaring ev scope depth t position o) (declaring ew scope depth t position o)
  unfolding declaring
  declaring_in_frames scope depth t position o = then_in_frames _ _ _ _ (settle_in_frames _) (λ x. then_in_frames _ _ _ _ (settle_in_frames _) (λ p. then_in_frames _ _ _ _ (lift_in_frames accesses _ (new_name_preserves _ p o)) (λ u. give_in_frames _)))

  name_rule_in_frames : (scope : List Seg) (depth : ℕ) (t : Tree) → InFrames depth (name_rule ev scope depth t) (name_rule ew scope depth t)
  unfolding name_rule
  name_rule_in_frames scope depth t = then_in_frames _ _ _ _ (settle_in_frames _) (λ d. then_in_frames _ _ _ _ (operand_value_in_frames scope depth d) (λ v. declaring_in_frames scope depth t _ _))

  new_scope_in_frames : (o : NamedObject) (place : ℕ) (scope : List Seg) (depth : ℕ) (t : Tree) → InFrames depth (new_scope ev o place scope depth t) (new_scope ew o place scope depth t)
  unfolding new_scope
  new_scope_in_frames o place scope depth t = then_in_frames _ _ _ _ (settle_in_frames _) (λ x. then_in_frames _ _ _ _ (settle_in_frames _) (λ p. then_in_frames _ _ _ _ (lift_in_frames accesses _ (new_name_preserves _ p o)) (λ u. then_in_frames _ _ _ _ (settle_in_frames _) (λ ts. in_turn_in_frames p depth ts))))

  scope_rule_in_frames : (scope : List Seg) (depth : ℕ) (t : Tree) → InFrames depth (scope_rule ev scope depth t) (scope_rule ew scope depth t)
  unfolding scope_rule
  scope_rule_in_frames scope depth t = then_in_frames _ _ _ _ (settle_in_frames _) (λ x. then_in_frames _ _ _ _ (lift_in_frames accesses _ (scope_found_preserves scope x)) (λ p. then_in_frames _ _ _ _ (settle_in_frames _) (λ ts. in_turn_in_frames p depth ts)))

  alias_rule_in_frames : (scope : List Seg) (depth : ℕ) (t : Tree) → InFrames depth (alias_rule ev scope depth t) (alias_rule ew scope depth t)
  unfolding alias_rule
  alias_rule_in_frames scope depth t = then_in_frames _ _ _ _ (settle_in_frames _) (λ x. then_in_frames _ _ _ _ (lift_in_frames accesses _ (path_found_preserves scope x)) (λ target. then_in_frames _ _ _ _ (settle_in_frames _) (λ y. then_in_frames _ _ _ _ (settle_in_frames _) (λ p. then_in_frames _ _ _ _ (lift_in_frames accesses _ (new_name_preserves _ p _)) (λ u. give_in_frames _)))))

  method_rule_in_frames : (scope : List Seg) (depth : ℕ) (t : Tree) → InFrames depth (method_rule ev scope depth t) (method_rule ew scope depth t)
  unfolding method_rule
  method_rule_in_frames scope depth t = then_in_frames _ _ _ _ (settle_in_frames _) (λ x. then_in_frames _ _ _ _ (settle_in_frames _) (λ p. then_in_frames _ _ _ _ (settle_in_frames _) (λ flags. then_in_frames _ _ _ _ (settle_in_frames _) (λ body. then_in_frames _ _ _ _ (lift_in_frames accesses _ (new_method_preserves _ p _ body)) (λ u. give_in_frames _)))))

  string_rule_in_frames : {depth : ℕ} (t : Tree) → InFrames depth (string_rule ev t) (string_rule ew t)
  unfolding string_rule
  string_rule_in_frames t = then_in_frames _ _ _ _ (settle_in_frames _) (λ x. then_in_frames _ _ _ _ (lift_in_frames accesses _ (on_objects_preserves _ (make_string_keeps_kinds x))) (λ v. give_in_frames _))

  integer_rule_in_frames : {depth : ℕ} (t : Tree) → InFrames depth (integer_rule ev t) (integer_rule ew t)
  unfolding integer_rule
  integer_rule_in_frames t = then_in_frames _ _ _ _ (settle_in_frames _) (λ k. constant_rule_in_frames k)

  data_rule_in_frames : (k : DataKind) (scope : List Seg) (depth : ℕ) (t : Tree) → InFrames depth (data_rule ev k scope depth t) (data_rule ew k scope depth t)
  data_rule_in_frames (datas.Constant k) scope depth t = constant_rule_in_frames k
  data_rule_in_frames datas.Integer scope depth t = integer_rule_in_frames t
  data_rule_in_frames datas.String scope depth t = string_rule_in_frames t
  data_rule_in_frames datas.Buffer scope depth t = buffer_rule_in_frames scope depth t
  data_rule_in_frames datas.Package scope depth t = package_rule_in_frames scope depth t
  data_rule_in_frames datas.VarPackage scope depth t = var_package_rule_in_frames scope depth t

  declaration_rule_in_frames : (k : DeclarationKind) (scope : List Seg) (depth : ℕ) (t : Tree) → InFrames depth (declaration_rule ev k scope depth t) (declaration_rule ew k scope depth t)
  declaration_rule_in_frames declarations.Scope scope depth t = scope_rule_in_frames scope depth t
  declaration_rule_in_frames declarations.Device scope depth t = new_scope_in_frames _ _ scope depth t
  declaration_rule_in_frames declarations.Processor scope depth t = new_scope_in_frames _ _ scope depth t
  declaration_rule_in_frames declarations.PowerResource scope depth t = new_scope_in_frames _ _ scope depth t
  declaration_rule_in_frames declarations.ThermalZone scope depth t = new_scope_in_frames _ _ scope depth t
  declaration_rule_in_frames declarations.Name scope depth t = name_rule_in_frames scope depth t
  declaration_rule_in_frames declarations.Alias scope depth t = alias_rule_in_frames scope depth t
  declaration_rule_in_frames declarations.External scope depth t = give_in_frames _
  declaration_rule_in_frames declarations.Method scope depth t = method_rule_in_frames scope depth t
  declaration_rule_in_frames declarations.Mutex scope depth t = declaring_in_frames scope depth t _ _
  declaration_rule_in_frames declarations.Event scope depth t = declaring_in_frames scope depth t _ _

  -- ---- places and operators

  value_at_in_frames : (scope : List Seg) (depth : ℕ) (t : Tree) (i : ℕ) → InFrames depth (value_at ev scope depth t i) (value_at ew scope depth t i)
  unfolding value_at
  value_at_in_frames scope depth t i = then_in_frames _ _ _ _ (settle_in_frames _) (λ x. operand_value_in_frames scope depth x)

  two_values_in_frames : (scope : List Seg) (depth : ℕ) (t : Tree) → InFrames depth (two_values ev scope depth t) (two_values ew scope depth t)
  unfolding two_values
  two_values_in_frames scope depth t = then_in_frames _ _ _ _ (value_at_in_frames scope depth t 0) (λ v. then_in_frames _ _ _ _ (value_at_in_frames scope depth t 1) (λ u. give_in_frames _))

  indexed_target_in_frames : (scope : List Seg) (depth : ℕ) (t : Tree) → InFrames depth (indexed_target ev scope depth t) (indexed_target ew scope depth t)
  unfolding indexed_target
  indexed_target_in_frames scope depth t = then_in_frames _ _ _ _ (operand_value_in_frames scope depth t) (λ v. then_in_frames _ _ _ _ (settle_in_frames _) (λ r. give_in_frames _))

  dereferenced_target_in_frames : (scope : List Seg) (depth : ℕ) (t : Tree) → InFrames depth (dereferenced_target ev scope depth t) (dereferenced_target ew scope depth t)
  unfolding dereferenced_target
  dereferenced_target_in_frames scope depth t = then_in_frames _ _ _ _ (charge_in_frames accesses) (λ u. then_in_frames _ _ _ _ (value_at_in_frames scope depth t 0) (λ v. then_in_frames _ _ _ _ (settle_in_frames _) (λ r. then_in_frames _ _ _ _ (lift_in_frames accesses _ (tested_preserves r)) (λ there. give_in_frames _))))

  target_by_kind_in_frames : (scope : List Seg) (depth : ℕ) (t : Tree) (m k : Run S StoreTarget) (kind : TargetKind) → InFrames depth m k → InFrames depth (target_by_kind ev scope depth t m kind) (target_by_kind ew scope depth t k kind)
  target_by_kind_in_frames scope depth t m k target.Nowhere h = give_in_frames _
  target_by_kind_in_frames scope depth t m k (target.Slot slot) h = give_in_frames _
  target_by_kind_in_frames scope depth t m k target.RefOf h = then_in_frames _ _ _ _ (charge_in_frames accesses) (λ u. h)
  target_by_kind_in_frames scope depth t m k target.DerefOf h = dereferenced_target_in_frames scope depth t
  target_by_kind_in_frames scope depth t m k target.Index h = indexed_target_in_frames scope depth t
  target_by_kind_in_frames scope depth t m k target.Other h = stop_in_frames _

  mutual
    unfolding target_of

    target_of_in_frames : (scope : List Seg) (depth : ℕ) (t : Tree) → InFrames depth (target_of ev scope depth t) (target_of ew scope depth t)
    target_of_in_frames scope depth (term c ps) = target_by_kind_in_frames scope depth (term c ps) _ _ (target_kind c) (first_target_in_frames scope depth ps)

    first_target_in_frames : (scope : List Seg) (depth : ℕ) (ps : Parts) → InFrames depth (first_target ev scope depth ps) (first_target ew scope depth ps)
    first_target_in_frames scope depth no_parts = stop_in_frames _
    first_target_in_frames scope depth (part p ps) = part_target_in_frames scope depth p

    part_target_in_frames : (scope : List Seg) (depth : ℕ) (p : Part) → InFrames depth (part_target ev scope depth p) (part_target ew scope depth p)
    part_target_in_frames scope depth null = give_in_frames _
    part_target_in_frames scope depth (name x) = lift_in_frames accesses _ (target_named_preserves scope x)
    part_target_in_frames scope depth (number k) = stop_in_frames _
    part_target_in_frames scope depth (bytes bs) = stop_in_frames _
    part_target_in_frames scope depth (inner u) = target_of_in_frames scope depth u
    part_target_in_frames scope depth (list ts) = stop_in_frames _

  name_target_in_frames : {depth : ℕ} (scope : List Seg) (t : Tree) (i : ℕ) → InFrames depth (name_target ev scope t i) (name_target ew scope t i)
  unfolding name_target
  name_target_in_frames scope t i = then_in_frames _ _ _ _ (settle_in_frames _) (λ x. lift_in_frames accesses _ (target_named_preserves scope x))

  target_by_in_frames : (scope : List Seg) (depth : ℕ) (t : Tree) (i : ℕ) (o : Option Part) → InFrames depth (target_by ev scope depth t i o) (target_by ew scope depth t i o)
  target_by_in_frames scope depth t i None = stop_in_frames _
  target_by_in_frames scope depth t i (Some null) = give_in_frames _
  target_by_in_frames scope depth t i (Some (name x)) = name_target_in_frames scope t i
  target_by_in_frames scope depth t i (Some (number k)) = stop_in_frames _
  target_by_in_frames scope depth t i (Some (bytes bs)) = stop_in_frames _
  target_by_in_frames scope depth t i (Some (inner u)) = target_of_in_frames scope depth u
  target_by_in_frames scope depth t i (Some (list ts)) = stop_in_frames _

  target_at_in_frames : (scope : List Seg) (depth : ℕ) (t : Tree) (i : ℕ) → InFrames depth (target_at ev scope depth t i) (target_at ew scope depth t i)
  target_at_in_frames scope depth t i = target_by_in_frames scope depth t i (operand_of t i)

  targeted_in_frames : (scope : List Seg) (depth : ℕ) (t : Tree) (i : ℕ) (v : Value) → InFrames depth (targeted accesses ev scope depth t i v) (targeted accesses ew scope depth t i v)
  unfolding targeted
  targeted_in_frames scope depth t i v = then_in_frames _ _ _ _ (target_at_in_frames scope depth t i) (λ p. then_in_frames _ _ _ _ (stored_to_in_frames depth p v) (λ done. give_in_frames _))

  slot_rule_in_frames : {depth : ℕ} (slot : Slot) → InFrames depth (slot_rule accesses ev slot) (slot_rule accesses ew slot)
  unfolding slot_rule
  slot_rule_in_frames slot = then_in_frames _ _ _ _ (lift_in_frames accesses _ (slot_read_preserves slot)) (λ v. give_in_frames _)

  store_rule_in_frames : (scope : List Seg) (depth : ℕ) (t : Tree) → InFrames depth (store_rule accesses ev scope depth t) (store_rule accesses ew scope depth t)
  unfolding store_rule
  store_rule_in_frames scope depth t = then_in_frames _ _ _ _ (value_at_in_frames scope depth t 0) (λ v. targeted_in_frames scope depth t 1 v)

  copy_rule_in_frames : (scope : List Seg) (depth : ℕ) (t : Tree) → InFrames depth (copy_rule accesses ev scope depth t) (copy_rule accesses ew scope depth t)
  unfolding copy_rule
  copy_rule_in_frames scope depth t = then_in_frames _ _ _ _ (value_at_in_frames scope depth t 0) (λ v. then_in_frames _ _ _ _ (target_at_in_frames scope depth t 1) (λ p. then_in_frames _ _ _ _ (lift_in_frames accesses _ (copied_to_preserves p v)) (λ s. then_in_frames _ _ _ _ (completed_in_frames depth s v) (λ done. give_in_frames _))))

  two_rule_in_frames : (k : TwoOperands) (scope : List Seg) (depth : ℕ) (t : Tree) → InFrames depth (two_rule accesses ev k scope depth t) (two_rule accesses ew k scope depth t)
  unfolding two_rule
  two_rule_in_frames k scope depth t = then_in_frames _ _ _ _ (two_values_in_frames scope depth t) (λ x. then_in_frames _ _ _ _ (lift_in_frames accesses _ (result_of_two_preserves k x.0 x.1)) (λ r. targeted_in_frames scope depth t 2 r))

  divide_rule_in_frames : (scope : List Seg) (depth : ℕ) (t : Tree) → InFrames depth (divide_rule accesses ev scope depth t) (divide_rule accesses ew scope depth t)
  unfolding divide_rule
  divide_rule_in_frames scope depth t = then_in_frames _ _ _ _ (two_values_in_frames scope depth t) (λ x. then_in_frames _ _ _ _ (lift_in_frames accesses _ (divided_in_preserves x.0 x.1)) (λ d. then_in_frames _ _ _ _ (targeted_in_frames scope depth t 2 _) (λ done. targeted_in_frames scope depth t 3 _)))

  one_rule_in_frames : (k : OneOperand) (scope : List Seg) (depth : ℕ) (t : Tree) → InFrames depth (one_rule accesses ev k scope depth t) (one_rule accesses ew k scope depth t)
  unfolding one_rule
  one_rule_in_frames k scope depth t = then_in_frames _ _ _ _ (value_at_in_frames scope depth t 0) (λ v. then_in_frames _ _ _ _ (lift_in_frames accesses _ (result_of_one_preserves k v)) (λ r. targeted_in_frames scope depth t 1 r))

  test_rule_in_frames : (k : Test) (scope : List Seg) (depth : ℕ) (t : Tree) → InFrames depth (test_rule accesses ev k scope depth t) (test_rule accesses ew k scope depth t)
  unfolding test_rule
  test_rule_in_frames k scope depth t = then_in_frames _ _ _ _ (two_values_in_frames scope depth t) (λ x. then_in_frames _ _ _ _ (lift_in_frames accesses _ (result_of_test_preserves k x.0 x.1)) (λ r. give_in_frames _))

  lnot_rule_in_frames : (scope : List Seg) (depth : ℕ) (t : Tree) → InFrames depth (lnot_rule accesses ev scope depth t) (lnot_rule accesses ew scope depth t)
  unfolding lnot_rule
  lnot_rule_in_frames scope depth t = then_in_frames _ _ _ _ (value_at_in_frames scope depth t 0) (λ v. then_in_frames _ _ _ _ (lift_in_frames accesses _ (lnot_preserves v)) (λ r. give_in_frames _))

  count_rule_in_frames : (k : Count) (scope : List Seg) (depth : ℕ) (t : Tree) → InFrames depth (count_rule accesses ev k scope depth t) (count_rule accesses ew k scope depth t)
  unfolding count_rule
  count_rule_in_frames k scope depth t = then_in_frames _ _ _ _ (target_at_in_frames scope depth t 0) (λ p. then_in_frames _ _ _ _ (lift_in_frames accesses _ (target_read_preserves p)) (λ h. then_in_frames _ _ _ _ (held_integer_in_frames depth h) (λ x. then_in_frames _ _ _ _ (lift_in_frames accesses _ (counted_by_preserves k x)) (λ r. then_in_frames _ _ _ _ (stored_back_in_frames depth h p r) (λ done. give_in_frames _)))))

  referent_of_value_in_frames : (scope : List Seg) (depth : ℕ) (u : Tree) → InFrames depth (referent_of_value accesses ev scope depth u) (referent_of_value accesses ew scope depth u)
  unfolding referent_of_value
  referent_of_value_in_frames scope depth u = then_in_frames _ _ _ _ (operand_value_in_frames scope depth u) (λ v. lift_in_frames accesses _ (value_referent_preserves v))

  referent_of_target_in_frames : (scope : List Seg) (depth : ℕ) (t : Tree) → InFrames depth (referent_of_target accesses ev scope depth t) (referent_of_target accesses ew scope depth t)
  unfolding referent_of_target
  referent_of_target_in_frames scope depth t = then_in_frames _ _ _ _ (target_at_in_frames scope depth t 0) (λ p. lift_in_frames accesses _ (target_referent_preserves p))

  referent_by_kind_in_frames : (scope : List Seg) (depth : ℕ) (t u : Tree) (k : TargetKind) → InFrames depth (referent_by_kind accesses ev scope depth t u k) (referent_by_kind accesses ew scope depth t u k)
  referent_by_kind_in_frames scope depth t u target.RefOf = referent_of_value_in_frames scope depth u
  referent_by_kind_in_frames scope depth t u target.DerefOf = referent_of_value_in_frames scope depth u
  referent_by_kind_in_frames scope depth t u target.Index = referent_of_value_in_frames scope depth u
  referent_by_kind_in_frames scope depth t u target.Nowhere = referent_of_target_in_frames scope depth t
  referent_by_kind_in_frames scope depth t u (target.Slot slot) = referent_of_target_in_frames scope depth t
  referent_by_kind_in_frames scope depth t u target.Other = referent_of_target_in_frames scope depth t

  referent_by_in_frames : (scope : List Seg) (depth : ℕ) (t : Tree) (o : Option Part) → InFrames depth (referent_by accesses ev scope depth t o) (referent_by accesses ew scope depth t o)
  referent_by_in_frames scope depth t None = referent_of_target_in_frames scope depth t
  referent_by_in_frames scope depth t (Some null) = referent_of_target_in_frames scope depth t
  referent_by_in_frames scope depth t (Some (name x)) = referent_of_target_in_frames scope depth t
  referent_by_in_frames scope depth t (Some (number k)) = referent_of_target_in_frames scope depth t
  referent_by_in_frames scope depth t (Some (bytes bs)) = referent_of_target_in_frames scope depth t
  referent_by_in_frames scope depth t (Some (inner u)) = referent_by_kind_in_frames scope depth t u _
  referent_by_in_frames scope depth t (Some (list ts)) = referent_of_target_in_frames scope depth t

  size_rule_in_frames : (scope : List Seg) (depth : ℕ) (t : Tree) → InFrames depth (size_rule accesses ev scope depth t) (size_rule accesses ew scope depth t)
  unfolding size_rule
  size_rule_in_frames scope depth t = then_in_frames _ _ _ _ (referent_by_in_frames scope depth t _) (λ r. then_in_frames _ _ _ _ (referent_read_in_frames depth r) (λ s. then_in_frames _ _ _ _ (lift_in_frames accesses _ (size_in_preserves s)) (λ v. give_in_frames _)))

  type_rule_in_frames : (scope : List Seg) (depth : ℕ) (t : Tree) → InFrames depth (type_rule accesses ev scope depth t) (type_rule accesses ew scope depth t)
  unfolding type_rule
  type_rule_in_frames scope depth t = then_in_frames _ _ _ _ (referent_by_in_frames scope depth t _) (λ r. then_in_frames _ _ _ _ (referent_read_in_frames depth r) (λ s. give_in_frames _))

  reference_rule_in_frames : (scope : List Seg) (depth : ℕ) (t : Tree) → InFrames depth (reference_rule accesses ev scope depth t) (reference_rule accesses ew scope depth t)
  unfolding reference_rule
  reference_rule_in_frames scope depth t = then_in_frames _ _ _ _ (target_at_in_frames scope depth t 0) (λ p. then_in_frames _ _ _ _ (lift_in_frames accesses _ (reference_of_preserves p)) (λ r. give_in_frames _))

  dereference_rule_in_frames : (scope : List Seg) (depth : ℕ) (t : Tree) → InFrames depth (dereference_rule accesses ev scope depth t) (dereference_rule accesses ew scope depth t)
  unfolding dereference_rule
  dereference_rule_in_frames scope depth t = then_in_frames _ _ _ _ (value_at_in_frames scope depth t 0) (λ v. then_in_frames _ _ _ _ (settle_in_frames _) (λ r. then_in_frames _ _ _ _ (lift_in_frames accesses _ (dereferenced_preserves r)) (λ h. then_in_frames _ _ _ _ (held_value_in_frames depth h) (λ x. give_in_frames _))))

  sought_name_in_frames : {depth : ℕ} (scope : List Seg) (t : Tree) → InFrames depth (sought_name accesses ev scope t) (sought_name accesses ew scope t)
  unfolding sought_name
  sought_name_in_frames scope t = then_in_frames _ _ _ _ (settle_in_frames _) (λ x. lift_in_frames accesses _ (reference_if_found_preserves scope x))

  sought_target_in_frames : (scope : List Seg) (depth : ℕ) (t : Tree) → InFrames depth (sought_target accesses ev scope depth t) (sought_target accesses ew scope depth t)
  unfolding sought_target
  sought_target_in_frames scope depth t = then_in_frames _ _ _ _ (target_at_in_frames scope depth t 0) (λ p. then_in_frames _ _ _ _ (lift_in_frames accesses _ (reference_of_preserves p)) (λ r. lift_in_frames accesses _ (if_initialized_preserves r)))

  sought_in_frames : (scope : List Seg) (depth : ℕ) (t : Tree) (o : Option Part) → InFrames depth (sought accesses ev scope depth t o) (sought accesses ew scope depth t o)
  sought_in_frames scope depth t None = sought_target_in_frames scope depth t
  sought_in_frames scope depth t (Some null) = sought_target_in_frames scope depth t
  sought_in_frames scope depth t (Some (name x)) = sought_name_in_frames scope t
  sought_in_frames scope depth t (Some (number k)) = sought_target_in_frames scope depth t
  sought_in_frames scope depth t (Some (bytes bs)) = sought_target_in_frames scope depth t
  sought_in_frames scope depth t (Some (inner u)) = sought_target_in_frames scope depth t
  sought_in_frames scope depth t (Some (list ts)) = sought_target_in_frames scope depth t

  reference_found_in_frames : (scope : List Seg) (depth : ℕ) (t : Tree) (o : Option Reference) → InFrames depth (reference_found accesses ev scope depth t o) (reference_found accesses ew scope depth t o)
  unfolding reference_stored
  reference_found_in_frames scope depth t None = give_in_frames _
  reference_found_in_frames scope depth t (Some r) = then_in_frames _ _ _ _ (targeted_in_frames scope depth t 1 _) (λ done. then_in_frames _ _ _ _ (lift_in_frames accesses _ (integer_kept_preserves _)) (λ v. give_in_frames _))

  conditional_rule_in_frames : (scope : List Seg) (depth : ℕ) (t : Tree) → InFrames depth (conditional_rule accesses ev scope depth t) (conditional_rule accesses ew scope depth t)
  unfolding conditional_rule
  conditional_rule_in_frames scope depth t = then_in_frames _ _ _ _ (sought_in_frames scope depth t _) (λ o. reference_found_in_frames scope depth t o)

  acquire_rule_in_frames : (scope : List Seg) (depth : ℕ) (t : Tree) → InFrames depth (acquire_rule accesses ev scope depth t) (acquire_rule accesses ew scope depth t)
  unfolding acquire_rule
  acquire_rule_in_frames scope depth t = then_in_frames _ _ _ _ (target_at_in_frames scope depth t 0) (λ p. then_in_frames _ _ _ _ (lift_in_frames accesses _ (acquired_at_preserves p)) (λ done. give_in_frames _))

  operator_rule_in_frames : (k : OperatorKind) (scope : List Seg) (depth : ℕ) (t : Tree) → InFrames depth (operator_rule accesses ev k scope depth t) (operator_rule accesses ew k scope depth t)
  operator_rule_in_frames (operators.Slot slot) scope depth t = slot_rule_in_frames slot
  operator_rule_in_frames operators.Store scope depth t = store_rule_in_frames scope depth t
  operator_rule_in_frames operators.CopyObject scope depth t = copy_rule_in_frames scope depth t
  operator_rule_in_frames (operators.Two k) scope depth t = two_rule_in_frames k scope depth t
  operator_rule_in_frames operators.Divide scope depth t = divide_rule_in_frames scope depth t
  operator_rule_in_frames (operators.One k) scope depth t = one_rule_in_frames k scope depth t
  operator_rule_in_frames (operators.Test k) scope depth t = test_rule_in_frames k scope depth t
  operator_rule_in_frames operators.LNot scope depth t = lnot_rule_in_frames scope depth t
  operator_rule_in_frames (operators.Count k) scope depth t = count_rule_in_frames k scope depth t
  operator_rule_in_frames operators.SizeOf scope depth t = size_rule_in_frames scope depth t
  operator_rule_in_frames operators.ObjectType scope depth t = type_rule_in_frames scope depth t
  operator_rule_in_frames operators.Acquire scope depth t = acquire_rule_in_frames scope depth t
  operator_rule_in_frames operators.RefOf scope depth t = reference_rule_in_frames scope depth t
  operator_rule_in_frames operators.CondRefOf scope depth t = conditional_rule_in_frames scope depth t
  operator_rule_in_frames operators.DerefOf scope depth t = dereference_rule_in_frames scope depth t

  -- ---- statements

  otherwise_in_frames : (scope : List Seg) (depth : ℕ) (e : Option Tree) → InFrames depth (otherwise ev scope depth e) (otherwise ew scope depth e)
  otherwise_in_frames scope depth None = give_in_frames _
  otherwise_in_frames scope depth (Some e) = parts _

  branch_in_frames : (scope : List Seg) (depth : ℕ) (ts : Trees) (e : Option Tree) (b : Bool) → InFrames depth (branch ev scope depth ts e b) (branch ew scope depth ts e b)
  branch_in_frames scope depth ts e true = in_turn_in_frames scope depth ts
  branch_in_frames scope depth ts e false = otherwise_in_frames scope depth e

  if_rule_in_frames : (scope : List Seg) (depth : ℕ) (t : Tree) → InFrames depth (if_rule ev scope depth t) (if_rule ew scope depth t)
  unfolding if_rule
  if_rule_in_frames scope depth t = then_in_frames _ _ _ _ (settle_in_frames _) (λ c. then_in_frames _ _ _ _ (settle_in_frames _) (λ ts. then_in_frames _ _ _ _ (operand_integer_in_frames scope depth c) (λ x. branch_in_frames scope depth ts _ _)))

  else_rule_in_frames : (scope : List Seg) (depth : ℕ) (t : Tree) → InFrames depth (else_rule ev scope depth t) (else_rule ew scope depth t)
  unfolding else_rule
  else_rule_in_frames scope depth t = then_in_frames _ _ _ _ (settle_in_frames _) (λ ts. in_turn_in_frames scope depth ts)

  pub turn_of_in_frames : (scope : List Seg) (depth : ℕ) (ts : Trees) (b : Bool) → InFrames depth (turn_of ev scope depth ts b) (turn_of ew scope depth ts b)
  turn_of_in_frames scope depth ts true = in_turn_in_frames scope depth ts
  turn_of_in_frames scope depth ts false = give_in_frames _

  turn_in_frames : (scope : List Seg) (depth : ℕ) (c : Tree) (ts : Trees) → InFrames depth (turn ev scope depth c ts) (turn ew scope depth c ts)
  unfolding turn
  turn_in_frames scope depth c ts = then_in_frames _ _ _ _ (operand_integer_in_frames scope depth c) (λ x. turn_of_in_frames scope depth ts _)

  after_turn_in_frames : {depth : ℕ} (o : Option Flow) (m k : Run S Flow) → InFrames depth m k → InFrames depth (after_turn ev o m) (after_turn ew o k)
  after_turn_in_frames None m k h = h
  after_turn_in_frames (Some f) m k h = give_in_frames _

  turns_in_frames : (k : ℕ) (scope : List Seg) (depth : ℕ) (c : Tree) (ts : Trees) → InFrames depth (turns ev k scope depth c ts) (turns ew k scope depth c ts)
  unfolding turns
  turns_in_frames zero scope depth c ts = stop_in_frames _
  turns_in_frames (suc k) scope depth c ts = then_in_frames _ _ _ _ (turn_in_frames scope depth c ts) (λ f. after_turn_in_frames (loop_end f) _ _ (turns_in_frames k scope depth c ts))

  loop_in_frames : (scope : List Seg) (depth : ℕ) (c : Tree) (ts : Trees) → InFrames depth (loop ev scope depth c ts) (loop ew scope depth c ts)
  unfolding loop
  loop_in_frames scope depth c ts = record { same = λ s deep few. (turns_in_frames (suc s.1) scope depth c ts).same s deep few; kept = λ s. (turns_in_frames (suc s.1) scope depth c ts).kept s }

  while_rule_in_frames : (scope : List Seg) (depth : ℕ) (t : Tree) → InFrames depth (while_rule ev scope depth t) (while_rule ew scope depth t)
  unfolding while_rule
  while_rule_in_frames scope depth t = then_in_frames _ _ _ _ (settle_in_frames _) (λ c. then_in_frames _ _ _ _ (settle_in_frames _) (λ ts. loop_in_frames scope depth c ts))

  return_rule_in_frames : (scope : List Seg) (depth : ℕ) (t : Tree) → InFrames depth (return_rule ev scope depth t) (return_rule ew scope depth t)
  unfolding return_rule
  return_rule_in_frames scope depth t = then_in_frames _ _ _ _ (value_at_in_frames scope depth t 0) (λ v. give_in_frames _)

  release_rule_in_frames : (scope : List Seg) (depth : ℕ) (t : Tree) → InFrames depth (release_rule ev scope depth t) (release_rule ew scope depth t)
  unfolding release_rule
  release_rule_in_frames scope depth t = then_in_frames _ _ _ _ (target_at_in_frames scope depth t 0) (λ p. then_in_frames _ _ _ _ (lift_in_frames accesses _ (given_back_at_preserves p)) (λ done. give_in_frames _))

  notify_rule_in_frames : (scope : List Seg) (depth : ℕ) (t : Tree) → InFrames depth (notify_rule ev scope depth t) (notify_rule ew scope depth t)
  unfolding notify_rule
  notify_rule_in_frames scope depth t = then_in_frames _ _ _ _ (target_at_in_frames scope depth t 0) (λ p. then_in_frames _ _ _ _ (value_at_in_frames scope depth t 1) (λ v. give_in_frames _))

  pause_rule_in_frames : (scope : List Seg) (depth : ℕ) (t : Tree) → InFrames depth (pause_rule ev scope depth t) (pause_rule ew scope depth t)
  unfolding pause_rule
  pause_rule_in_frames scope depth t = then_in_frames _ _ _ _ (value_at_in_frames scope depth t 0) (λ v. give_in_frames _)

  fatal_rule_in_frames : (scope : List Seg) (depth : ℕ) (t : Tree) → InFrames depth (fatal_rule ev scope depth t) (fatal_rule ew scope depth t)
  unfolding fatal_rule
  fatal_rule_in_frames scope depth t = then_in_frames _ _ _ _ (value_at_in_frames scope depth t 2) (λ v. stop_in_frames _)

  statement_rule_in_frames : (k : StatementKind) (scope : List Seg) (depth : ℕ) (t : Tree) → InFrames depth (statement_rule ev k scope depth t) (statement_rule ew k scope depth t)
  statement_rule_in_frames statements.If scope depth t = if_rule_in_frames scope depth t
  statement_rule_in_frames statements.Else scope depth t = else_rule_in_frames scope depth t
  statement_rule_in_frames statements.While scope depth t = while_rule_in_frames scope depth t
  statement_rule_in_frames statements.Break scope depth t = give_in_frames _
  statement_rule_in_frames statements.Continue scope depth t = give_in_frames _
  statement_rule_in_frames statements.Noop scope depth t = give_in_frames _
  statement_rule_in_frames statements.Return scope depth t = return_rule_in_frames scope depth t
  statement_rule_in_frames statements.Release scope depth t = release_rule_in_frames scope depth t
  statement_rule_in_frames statements.Notify scope depth t = notify_rule_in_frames scope depth t
  statement_rule_in_frames statements.Pause scope depth t = pause_rule_in_frames scope depth t
  statement_rule_in_frames statements.Fatal scope depth t = fatal_rule_in_frames scope depth t

  -- ---- calls

  arguments_in_turn_in_frames : (scope : List Seg) (depth : ℕ) (ts : Trees) (done : List Value) → InFrames depth (arguments_in_turn ev scope depth ts done) (arguments_in_turn ew scope depth ts done)
  unfolding arguments_in_turn
  arguments_in_turn_in_frames scope depth no_trees done = give_in_frames _
  arguments_in_turn_in_frames scope depth (tree t ts) done = then_in_frames _ _ _ _ (operand_value_in_frames scope depth t) (λ v. arguments_in_turn_in_frames scope depth ts _)

  call_rule_in_frames : (scope : List Seg) (depth : ℕ) (ts : Trees) (p : List Seg) (body : List ℕ) → InFrames depth (call_rule ev scope depth ts p body) (call_rule ew scope depth ts p body)
  unfolding call_rule
  call_rule_in_frames scope depth ts p body = then_in_frames _ _ _ _ (arguments_in_turn_in_frames scope depth ts _) (λ arguments. invoked_in_frames depth p body arguments)

  osi_rule_in_frames : (scope : List Seg) (depth : ℕ) (ts : Trees) → InFrames depth (osi_rule ev scope depth ts) (osi_rule ew scope depth ts)
  unfolding osi_rule
  osi_rule_in_frames scope depth ts = then_in_frames _ _ _ _ (arguments_in_turn_in_frames scope depth ts _) (λ arguments. then_in_frames _ _ _ _ (lift_in_frames accesses _ (call_allowed_preserves _)) (λ few. then_in_frames _ _ _ _ (lift_in_frames accesses _ (osi_answered_preserves arguments)) (λ v. give_in_frames _)))

  invocation_rule_in_frames : (scope : List Seg) (depth : ℕ) (ts : Trees) (i : Invocation) → InFrames depth (invocation_rule accesses ev scope depth ts i) (invocation_rule accesses ew scope depth ts i)
  unfolding field_rule
  invocation_rule_in_frames scope depth ts (invocations.Value v) = give_in_frames _
  invocation_rule_in_frames scope depth ts (invocations.Field u) = then_in_frames _ _ _ _ (field_read_in_frames depth u) (λ v. give_in_frames _)
  invocation_rule_in_frames scope depth ts (invocations.Method p body) = call_rule_in_frames scope depth ts p body
  invocation_rule_in_frames scope depth ts invocations.Osi = osi_rule_in_frames scope depth ts

  name_value_in_frames : (scope : List Seg) (depth : ℕ) (t : Tree) → InFrames depth (name_value accesses ev scope depth t) (name_value accesses ew scope depth t)
  unfolding name_value
  name_value_in_frames scope depth t = then_in_frames _ _ _ _ (settle_in_frames _) (λ x. then_in_frames _ _ _ _ (settle_in_frames _) (λ ts. then_in_frames _ _ _ _ (still_in_frames _ (λ w. ap (λ (v : State S). v.frames) ((invocation_found_finds_invocation scope x (count_of ts)).same w))) (λ i. invocation_rule_in_frames scope depth ts i)))

  -- ---- operation regions and fields

  region_rule_in_frames : (scope : List Seg) (depth : ℕ) (t : Tree) → InFrames depth (region_rule ev scope depth t) (region_rule ew scope depth t)
  unfolding region_rule
  region_rule_in_frames scope depth t =
      then_in_frames _ _ _ _ (settle_in_frames _) (λ space. then_in_frames _ _ _ _ (value_at_in_frames scope depth t 2) (λ offset. then_in_frames _ _ _ _ (value_at_in_frames scope depth t 3) (λ size. then_in_frames _ _ _ _ (lift_in_frames accesses _ (integer_in_preserves offset)) (λ x. then_in_frames _ _ _ _ (lift_in_frames accesses _ (integer_in_preserves size)) (λ y. declaring_in_frames scope depth t _ _)))))

  region_term_rule_in_frames : (k : RegionKind) (scope : List Seg) (depth : ℕ) (t : Tree) → InFrames depth (region_term_rule ev k scope depth t) (region_term_rule ew k scope depth t)
  unfolding field_list_rule index_list_rule fields_laid sized_field_rule bits_field_rule
  region_term_rule_in_frames regions.OperationRegion scope depth t = region_rule_in_frames scope depth t
  region_term_rule_in_frames regions.Field scope depth t =
      then_in_frames _ _ _ _ (settle_in_frames _) (λ ts. then_in_frames _ _ _ _ (lift_in_frames accesses _ (connections_asked_preserves _ ts)) (λ asked. then_in_frames _ _ _ _ (settle_in_frames _) (λ x. then_in_frames _ _ _ _ (lift_in_frames accesses _ (region_found_preserves scope x)) (λ region. then_in_frames _ _ _ _ (settle_in_frames _) (λ flags. then_in_frames _ _ _ _ (lift_in_frames accesses _ (elements_laid_preserves _ scope depth _ ts)) (λ laid. give_in_frames _))))))
  region_term_rule_in_frames regions.IndexField scope depth t =
      then_in_frames _ _ _ _ (settle_in_frames _) (λ ts. then_in_frames _ _ _ _ (lift_in_frames accesses _ (connections_asked_preserves _ ts)) (λ asked. then_in_frames _ _ _ _ (settle_in_frames _) (λ x. then_in_frames _ _ _ _ (lift_in_frames accesses _ (field_found_preserves scope x)) (λ index. then_in_frames _ _ _ _ (settle_in_frames _) (λ y. then_in_frames _ _ _ _ (lift_in_frames accesses _ (field_found_preserves scope y)) (λ behind. then_in_frames _ _ _ _ (settle_in_frames _) (λ flags. then_in_frames _ _ _ _ (lift_in_frames accesses _ (elements_laid_preserves _ scope depth _ ts)) (λ laid. give_in_frames _))))))))
  region_term_rule_in_frames (regions.SizedBufferField size) scope depth t =
      then_in_frames _ _ _ _ (two_values_in_frames scope depth t) (λ x. then_in_frames _ _ _ _ (settle_in_frames _) (λ o. then_in_frames _ _ _ _ (lift_in_frames accesses _ (integer_in_preserves _)) (λ i. then_in_frames _ _ _ _ (lift_in_frames accesses _ (on_objects_preserves _ (new_buffer_field_keeps_kinds o _ _))) (λ b. declaring_in_frames scope depth t _ _))))
  region_term_rule_in_frames regions.BufferField scope depth t =
      then_in_frames _ _ _ _ (value_at_in_frames scope depth t 0) (λ source. then_in_frames _ _ _ _ (value_at_in_frames scope depth t 1) (λ index. then_in_frames _ _ _ _ (value_at_in_frames scope depth t 2) (λ count. then_in_frames _ _ _ _ (settle_in_frames _) (λ o. then_in_frames _ _ _ _ (lift_in_frames accesses _ (integer_in_preserves index)) (λ i. then_in_frames _ _ _ _ (lift_in_frames accesses _ (integer_in_preserves count)) (λ k. then_in_frames _ _ _ _ (settle_in_frames _) (λ bits. then_in_frames _ _ _ _ (lift_in_frames accesses _ (on_objects_preserves _ (new_buffer_field_keeps_kinds o i bits))) (λ b. declaring_in_frames scope depth t _ _))))))))

  -- ---- terms of the wide profile

  formed_at_in_frames : (scope : List Seg) (depth : ℕ) (t : Tree) (i : ℕ) (v : Value) → InFrames depth (formed_at accesses ev scope depth t i v) (formed_at accesses ew scope depth t i v)
  unfolding formed_at
  formed_at_in_frames scope depth t i v = then_in_frames _ _ _ _ (target_at_in_frames scope depth t i) (λ p. then_in_frames _ _ _ _ (lift_in_frames accesses _ (formed_to_preserves p v)) (λ s. then_in_frames _ _ _ _ (completed_in_frames depth s v) (λ done. give_in_frames _)))

  convert_rule_in_frames : (k : Conversion) (scope : List Seg) (depth : ℕ) (t : Tree) → InFrames depth (convert_rule accesses ev k scope depth t) (convert_rule accesses ew k scope depth t)
  unfolding convert_rule
  convert_rule_in_frames k scope depth t = then_in_frames _ _ _ _ (value_at_in_frames scope depth t 0) (λ v. then_in_frames _ _ _ _ (lift_in_frames accesses _ (converted_preserves k v)) (λ r. formed_at_in_frames scope depth t 1 r))

  to_string_rule_in_frames : (scope : List Seg) (depth : ℕ) (t : Tree) → InFrames depth (to_string_rule accesses ev scope depth t) (to_string_rule accesses ew scope depth t)
  unfolding to_string_rule
  to_string_rule_in_frames scope depth t = then_in_frames _ _ _ _ (two_values_in_frames scope depth t) (λ x. then_in_frames _ _ _ _ (lift_in_frames accesses _ (string_in_preserves x.0 x.1)) (λ r. formed_at_in_frames scope depth t 2 r))

  middle_rule_in_frames : (scope : List Seg) (depth : ℕ) (t : Tree) → InFrames depth (middle_rule accesses ev scope depth t) (middle_rule accesses ew scope depth t)
  unfolding middle_rule
  middle_rule_in_frames scope depth t = then_in_frames _ _ _ _ (two_values_in_frames scope depth t) (λ x. then_in_frames _ _ _ _ (value_at_in_frames scope depth t 2) (λ k. then_in_frames _ _ _ _ (lift_in_frames accesses _ (middle_in_preserves x.0 x.1 k)) (λ r. targeted_in_frames scope depth t 3 r)))

  if_held_in_frames : (depth : ℕ) (x : Search) (o : Option Held) → InFrames depth (if_held accesses ev depth x o) (if_held accesses ew depth x o)
  unfolding held_meets
  if_held_in_frames depth x None = give_in_frames _
  if_held_in_frames depth x (Some h) = then_in_frames _ _ _ _ (held_value_in_frames depth h) (λ v. lift_in_frames accesses _ (value_meets_preserves x v))

  found_or_in_frames : {depth : ℕ} (met : Bool) (i : ℕ) (m k : Run S Flow) → InFrames depth m k → InFrames depth (found_or met i m) (found_or met i k)
  found_or_in_frames true i m k h = give_in_frames _
  found_or_in_frames false i m k h = h

  searched_last_in_frames : (depth : ℕ) (x : Search) (left : ℕ) → InFrames depth (searched_last accesses ev depth x left) (searched_last accesses ew depth x left)
  unfolding searched_last none_matches element_meets
  searched_last_in_frames depth x zero = then_in_frames _ _ _ _ (lift_in_frames accesses _ (integer_kept_preserves _)) (λ v. give_in_frames _)
  searched_last_in_frames depth x (suc k) = then_in_frames _ _ _ _ (then_in_frames _ _ _ _ (lift_in_frames accesses _ (element_held_preserves x.source _)) (λ o. if_held_in_frames depth x o)) (λ met. found_or_in_frames met _ _ _ (searched_last_in_frames depth x k))

  match_rule_in_frames : (scope : List Seg) (depth : ℕ) (t : Tree) → InFrames depth (match_rule accesses ev scope depth t) (match_rule accesses ew scope depth t)
  unfolding match_rule
  match_rule_in_frames scope depth t =
      then_in_frames _ _ _ _ (value_at_in_frames scope depth t 0) (λ p. then_in_frames _ _ _ _ (settle_in_frames _) (λ k. then_in_frames _ _ _ _ (value_at_in_frames scope depth t 2) (λ a. then_in_frames _ _ _ _ (settle_in_frames _) (λ l. then_in_frames _ _ _ _ (value_at_in_frames scope depth t 4) (λ b.
      then_in_frames _ _ _ _ (value_at_in_frames scope depth t 5) (λ i. then_in_frames _ _ _ _ (lift_in_frames accesses _ (search_begun_preserves p k a l b i)) (λ x. searched_last_in_frames depth x.search x.left)))))))

  event_rule_in_frames : (k : EventChange) (scope : List Seg) (depth : ℕ) (t : Tree) → InFrames depth (event_rule accesses ev k scope depth t) (event_rule accesses ew k scope depth t)
  unfolding event_rule
  event_rule_in_frames k scope depth t = then_in_frames _ _ _ _ (target_at_in_frames scope depth t 0) (λ p. then_in_frames _ _ _ _ (lift_in_frames accesses _ (event_named_preserves p)) (λ e. then_in_frames _ _ _ _ (lift_in_frames accesses _ (event_changed_preserves k e)) (λ done. give_in_frames _)))

  wait_rule_in_frames : (scope : List Seg) (depth : ℕ) (t : Tree) → InFrames depth (wait_rule accesses ev scope depth t) (wait_rule accesses ew scope depth t)
  unfolding wait_rule
  wait_rule_in_frames scope depth t = then_in_frames _ _ _ _ (target_at_in_frames scope depth t 0) (λ p. then_in_frames _ _ _ _ (lift_in_frames accesses _ (event_named_preserves p)) (λ e. then_in_frames _ _ _ _ (value_at_in_frames scope depth t 1) (λ v. then_in_frames _ _ _ _ (lift_in_frames accesses _ (waited_preserves e v)) (λ r. give_in_frames _))))

  bank_list_rule_in_frames : (scope : List Seg) (depth : ℕ) (t : Tree) → InFrames depth (bank_list_rule ev scope depth t) (bank_list_rule ew scope depth t)
  unfolding bank_list_rule banked_laid fields_laid
  bank_list_rule_in_frames scope depth t =
      then_in_frames _ _ _ _ (settle_in_frames _) (λ x. then_in_frames _ _ _ _ (lift_in_frames accesses _ (region_found_preserves scope x)) (λ region. then_in_frames _ _ _ _ (settle_in_frames _) (λ y. then_in_frames _ _ _ _ (lift_in_frames accesses _ (field_found_preserves scope y)) (λ bank. then_in_frames _ _ _ _ (value_at_in_frames scope depth t 2) (λ v.
      then_in_frames _ _ _ _ (settle_in_frames _) (λ flags. then_in_frames _ _ _ _ (settle_in_frames _) (λ ts. then_in_frames _ _ _ _ (lift_in_frames accesses _ (integer_in_preserves v)) (λ k. then_in_frames _ _ _ _ (lift_in_frames accesses _ (elements_laid_preserves _ scope depth _ ts)) (λ laid. give_in_frames _)))))))))

  wide_rule_in_frames : (k : WideKind) (scope : List Seg) (depth : ℕ) (t : Tree) → InFrames depth (wide_rule accesses ev k scope depth t) (wide_rule accesses ew k scope depth t)
  wide_rule_in_frames (wides.Convert k) scope depth t = convert_rule_in_frames k scope depth t
  wide_rule_in_frames wides.ToString scope depth t = to_string_rule_in_frames scope depth t
  wide_rule_in_frames wides.Mid scope depth t = middle_rule_in_frames scope depth t
  wide_rule_in_frames wides.Match scope depth t = match_rule_in_frames scope depth t
  wide_rule_in_frames (wides.Event k) scope depth t = event_rule_in_frames k scope depth t
  wide_rule_in_frames wides.Wait scope depth t = wait_rule_in_frames scope depth t
  wide_rule_in_frames wides.BankField scope depth t = bank_list_rule_in_frames scope depth t

  -- ---- which rule

  kind_rule_in_frames : (k : TermKind) (op : Opcode) (scope : List Seg) (depth : ℕ) (t : Tree) → InFrames depth (kind_rule accesses ev k op scope depth t) (kind_rule accesses ew k op scope depth t)
  kind_rule_in_frames (kinds.Data k) op scope depth t = data_rule_in_frames k scope depth t
  kind_rule_in_frames (kinds.Declaration k) op scope depth t = declaration_rule_in_frames k scope depth t
  kind_rule_in_frames (kinds.Region k) op scope depth t = region_term_rule_in_frames k scope depth t
  kind_rule_in_frames (kinds.Operator k) op scope depth t = operator_rule_in_frames k scope depth t
  kind_rule_in_frames (kinds.Statement k) op scope depth t = statement_rule_in_frames k scope depth t
  kind_rule_in_frames (kinds.Wide k) op scope depth t = then_in_frames _ _ _ _ (lift_in_frames accesses _ (asked_for_preserves op)) (λ wide. wide_rule_in_frames k scope depth t)
  kind_rule_in_frames kinds.Unsupported op scope depth t = stop_in_frames _

  code_rule_in_frames : (c : TermCode) (scope : List Seg) (depth : ℕ) (t : Tree) → InFrames depth (code_rule accesses ev c scope depth t) (code_rule accesses ew c scope depth t)
  code_rule_in_frames (codes.Opcode op) scope depth t = kind_rule_in_frames (kind_of op) op scope depth t
  code_rule_in_frames codes.MethodInvocation scope depth t = name_value_in_frames scope depth t
  code_rule_in_frames codes.Name scope depth t = stop_in_frames _
  code_rule_in_frames codes.NamedField scope depth t = stop_in_frames _
  code_rule_in_frames codes.ReservedField scope depth t = stop_in_frames _
  code_rule_in_frames codes.AccessField scope depth t = stop_in_frames _
  code_rule_in_frames codes.ExtendedAccessField scope depth t = stop_in_frames _
  code_rule_in_frames codes.ConnectField scope depth t = stop_in_frames _

  pub rule_in_frames : (t : Task) → InFrames t.depth (rule accesses ev t) (rule accesses ew t)
  unfolding rule
  rule_in_frames t = code_rule_in_frames (code_of t.term) t.scope t.depth t.term
