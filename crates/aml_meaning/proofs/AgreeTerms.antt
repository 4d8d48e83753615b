-- Parts that agree make rules that agree: the steps that are left decide what a term means, and no other number.
use Rattle.std.specs.Prelude.{ℕ, zero, suc, ◌-◌, List, Bool, true, false, Option, Some, None, refl, if◌then◌else◌}
use Rattle.ar_space.specs.Accesses.{Accesses}
use Rattle.ar_space.specs.Change.{give}
use Rattle.aml_path.specs.declared.segment.Seg.{Seg}
use Rattle.aml_grammar.specs.declared.opcode.Opcode.{Opcode}
use Rattle.aml_grammar.specs.declared.opcode.TermCode.{TermCode}
use Rattle.aml_grammar.specs.declared.opcode.TermCode.TheVariants as codes
use Rattle.aml_grammar.specs.Tree.{Tree, term, Part, null, name, number, bytes, inner, list, Parts, no_parts, part, Trees, no_trees, tree}
use Rattle.aml_grammar.specs.Apart.{code_of, operand_of}
use Rattle.aml_objects.specs.declared.value.Value.{Value}
use Rattle.aml_objects.specs.declared.value.Slot.{Slot}
use Rattle.aml_objects.specs.declared.object.Element.{Element}
use Rattle.aml_objects.specs.declared.entry.NamedObject.{NamedObject}
use Rattle.aml_world.specs.state.Run.{Run}
use Rattle.aml_world.specs.declared.values.operation_kind.OneOperand.{OneOperand}
use Rattle.aml_world.specs.declared.values.operation_kind.TwoOperands.{TwoOperands}
use Rattle.aml_world.specs.declared.values.operation_kind.Test.{Test}
use Rattle.aml_world.specs.declared.values.operation_kind.Count.{Count}
use Rattle.aml_world.specs.declared.state.invocation.Invocation.{Invocation}
use Rattle.aml_world.specs.declared.state.invocation.Invocation.TheVariants as invocations
use Rattle.aml_world.specs.declared.values.store_target.StoreTarget.{StoreTarget}
use Rattle.aml_world.specs.declared.values.store_target.Held.{Held}
use Rattle.aml_world.specs.declared.values.object_type.Referent.{Referent}
use Rattle.aml_world.specs.declared.values.object_type.Referent.TheVariants as referent
use Rattle.aml_world.specs.declared.values.store_target.Held.TheVariants as held
use Rattle.aml_world.specs.declared.values.store_target.Stored.{Stored}
use Rattle.aml_world.specs.declared.values.store_target.Stored.TheVariants as store
use Rattle.aml_world.specs.values.StoreTargets.{is_element}
use Rattle.aml_world.specs.declared.values.operation_kind.Conversion.{Conversion}
use Rattle.aml_world.specs.declared.values.operation_kind.EventChange.{EventChange}
use Rattle.aml_world.specs.declared.values.searches.Search.{Search}
use Rattle.aml_meaning.specs.declared.flow.Flow.{Flow}
use Rattle.aml_meaning.specs.declared.term_kind.TermKind.{TermKind}
use Rattle.aml_meaning.specs.declared.term_kind.TermKind.TheVariants as kinds
use Rattle.aml_meaning.proofs.Agree.{Agree, agree_give, agree_stop, agree_settle, agree_lift, agree_charge, agree_bind}
use Rattle.aml_meaning.specs.Terms.{kind_of, target_kind}
use Rattle.aml_objects.specs.declared.value.Reference.{Reference}
use Rattle.aml_meaning.specs.declared.term_kind.DataKind.{DataKind}
use Rattle.aml_meaning.specs.declared.term_kind.DataKind.TheVariants as datas
use Rattle.aml_meaning.specs.declared.term_kind.DeclarationKind.{DeclarationKind}
use Rattle.aml_meaning.specs.declared.term_kind.DeclarationKind.TheVariants as declarations
use Rattle.aml_meaning.specs.declared.term_kind.OperatorKind.{OperatorKind}
use Rattle.aml_meaning.specs.declared.term_kind.OperatorKind.TheVariants as operators
use Rattle.aml_meaning.specs.declared.term_kind.StatementKind.{StatementKind}
use Rattle.aml_meaning.specs.declared.term_kind.StatementKind.TheVariants as statements
use Rattle.aml_objects.specs.declared.entry.Field.{Field}
use Rattle.aml_meaning.specs.declared.term_kind.TargetKind.{TargetKind}
use Rattle.aml_meaning.specs.declared.term_kind.TargetKind.TheVariants as target
use Rattle.aml_meaning.specs.declared.term_kind.RegionKind.{RegionKind}
use Rattle.aml_meaning.specs.declared.term_kind.RegionKind.TheVariants as regions
use Rattle.aml_meaning.specs.Tasks.{Task, operand_value, value_at, two_values, operand_integer, goes_on, in_turn}
use Rattle.aml_meaning.specs.DataTerms.{constant_rule, integer_rule, string_rule, buffer_rule, named_element, valued_element, element_by, elements_in_turn, package_of, package_rule, var_package_rule, data_rule}
use Rattle.aml_meaning.specs.DeclarationTerms.{declaring, name_rule, alias_rule, method_rule, scope_rule, new_scope, declaration_rule}
use Rattle.aml_meaning.specs.TargetTerms.{name_target, indexed_target, dereferenced_target, target_by_kind, target_of, first_target, part_target, target_by, target_at, targeted}
use Rattle.aml_meaning.specs.OperatorTerms.{slot_rule, store_rule, copy_rule, two_rule, divide_rule, one_rule, test_rule, lnot_rule, count_rule, referent_of_value, referent_of_target, referent_by_kind, referent_by, size_rule, type_rule, acquire_rule, reference_rule, dereference_rule, sought_name, sought_target, sought, reference_stored, reference_found, conditional_rule, operator_rule}
use Rattle.aml_meaning.specs.StatementTerms.{otherwise, branch, if_rule, else_rule, turn_of, turn, loop_end, after_turn, turns, loop, while_rule, return_rule, release_rule, notify_rule, pause_rule, fatal_rule, statement_rule}
use Rattle.aml_meaning.specs.Calls.{leaving, invoked, method_value}
use Rattle.aml_meaning.specs.InvocationTerms.{arguments_in_turn, call_rule, osi_rule, field_rule, invocation_rule, name_value}
use Rattle.aml_meaning.specs.FieldCalls.{asked, method_integer, answer_over, answer_within, field_read, held_value, held_integer, referent_read, completed, stored_to, back_to, stored_back}
use Rattle.aml_meaning.specs.FieldTerms.{fields_laid, region_rule, field_list_rule, index_list_rule, sized_field_rule, bits_field_rule, region_term_rule}
use Rattle.aml_meaning.proofs.AgreeItems.{agree_item}
use Rattle.aml_meaning.proofs.AgreeFields.{agree_field_value, agree_field_integer, agree_field_part, agree_field_referent, agree_field_stored}
use Rattle.aml_meaning.specs.declared.term_kind.WideKind.{WideKind}
use Rattle.aml_meaning.specs.declared.term_kind.WideKind.TheVariants as wides
use Rattle.aml_meaning.specs.MatchTerms.{held_meets, if_held, element_meets, found_or, none_matches, searched_last, match_rule}
use Rattle.aml_meaning.specs.BankTerms.{banked_laid, bank_list_rule}
use Rattle.aml_meaning.specs.WideTerms.{formed_at, convert_rule, to_string_rule, middle_rule, event_rule, wait_rule, wide_rule}
use Rattle.aml_meaning.specs.Evaluation.{kind_rule, code_rule, rule}

module _ {S : Type 0} {n : ℕ} (accesses : Accesses S) (ev ew : Task → Run S Flow) (parts : (t : Task) → Agree n (ev t) (ew t)) where
  agree_value : (scope : List Seg) (depth : ℕ) (t : Tree) → Agree n (operand_value ev scope depth t) (operand_value ew scope depth t)
  unfolding operand_value
  agree_value scope depth t = agree_bind _ _ _ _ (parts _) (λ f. agree_settle _)

  agree_after : (go : Bool) (f : Flow) (m k : Run S Flow) → Agree n m k → Agree n (if go then m else give f) (if go then k else give f)
  agree_after true f m k h = h
  agree_after false f m k h = agree_give _

  agree_turn : (scope : List Seg) (depth : ℕ) (ts : Trees) → Agree n (in_turn ev scope depth ts) (in_turn ew scope depth ts)
  unfolding in_turn
  agree_turn scope depth no_trees = agree_give _
  agree_turn scope depth (tree t ts) = agree_bind _ _ _ _ (agree_item ev ew parts scope depth t) (λ f. agree_after (goes_on f) f _ _ (agree_turn scope depth ts))

  agree_leaving : (p : List Seg) (m k : Run S Flow) → Agree n m k → Agree n (leaving p m) (leaving p k)
  unfolding leaving
  agree_leaving p m k h = record { same = λ s le. rw (h.same s le) refl; less = λ s le. h.less s le }

  agree_invoked : (depth : ℕ) (p : List Seg) (body : List ℕ) (arguments : List Value) → Agree n (invoked ev depth p body arguments) (invoked ew depth p body arguments)
  unfolding invoked
  agree_invoked depth p body arguments = agree_bind _ _ _ _ (agree_lift _) (λ few. agree_bind _ _ _ _ (agree_lift _) (λ ts. agree_bind _ _ _ _ (agree_lift _) (λ frame. agree_leaving p _ _ (agree_turn p _ ts))))

  agree_method_value : (depth : ℕ) (p : List Seg) (body : List ℕ) (arguments : List Value) → Agree n (method_value ev depth p body arguments) (method_value ew depth p body arguments)
  unfolding method_value
  agree_method_value depth p body arguments = agree_bind _ _ _ _ (agree_invoked depth p body arguments) (λ f. agree_give _)

  -- ---- field units

  agree_asked : (answer other : Invocation → Run S ℕ) → ((i : Invocation) → Agree n (answer i) (other i)) → (p : List Seg) → Agree n (asked answer p) (asked other p)
  unfolding asked
  agree_asked answer other alike p = agree_bind _ _ _ _ (agree_lift _) (λ i. alike i)

  agree_over : (k : ℕ) (call other : List Seg → Run S ℕ) → ((p : List Seg) → Agree n (call p) (other p)) → (i : Invocation) → Agree n (answer_over accesses ev k call i) (answer_over accesses ew k other i)
  unfolding method_integer
  agree_over k call other alike (invocations.Value v) = agree_settle _
  agree_over k call other alike (invocations.Field u) = agree_field_part accesses call other alike u
  agree_over k call other alike (invocations.Method p body) = agree_bind _ _ _ _ (agree_method_value _ p body _) (λ v. agree_settle _)
  agree_over k call other alike invocations.Osi = agree_stop _

  agree_answer : (k : ℕ) (i : Invocation) → Agree n (answer_within accesses ev k i) (answer_within accesses ew k i)
  unfolding answer_within
  agree_answer zero i = agree_stop _
  agree_answer (suc k) i = agree_bind _ _ _ _ (agree_lift _) (λ few. agree_over k _ _ (agree_asked _ _ (agree_answer k)) i)

  agree_read : (depth : ℕ) (u : Field) → Agree n (field_read accesses ev depth u) (field_read accesses ew depth u)
  agree_read depth u = agree_field_value accesses _ _ (agree_asked _ _ (agree_answer (32 - depth))) u

  agree_held : (depth : ℕ) (h : Held) → Agree n (held_integer accesses ev depth h) (held_integer accesses ew depth h)
  agree_held depth (held.Value v) = agree_lift _
  agree_held depth (held.Field u) = agree_field_integer accesses _ _ (agree_asked _ _ (agree_answer (32 - depth))) u

  agree_referent_read : (depth : ℕ) (r : Referent) → Agree n (referent_read accesses ev depth r) (referent_read accesses ew depth r)
  agree_referent_read depth (referent.Value v) = agree_give _
  agree_referent_read depth (referent.Object t) = agree_give _
  agree_referent_read depth (referent.Field u) = agree_field_referent accesses _ _ (agree_asked _ _ (agree_answer (32 - depth))) u
  agree_referent_read depth (referent.Bytes n) = agree_give _

  agree_completed : (depth : ℕ) (s : Stored) (v : Value) → Agree n (completed accesses ev depth s v) (completed accesses ew depth s v)
  agree_completed depth store.Done v = agree_give _
  agree_completed depth (store.Field u) v = agree_field_stored accesses _ _ (agree_asked _ _ (agree_answer (32 - depth))) u v

  agree_stored_to : (depth : ℕ) (p : StoreTarget) (v : Value) → Agree n (stored_to accesses ev depth p v) (stored_to accesses ew depth p v)
  unfolding stored_to
  agree_stored_to depth p v = agree_bind _ _ _ _ (agree_lift _) (λ s. agree_completed depth s v)

  agree_back_to : (b : Bool) (depth : ℕ) (h : Held) (p : StoreTarget) (v : Value) → Agree n (back_to accesses ev b depth h p v) (back_to accesses ew b depth h p v)
  agree_back_to true depth h p v = agree_stored_to depth p v
  agree_back_to false depth (held.Value old) p v = agree_stored_to depth p v
  agree_back_to false depth (held.Field u) p v = agree_field_stored accesses _ _ (agree_asked _ _ (agree_answer (32 - depth))) u v

  agree_stored_back : (depth : ℕ) (h : Held) (p : StoreTarget) (v : Value) → Agree n (stored_back accesses ev depth h p v) (stored_back accesses ew depth h p v)
  agree_stored_back depth h p v = agree_back_to (is_element p) depth h p v

  agree_held_value : (depth : ℕ) (h : Held) → Agree n (held_value accesses ev depth h) (held_value accesses ew depth h)
  agree_held_value depth (held.Value v) = agree_give _
  agree_held_value depth (held.Field u) = agree_read depth u

  agree_constant : (k : ℕ) → Agree n (constant_rule ev k) (constant_rule ew k)
  unfolding constant_rule
  agree_constant k = agree_bind _ _ _ _ (agree_lift _) (λ v. agree_give _)

  agree_integer : (scope : List Seg) (depth : ℕ) (t : Tree) → Agree n (operand_integer ev scope depth t) (operand_integer ew scope depth t)
  unfolding operand_integer
  agree_integer scope depth t = agree_bind _ _ _ _ (agree_value scope depth t) (λ v. agree_lift _)

  agree_buffer : (scope : List Seg) (depth : ℕ) (t : Tree) → Agree n (buffer_rule ev scope depth t) (buffer_rule ew scope depth t)
  unfolding buffer_rule
  agree_buffer scope depth t = agree_bind _ _ _ _ (agree_settle _) (λ size. agree_bind _ _ _ _ (agree_integer scope depth size) (λ k. agree_bind _ _ _ _ (agree_settle _) (λ bytes. agree_bind _ _ _ _ (agree_lift _) (λ v. agree_give _))))

  agree_named : (scope : List Seg) (t : Tree) → Agree n (named_element ev scope t) (named_element ew scope t)
  unfolding named_element
  agree_named scope t = agree_bind _ _ _ _ agree_charge (λ u. agree_bind _ _ _ _ (agree_settle _) (λ x. agree_give _))

  agree_valued : (scope : List Seg) (depth : ℕ) (t : Tree) → Agree n (valued_element ev scope depth t) (valued_element ew scope depth t)
  unfolding valued_element
  agree_valued scope depth t = agree_bind _ _ _ _ (agree_value scope depth t) (λ v. agree_give _)

  agree_element : (c : TermCode) (scope : List Seg) (depth : ℕ) (t : Tree) → Agree n (element_by ev c scope depth t) (element_by ew c scope depth t)
  agree_element codes.Name scope depth t = agree_named scope t
  agree_element (codes.Opcode op) scope depth t = agree_valued scope depth t
  agree_element codes.MethodInvocation scope depth t = agree_valued scope depth t
  agree_element codes.NamedField scope depth t = agree_valued scope depth t
  agree_element codes.ReservedField scope depth t = agree_valued scope depth t
  agree_element codes.AccessField scope depth t = agree_valued scope depth t
  agree_element codes.ExtendedAccessField scope depth t = agree_valued scope depth t
  agree_element codes.ConnectField scope depth t = agree_valued scope depth t

  agree_elements : (scope : List Seg) (depth k : ℕ) (ts : Trees) (done : List Element) → Agree n (elements_in_turn ev scope depth k ts done) (elements_in_turn ew scope depth k ts done)
  unfolding elements_in_turn
  agree_elements scope depth zero ts done = agree_give _
  agree_elements scope depth (suc k) no_trees done = agree_give _
  agree_elements scope depth (suc k) (tree t ts) done = agree_bind _ _ _ _ (agree_element (code_of t) scope depth t) (λ e. agree_elements scope depth k ts _)

  agree_package_of : (scope : List Seg) (depth k : ℕ) (ts : Trees) → Agree n (package_of ev scope depth k ts) (package_of ew scope depth k ts)
  unfolding package_of
  agree_package_of scope depth k ts = agree_bind _ _ _ _ (agree_elements scope depth k ts _) (λ es. agree_bind _ _ _ _ (agree_lift _) (λ v. agree_give _))

  agree_package : (scope : List Seg) (depth : ℕ) (t : Tree) → Agree n (package_rule ev scope depth t) (package_rule ew scope depth t)
  unfolding package_rule
  agree_package scope depth t = agree_bind _ _ _ _ (agree_settle _) (λ k. agree_bind _ _ _ _ (agree_settle _) (λ ts. agree_package_of scope depth k ts))

  agree_var_package : (scope : List Seg) (depth : ℕ) (t : Tree) → Agree n (var_package_rule ev scope depth t) (var_package_rule ew scope depth t)
  unfolding var_package_rule
  agree_var_package scope depth t = agree_bind _ _ _ _ (agree_settle _) (λ size. agree_bind _ _ _ _ (agree_integer scope depth size) (λ k. agree_bind _ _ _ _ (agree_lift _) (λ u. agree_bind _ _ _ _ (agree_settle _) (λ ts. agree_package_of scope depth k ts))))

  agree_declaring : (scope : List Seg) (depth : ℕ) (t : Tree) (position : ℕ) (o : NamedObject) → Agree n (declaring ev scope depth t position o) (declaring ew scope depth t position o)
  unfolding declaring
  agree_declaring scope depth t position o = agree_bind _ _ _ _ (agree_settle _) (λ x. agree_bind _ _ _ _ (agree_settle _) (λ p. agree_bind _ _ _ _ (agree_lift _) (λ u. agree_give _)))

  agree_name : (scope : List Seg) (depth : ℕ) (t : Tree) → Agree n (name_rule ev scope depth t) (name_rule ew scope depth t)
  unfolding name_rule
  agree_name scope depth t = agree_bind _ _ _ _ (agree_settle _) (λ d. agree_bind _ _ _ _ (agree_value scope depth d) (λ v. agree_declaring scope depth t _ _))

  agree_new_scope : (o : NamedObject) (place : ℕ) (scope : List Seg) (depth : ℕ) (t : Tree) → Agree n (new_scope ev o place scope depth t) (new_scope ew o place scope depth t)
  unfolding new_scope
  agree_new_scope o place scope depth t = agree_bind _ _ _ _ (agree_settle _) (λ x. agree_bind _ _ _ _ (agree_settle _) (λ p. agree_bind _ _ _ _ (agree_lift _) (λ u. agree_bind _ _ _ _ (agree_settle _) (λ ts. agree_turn p depth ts))))

  agree_scope : (scope : List Seg) (depth : ℕ) (t : Tree) → Agree n (scope_rule ev scope depth t) (scope_rule ew scope depth t)
  unfolding scope_rule
  agree_scope scope depth t = agree_bind _ _ _ _ (agree_settle _) (λ x. agree_bind _ _ _ _ (agree_lift _) (λ p. agree_bind _ _ _ _ (agree_settle _) (λ ts. agree_turn p depth ts)))

  agree_alias : (scope : List Seg) (depth : ℕ) (t : Tree) → Agree n (alias_rule ev scope depth t) (alias_rule ew scope depth t)
  unfolding alias_rule
  agree_alias scope depth t = agree_bind _ _ _ _ (agree_settle _) (λ x. agree_bind _ _ _ _ (agree_lift _) (λ target. agree_bind _ _ _ _ (agree_settle _) (λ y. agree_bind _ _ _ _ (agree_settle _) (λ p. agree_bind _ _ _ _ (agree_lift _) (λ u. agree_give _)))))

  agree_method : (scope : List Seg) (depth : ℕ) (t : Tree) → Agree n (method_rule ev scope depth t) (method_rule ew scope depth t)
  unfolding method_rule
  agree_method scope depth t = agree_bind _ _ _ _ (agree_settle _) (λ x. agree_bind _ _ _ _ (agree_settle _) (λ p. agree_bind _ _ _ _ (agree_settle _) (λ flags. agree_bind _ _ _ _ (agree_settle _) (λ body. agree_bind _ _ _ _ (agree_lift _) (λ u. agree_give _)))))

  agree_string : (t : Tree) → Agree n (string_rule ev t) (string_rule ew t)
  unfolding string_rule
  agree_string t = agree_bind _ _ _ _ (agree_settle _) (λ x. agree_bind _ _ _ _ (agree_lift _) (λ v. agree_give _))

  agree_number : (t : Tree) → Agree n (integer_rule ev t) (integer_rule ew t)
  unfolding integer_rule
  agree_number t = agree_bind _ _ _ _ (agree_settle _) (λ k. agree_constant k)

  agree_data : (k : DataKind) (scope : List Seg) (depth : ℕ) (t : Tree) → Agree n (data_rule ev k scope depth t) (data_rule ew k scope depth t)
  agree_data (datas.Constant k) scope depth t = agree_constant k
  agree_data datas.Integer scope depth t = agree_number t
  agree_data datas.String scope depth t = agree_string t
  agree_data datas.Buffer scope depth t = agree_buffer scope depth t
  agree_data datas.Package scope depth t = agree_package scope depth t
  agree_data datas.VarPackage scope depth t = agree_var_package scope depth t

  agree_declaration : (k : DeclarationKind) (scope : List Seg) (depth : ℕ) (t : Tree) → Agree n (declaration_rule ev k scope depth t) (declaration_rule ew k scope depth t)
  agree_declaration declarations.Scope scope depth t = agree_scope scope depth t
  agree_declaration declarations.Device scope depth t = agree_new_scope _ _ scope depth t
  agree_declaration declarations.Processor scope depth t = agree_new_scope _ _ scope depth t
  agree_declaration declarations.PowerResource scope depth t = agree_new_scope _ _ scope depth t
  agree_declaration declarations.ThermalZone scope depth t = agree_new_scope _ _ scope depth t
  agree_declaration declarations.Name scope depth t = agree_name scope depth t
  agree_declaration declarations.Alias scope depth t = agree_alias scope depth t
  agree_declaration declarations.External scope depth t = agree_give _
  agree_declaration declarations.Method scope depth t = agree_method scope depth t
  agree_declaration declarations.Mutex scope depth t = agree_declaring scope depth t _ _
  agree_declaration declarations.Event scope depth t = agree_declaring scope depth t _ _

  -- ---- places and operators

  agree_value_at : (scope : List Seg) (depth : ℕ) (t : Tree) (i : ℕ) → Agree n (value_at ev scope depth t i) (value_at ew scope depth t i)
  unfolding value_at
  agree_value_at scope depth t i = agree_bind _ _ _ _ (agree_settle _) (λ x. agree_value scope depth x)

  agree_two_values : (scope : List Seg) (depth : ℕ) (t : Tree) → Agree n (two_values ev scope depth t) (two_values ew scope depth t)
  unfolding two_values
  agree_two_values scope depth t = agree_bind _ _ _ _ (agree_value_at scope depth t 0) (λ v. agree_bind _ _ _ _ (agree_value_at scope depth t 1) (λ u. agree_give _))

  agree_indexed : (scope : List Seg) (depth : ℕ) (t : Tree) → Agree n (indexed_target ev scope depth t) (indexed_target ew scope depth t)
  unfolding indexed_target
  agree_indexed scope depth t = agree_bind _ _ _ _ (agree_value scope depth t) (λ v. agree_bind _ _ _ _ (agree_settle _) (λ r. agree_give _))

  agree_dereferenced : (scope : List Seg) (depth : ℕ) (t : Tree) → Agree n (dereferenced_target ev scope depth t) (dereferenced_target ew scope depth t)
  unfolding dereferenced_target
  agree_dereferenced scope depth t = agree_bind _ _ _ _ agree_charge (λ u. agree_bind _ _ _ _ (agree_value_at scope depth t 0) (λ v. agree_bind _ _ _ _ (agree_settle _) (λ r. agree_bind _ _ _ _ (agree_lift _) (λ there. agree_give _))))

  agree_by_kind : (scope : List Seg) (depth : ℕ) (t : Tree) (m k : Run S StoreTarget) (kind : TargetKind) → Agree n m k → Agree n (target_by_kind ev scope depth t m kind) (target_by_kind ew scope depth t k kind)
  agree_by_kind scope depth t m k target.Nowhere h = agree_give _
  agree_by_kind scope depth t m k (target.Slot slot) h = agree_give _
  agree_by_kind scope depth t m k target.RefOf h = agree_bind _ _ _ _ agree_charge (λ u. h)
  agree_by_kind scope depth t m k target.DerefOf h = agree_dereferenced scope depth t
  agree_by_kind scope depth t m k target.Index h = agree_indexed scope depth t
  agree_by_kind scope depth t m k target.Other h = agree_stop _

  mutual
    unfolding target_of

    agree_target_of : (scope : List Seg) (depth : ℕ) (t : Tree) → Agree n (target_of ev scope depth t) (target_of ew scope depth t)
    agree_target_of scope depth (term c ps) = agree_by_kind scope depth (term c ps) _ _ (target_kind c) (agree_first scope depth ps)

    agree_first : (scope : List Seg) (depth : ℕ) (ps : Parts) → Agree n (first_target ev scope depth ps) (first_target ew scope depth ps)
    agree_first scope depth no_parts = agree_stop _
    agree_first scope depth (part p ps) = agree_part scope depth p

    agree_part : (scope : List Seg) (depth : ℕ) (p : Part) → Agree n (part_target ev scope depth p) (part_target ew scope depth p)
    agree_part scope depth null = agree_give _
    agree_part scope depth (name x) = agree_lift _
    agree_part scope depth (number k) = agree_stop _
    agree_part scope depth (bytes bs) = agree_stop _
    agree_part scope depth (inner u) = agree_target_of scope depth u
    agree_part scope depth (list ts) = agree_stop _

  agree_name_target : (scope : List Seg) (t : Tree) (i : ℕ) → Agree n (name_target ev scope t i) (name_target ew scope t i)
  unfolding name_target
  agree_name_target scope t i = agree_bind _ _ _ _ (agree_settle _) (λ x. agree_lift _)

  agree_target_by : (scope : List Seg) (depth : ℕ) (t : Tree) (i : ℕ) (o : Option Part) → Agree n (target_by ev scope depth t i o) (target_by ew scope depth t i o)
  agree_target_by scope depth t i None = agree_stop _
  agree_target_by scope depth t i (Some null) = agree_give _
  agree_target_by scope depth t i (Some (name x)) = agree_name_target scope t i
  agree_target_by scope depth t i (Some (number k)) = agree_stop _
  agree_target_by scope depth t i (Some (bytes bs)) = agree_stop _
  agree_target_by scope depth t i (Some (inner u)) = agree_target_of scope depth u
  agree_target_by scope depth t i (Some (list ts)) = agree_stop _

  agree_target : (scope : List Seg) (depth : ℕ) (t : Tree) (i : ℕ) → Agree n (target_at ev scope depth t i) (target_at ew scope depth t i)
  agree_target scope depth t i = agree_target_by scope depth t i (operand_of t i)

  agree_targeted : (scope : List Seg) (depth : ℕ) (t : Tree) (i : ℕ) (v : Value) → Agree n (targeted accesses ev scope depth t i v) (targeted accesses ew scope depth t i v)
  unfolding targeted
  agree_targeted scope depth t i v = agree_bind _ _ _ _ (agree_target scope depth t i) (λ p. agree_bind _ _ _ _ (agree_stored_to depth p v) (λ done. agree_give _))

  agree_slot : (slot : Slot) → Agree n (slot_rule accesses ev slot) (slot_rule accesses ew slot)
  unfolding slot_rule
  agree_slot slot = agree_bind _ _ _ _ (agree_lift _) (λ v. agree_give _)

  agree_store : (scope : List Seg) (depth : ℕ) (t : Tree) → Agree n (store_rule accesses ev scope depth t) (store_rule accesses ew scope depth t)
  unfolding store_rule
  agree_store scope depth t = agree_bind _ _ _ _ (agree_value_at scope depth t 0) (λ v. agree_targeted scope depth t 1 v)

  agree_copy : (scope : List Seg) (depth : ℕ) (t : Tree) → Agree n (copy_rule accesses ev scope depth t) (copy_rule accesses ew scope depth t)
  unfolding copy_rule
  agree_copy scope depth t = agree_bind _ _ _ _ (agree_value_at scope depth t 0) (λ v. agree_bind _ _ _ _ (agree_target scope depth t 1) (λ p. agree_bind _ _ _ _ (agree_lift _) (λ s. agree_bind _ _ _ _ (agree_completed depth s v) (λ done. agree_give _))))

  agree_two : (k : TwoOperands) (scope : List Seg) (depth : ℕ) (t : Tree) → Agree n (two_rule accesses ev k scope depth t) (two_rule accesses ew k scope depth t)
  unfolding two_rule
  agree_two k scope depth t = agree_bind _ _ _ _ (agree_two_values scope depth t) (λ x. agree_bind _ _ _ _ (agree_lift _) (λ r. agree_targeted scope depth t 2 r))

  agree_divide : (scope : List Seg) (depth : ℕ) (t : Tree) → Agree n (divide_rule accesses ev scope depth t) (divide_rule accesses ew scope depth t)
  unfolding divide_rule
  agree_divide scope depth t = agree_bind _ _ _ _ (agree_two_values scope depth t) (λ x. agree_bind _ _ _ _ (agree_lift _) (λ d. agree_bind _ _ _ _ (agree_targeted scope depth t 2 _) (λ done. agree_targeted scope depth t 3 _)))

  agree_one : (k : OneOperand) (scope : List Seg) (depth : ℕ) (t : Tree) → Agree n (one_rule accesses ev k scope depth t) (one_rule accesses ew k scope depth t)
  unfolding one_rule
  agree_one k scope depth t = agree_bind _ _ _ _ (agree_value_at scope depth t 0) (λ v. agree_bind _ _ _ _ (agree_lift _) (λ r. agree_targeted scope depth t 1 r))

  agree_test : (k : Test) (scope : List Seg) (depth : ℕ) (t : Tree) → Agree n (test_rule accesses ev k scope depth t) (test_rule accesses ew k scope depth t)
  unfolding test_rule
  agree_test k scope depth t = agree_bind _ _ _ _ (agree_two_values scope depth t) (λ x. agree_bind _ _ _ _ (agree_lift _) (λ r. agree_give _))

  agree_lnot : (scope : List Seg) (depth : ℕ) (t : Tree) → Agree n (lnot_rule accesses ev scope depth t) (lnot_rule accesses ew scope depth t)
  unfolding lnot_rule
  agree_lnot scope depth t = agree_bind _ _ _ _ (agree_value_at scope depth t 0) (λ v. agree_bind _ _ _ _ (agree_lift _) (λ r. agree_give _))

  agree_count : (k : Count) (scope : List Seg) (depth : ℕ) (t : Tree) → Agree n (count_rule accesses ev k scope depth t) (count_rule accesses ew k scope depth t)
  unfolding count_rule
  agree_count k scope depth t = agree_bind _ _ _ _ (agree_target scope depth t 0) (λ p. agree_bind _ _ _ _ (agree_lift _) (λ h. agree_bind _ _ _ _ (agree_held depth h) (λ x. agree_bind _ _ _ _ (agree_lift _) (λ r. agree_bind _ _ _ _ (agree_stored_back depth h p r) (λ done. agree_give _)))))

  agree_referent_of_value : (scope : List Seg) (depth : ℕ) (u : Tree) → Agree n (referent_of_value accesses ev scope depth u) (referent_of_value accesses ew scope depth u)
  unfolding referent_of_value
  agree_referent_of_value scope depth u = agree_bind _ _ _ _ (agree_value scope depth u) (λ v. agree_lift _)

  agree_referent_of_target : (scope : List Seg) (depth : ℕ) (t : Tree) → Agree n (referent_of_target accesses ev scope depth t) (referent_of_target accesses ew scope depth t)
  unfolding referent_of_target
  agree_referent_of_target scope depth t = agree_bind _ _ _ _ (agree_target scope depth t 0) (λ p. agree_lift _)

  agree_referent_by_kind : (scope : List Seg) (depth : ℕ) (t u : Tree) (k : TargetKind) → Agree n (referent_by_kind accesses ev scope depth t u k) (referent_by_kind accesses ew scope depth t u k)
  agree_referent_by_kind scope depth t u target.RefOf = agree_referent_of_value scope depth u
  agree_referent_by_kind scope depth t u target.DerefOf = agree_referent_of_value scope depth u
  agree_referent_by_kind scope depth t u target.Index = agree_referent_of_value scope depth u
  agree_referent_by_kind scope depth t u target.Nowhere = agree_referent_of_target scope depth t
  agree_referent_by_kind scope depth t u (target.Slot slot) = agree_referent_of_target scope depth t
  agree_referent_by_kind scope depth t u target.Other = agree_referent_of_target scope depth t

  agree_referent_by : (scope : List Seg) (depth : ℕ) (t : Tree) (o : Option Part) → Agree n (referent_by accesses ev scope depth t o) (referent_by accesses ew scope depth t o)
  agree_referent_by scope depth t None = agree_referent_of_target scope depth t
  agree_referent_by scope depth t (Some null) = agree_referent_of_target scope depth t
  agree_referent_by scope depth t (Some (name x)) = agree_referent_of_target scope depth t
  agree_referent_by scope depth t (Some (number k)) = agree_referent_of_target scope depth t
  agree_referent_by scope depth t (Some (bytes bs)) = agree_referent_of_target scope depth t
  agree_referent_by scope depth t (Some (inner u)) = agree_referent_by_kind scope depth t u _
  agree_referent_by scope depth t (Some (list ts)) = agree_referent_of_target scope depth t

  agree_size : (scope : List Seg) (depth : ℕ) (t : Tree) → Agree n (size_rule accesses ev scope depth t) (size_rule accesses ew scope depth t)
  unfolding size_rule
  agree_size scope depth t = agree_bind _ _ _ _ (agree_referent_by scope depth t _) (λ r. agree_bind _ _ _ _ (agree_referent_read depth r) (λ s. agree_bind _ _ _ _ (agree_lift _) (λ v. agree_give _)))

  agree_type : (scope : List Seg) (depth : ℕ) (t : Tree) → Agree n (type_rule accesses ev scope depth t) (type_rule accesses ew scope depth t)
  unfolding type_rule
  agree_type scope depth t = agree_bind _ _ _ _ (agree_referent_by scope depth t _) (λ r. agree_bind _ _ _ _ (agree_referent_read depth r) (λ s. agree_give _))

  agree_reference : (scope : List Seg) (depth : ℕ) (t : Tree) → Agree n (reference_rule accesses ev scope depth t) (reference_rule accesses ew scope depth t)
  unfolding reference_rule
  agree_reference scope depth t = agree_bind _ _ _ _ (agree_target scope depth t 0) (λ p. agree_bind _ _ _ _ (agree_lift _) (λ r. agree_give _))

  agree_dereference : (scope : List Seg) (depth : ℕ) (t : Tree) → Agree n (dereference_rule accesses ev scope depth t) (dereference_rule accesses ew scope depth t)
  unfolding dereference_rule
  agree_dereference scope depth t = agree_bind _ _ _ _ (agree_value_at scope depth t 0) (λ v. agree_bind _ _ _ _ (agree_settle _) (λ r. agree_bind _ _ _ _ (agree_lift _) (λ h. agree_bind _ _ _ _ (agree_held_value depth h) (λ x. agree_give _))))

  agree_sought_name : (scope : List Seg) (t : Tree) → Agree n (sought_name accesses ev scope t) (sought_name accesses ew scope t)
  unfolding sought_name
  agree_sought_name scope t = agree_bind _ _ _ _ (agree_settle _) (λ x. agree_lift _)

  agree_sought_target : (scope : List Seg) (depth : ℕ) (t : Tree) → Agree n (sought_target accesses ev scope depth t) (sought_target accesses ew scope depth t)
  unfolding sought_target
  agree_sought_target scope depth t = agree_bind _ _ _ _ (agree_target scope depth t 0) (λ p. agree_bind _ _ _ _ (agree_lift _) (λ r. agree_lift _))

  agree_sought : (scope : List Seg) (depth : ℕ) (t : Tree) (o : Option Part) → Agree n (sought accesses ev scope depth t o) (sought accesses ew scope depth t o)
  agree_sought scope depth t None = agree_sought_target scope depth t
  agree_sought scope depth t (Some null) = agree_sought_target scope depth t
  agree_sought scope depth t (Some (name x)) = agree_sought_name scope t
  agree_sought scope depth t (Some (number k)) = agree_sought_target scope depth t
  agree_sought scope depth t (Some (bytes bs)) = agree_sought_target scope depth t
  agree_sought scope depth t (Some (inner u)) = agree_sought_target scope depth t
  agree_sought scope depth t (Some (list ts)) = agree_sought_target scope depth t

  agree_reference_found : (scope : List Seg) (depth : ℕ) (t : Tree) (o : Option Reference) → Agree n (reference_found accesses ev scope depth t o) (reference_found accesses ew scope depth t o)
  unfolding reference_stored
  agree_reference_found scope depth t None = agree_give _
  agree_reference_found scope depth t (Some r) = agree_bind _ _ _ _ (agree_targeted scope depth t 1 _) (λ done. agree_bind _ _ _ _ (agree_lift _) (λ v. agree_give _))

  agree_conditional : (scope : List Seg) (depth : ℕ) (t : Tree) → Agree n (conditional_rule accesses ev scope depth t) (conditional_rule accesses ew scope depth t)
  unfolding conditional_rule
  agree_conditional scope depth t = agree_bind _ _ _ _ (agree_sought scope depth t _) (λ o. agree_reference_found scope depth t o)

  agree_acquire : (scope : List Seg) (depth : ℕ) (t : Tree) → Agree n (acquire_rule accesses ev scope depth t) (acquire_rule accesses ew scope depth t)
  unfolding acquire_rule
  agree_acquire scope depth t = agree_bind _ _ _ _ (agree_target scope depth t 0) (λ p. agree_bind _ _ _ _ (agree_lift _) (λ done. agree_give _))

  agree_operator : (k : OperatorKind) (scope : List Seg) (depth : ℕ) (t : Tree) → Agree n (operator_rule accesses ev k scope depth t) (operator_rule accesses ew k scope depth t)
  agree_operator (operators.Slot slot) scope depth t = agree_slot slot
  agree_operator operators.Store scope depth t = agree_store scope depth t
  agree_operator operators.CopyObject scope depth t = agree_copy scope depth t
  agree_operator (operators.Two k) scope depth t = agree_two k scope depth t
  agree_operator operators.Divide scope depth t = agree_divide scope depth t
  agree_operator (operators.One k) scope depth t = agree_one k scope depth t
  agree_operator (operators.Test k) scope depth t = agree_test k scope depth t
  agree_operator operators.LNot scope depth t = agree_lnot scope depth t
  agree_operator (operators.Count k) scope depth t = agree_count k scope depth t
  agree_operator operators.SizeOf scope depth t = agree_size scope depth t
  agree_operator operators.ObjectType scope depth t = agree_type scope depth t
  agree_operator operators.Acquire scope depth t = agree_acquire scope depth t
  agree_operator operators.RefOf scope depth t = agree_reference scope depth t
  agree_operator operators.CondRefOf scope depth t = agree_conditional scope depth t
  agree_operator operators.DerefOf scope depth t = agree_dereference scope depth t

  -- ---- statements

  agree_otherwise : (scope : List Seg) (depth : ℕ) (e : Option Tree) → Agree n (otherwise ev scope depth e) (otherwise ew scope depth e)
  agree_otherwise scope depth None = agree_give _
  agree_otherwise scope depth (Some e) = parts _

  agree_branch : (scope : List Seg) (depth : ℕ) (ts : Trees) (e : Option Tree) (b : Bool) → Agree n (branch ev scope depth ts e b) (branch ew scope depth ts e b)
  agree_branch scope depth ts e true = agree_turn scope depth ts
  agree_branch scope depth ts e false = agree_otherwise scope depth e

  agree_if : (scope : List Seg) (depth : ℕ) (t : Tree) → Agree n (if_rule ev scope depth t) (if_rule ew scope depth t)
  unfolding if_rule
  agree_if scope depth t = agree_bind _ _ _ _ (agree_settle _) (λ c. agree_bind _ _ _ _ (agree_settle _) (λ ts. agree_bind _ _ _ _ (agree_integer scope depth c) (λ x. agree_branch scope depth ts _ _)))

  agree_else : (scope : List Seg) (depth : ℕ) (t : Tree) → Agree n (else_rule ev scope depth t) (else_rule ew scope depth t)
  unfolding else_rule
  agree_else scope depth t = agree_bind _ _ _ _ (agree_settle _) (λ ts. agree_turn scope depth ts)

  pub agree_turn_of : (scope : List Seg) (depth : ℕ) (ts : Trees) (b : Bool) → Agree n (turn_of ev scope depth ts b) (turn_of ew scope depth ts b)
  agree_turn_of scope depth ts true = agree_turn scope depth ts
  agree_turn_of scope depth ts false = agree_give _

  agree_turning : (scope : List Seg) (depth : ℕ) (c : Tree) (ts : Trees) → Agree n (turn ev scope depth c ts) (turn ew scope depth c ts)
  unfolding turn
  agree_turning scope depth c ts = agree_bind _ _ _ _ (agree_integer scope depth c) (λ x. agree_turn_of scope depth ts _)

  agree_after_turn : (o : Option Flow) (m k : Run S Flow) → Agree n m k → Agree n (after_turn ev o m) (after_turn ew o k)
  agree_after_turn None m k h = h
  agree_after_turn (Some f) m k h = agree_give _

  agree_turns : (k : ℕ) (scope : List Seg) (depth : ℕ) (c : Tree) (ts : Trees) → Agree n (turns ev k scope depth c ts) (turns ew k scope depth c ts)
  unfolding turns
  agree_turns zero scope depth c ts = agree_stop _
  agree_turns (suc k) scope depth c ts = agree_bind _ _ _ _ (agree_turning scope depth c ts) (λ f. agree_after_turn (loop_end f) _ _ (agree_turns k scope depth c ts))

  agree_loop : (scope : List Seg) (depth : ℕ) (c : Tree) (ts : Trees) → Agree n (loop ev scope depth c ts) (loop ew scope depth c ts)
  unfolding loop
  agree_loop scope depth c ts = record { same = λ s le. (agree_turns (suc s.1) scope depth c ts).same s le; less = λ s le. (agree_turns (suc s.1) scope depth c ts).less s le }

  agree_while : (scope : List Seg) (depth : ℕ) (t : Tree) → Agree n (while_rule ev scope depth t) (while_rule ew scope depth t)
  unfolding while_rule
  agree_while scope depth t = agree_bind _ _ _ _ (agree_settle _) (λ c. agree_bind _ _ _ _ (agree_settle _) (λ ts. agree_loop scope depth c ts))

  agree_return : (scope : List Seg) (depth : ℕ) (t : Tree) → Agree n (return_rule ev scope depth t) (return_rule ew scope depth t)
  unfolding return_rule
  agree_return scope depth t = agree_bind _ _ _ _ (agree_value_at scope depth t 0) (λ v. agree_give _)

  agree_release : (scope : List Seg) (depth : ℕ) (t : Tree) → Agree n (release_rule ev scope depth t) (release_rule ew scope depth t)
  unfolding release_rule
  agree_release scope depth t = agree_bind _ _ _ _ (agree_target scope depth t 0) (λ p. agree_bind _ _ _ _ (agree_lift _) (λ done. agree_give _))

  agree_notify : (scope : List Seg) (depth : ℕ) (t : Tree) → Agree n (notify_rule ev scope depth t) (notify_rule ew scope depth t)
  unfolding notify_rule
  agree_notify scope depth t = agree_bind _ _ _ _ (agree_target scope depth t 0) (λ p. agree_bind _ _ _ _ (agree_value_at scope depth t 1) (λ v. agree_give _))

  agree_pause : (scope : List Seg) (depth : ℕ) (t : Tree) → Agree n (pause_rule ev scope depth t) (pause_rule ew scope depth t)
  unfolding pause_rule
  agree_pause scope depth t = agree_bind _ _ _ _ (agree_value_at scope depth t 0) (λ v. agree_give _)

  agree_fatal : (scope : List Seg) (depth : ℕ) (t : Tree) → Agree n (fatal_rule ev scope depth t) (fatal_rule ew scope depth t)
  unfolding fatal_rule
  agree_fatal scope depth t = agree_bind _ _ _ _ (agree_value_at scope depth t 2) (λ v. agree_stop _)

  agree_statement : (k : StatementKind) (scope : List Seg) (depth : ℕ) (t : Tree) → Agree n (statement_rule ev k scope depth t) (statement_rule ew k scope depth t)
  agree_statement statements.If scope depth t = agree_if scope depth t
  agree_statement statements.Else scope depth t = agree_else scope depth t
  agree_statement statements.While scope depth t = agree_while scope depth t
  agree_statement statements.Break scope depth t = agree_give _
  agree_statement statements.Continue scope depth t = agree_give _
  agree_statement statements.Noop scope depth t = agree_give _
  agree_statement statements.Return scope depth t = agree_return scope depth t
  agree_statement statements.Release scope depth t = agree_release scope depth t
  agree_statement statements.Notify scope depth t = agree_notify scope depth t
  agree_statement statements.Pause scope depth t = agree_pause scope depth t
  agree_statement statements.Fatal scope depth t = agree_fatal scope depth t

  -- ---- calls

  agree_arguments : (scope : List Seg) (depth : ℕ) (ts : Trees) (done : List Value) → Agree n (arguments_in_turn ev scope depth ts done) (arguments_in_turn ew scope depth ts done)
  unfolding arguments_in_turn
  agree_arguments scope depth no_trees done = agree_give _
  agree_arguments scope depth (tree t ts) done = agree_bind _ _ _ _ (agree_value scope depth t) (λ v. agree_arguments scope depth ts _)

  agree_call : (scope : List Seg) (depth : ℕ) (ts : Trees) (p : List Seg) (body : List ℕ) → Agree n (call_rule ev scope depth ts p body) (call_rule ew scope depth ts p body)
  unfolding call_rule
  agree_call scope depth ts p body = agree_bind _ _ _ _ (agree_arguments scope depth ts _) (λ arguments. agree_invoked depth p body arguments)

  agree_osi : (scope : List Seg) (depth : ℕ) (ts : Trees) → Agree n (osi_rule ev scope depth ts) (osi_rule ew scope depth ts)
  unfolding osi_rule
  agree_osi scope depth ts = agree_bind _ _ _ _ (agree_arguments scope depth ts _) (λ arguments. agree_bind _ _ _ _ (agree_lift _) (λ few. agree_bind _ _ _ _ (agree_lift _) (λ v. agree_give _)))

  agree_invocation : (scope : List Seg) (depth : ℕ) (ts : Trees) (i : Invocation) → Agree n (invocation_rule accesses ev scope depth ts i) (invocation_rule accesses ew scope depth ts i)
  unfolding field_rule
  agree_invocation scope depth ts (invocations.Value v) = agree_give _
  agree_invocation scope depth ts (invocations.Field u) = agree_bind _ _ _ _ (agree_read depth u) (λ v. agree_give _)
  agree_invocation scope depth ts (invocations.Method p body) = agree_call scope depth ts p body
  agree_invocation scope depth ts invocations.Osi = agree_osi scope depth ts

  agree_name_value : (scope : List Seg) (depth : ℕ) (t : Tree) → Agree n (name_value accesses ev scope depth t) (name_value accesses ew scope depth t)
  unfolding name_value
  agree_name_value scope depth t = agree_bind _ _ _ _ (agree_settle _) (λ x. agree_bind _ _ _ _ (agree_settle _) (λ ts. agree_bind _ _ _ _ (agree_lift _) (λ i. agree_invocation scope depth ts i)))

  -- ---- operation regions and fields

  agree_region : (scope : List Seg) (depth : ℕ) (t : Tree) → Agree n (region_rule ev scope depth t) (region_rule ew scope depth t)
  unfolding region_rule
  agree_region scope depth t =
      agree_bind _ _ _ _ (agree_settle _) (λ space. agree_bind _ _ _ _ (agree_value_at scope depth t 2) (λ offset. agree_bind _ _ _ _ (agree_value_at scope depth t 3) (λ size. agree_bind _ _ _ _ (agree_lift _) (λ x. agree_bind _ _ _ _ (agree_lift _) (λ y. agree_declaring scope depth t _ _)))))

  agree_region_term : (k : RegionKind) (scope : List Seg) (depth : ℕ) (t : Tree) → Agree n (region_term_rule ev k scope depth t) (region_term_rule ew k scope depth t)
  unfolding field_list_rule index_list_rule fields_laid sized_field_rule bits_field_rule
  agree_region_term regions.OperationRegion scope depth t = agree_region scope depth t
  agree_region_term regions.Field scope depth t =
      agree_bind _ _ _ _ (agree_settle _) (λ ts. agree_bind _ _ _ _ (agree_lift _) (λ asked. agree_bind _ _ _ _ (agree_settle _) (λ x. agree_bind _ _ _ _ (agree_lift _) (λ region. agree_bind _ _ _ _ (agree_settle _) (λ flags. agree_bind _ _ _ _ (agree_lift _) (λ laid. agree_give _))))))
  agree_region_term regions.IndexField scope depth t =
      agree_bind _ _ _ _ (agree_settle _) (λ ts. agree_bind _ _ _ _ (agree_lift _) (λ asked. agree_bind _ _ _ _ (agree_settle _) (λ x. agree_bind _ _ _ _ (agree_lift _) (λ index. agree_bind _ _ _ _ (agree_settle _) (λ y. agree_bind _ _ _ _ (agree_lift _) (λ behind. agree_bind _ _ _ _ (agree_settle _) (λ flags. agree_bind _ _ _ _ (agree_lift _) (λ laid. agree_give _))))))))
  agree_region_term (regions.SizedBufferField size) scope depth t =
      agree_bind _ _ _ _ (agree_two_values scope depth t) (λ x. agree_bind _ _ _ _ (agree_settle _) (λ o. agree_bind _ _ _ _ (agree_lift _) (λ i. agree_bind _ _ _ _ (agree_lift _) (λ b. agree_declaring scope depth t _ _))))
  agree_region_term regions.BufferField scope depth t =
      agree_bind _ _ _ _ (agree_value_at scope depth t 0) (λ source. agree_bind _ _ _ _ (agree_value_at scope depth t 1) (λ index. agree_bind _ _ _ _ (agree_value_at scope depth t 2) (λ count. agree_bind _ _ _ _ (agree_settle _) (λ o. agree_bind _ _ _ _ (agree_lift _) (λ i. agree_bind _ _ _ _ (agree_lift _) (λ k. agree_bind _ _ _ _ (agree_settle _) (λ bits. agree_bind _ _ _ _ (agree_lift _) (λ b. agree_declaring scope depth t _ _))))))))

  -- ---- terms of the wide profile

  agree_formed : (scope : List Seg) (depth : ℕ) (t : Tree) (i : ℕ) (v : Value) → Agree n (formed_at accesses ev scope depth t i v) (formed_at accesses ew scope depth t i v)
  unfolding formed_at
  agree_formed scope depth t i v = agree_bind _ _ _ _ (agree_target scope depth t i) (λ p. agree_bind _ _ _ _ (agree_lift _) (λ s. agree_bind _ _ _ _ (agree_completed depth s v) (λ done. agree_give _)))

  agree_convert : (k : Conversion) (scope : List Seg) (depth : ℕ) (t : Tree) → Agree n (convert_rule accesses ev k scope depth t) (convert_rule accesses ew k scope depth t)
  unfolding convert_rule
  agree_convert k scope depth t = agree_bind _ _ _ _ (agree_value_at scope depth t 0) (λ v. agree_bind _ _ _ _ (agree_lift _) (λ r. agree_formed scope depth t 1 r))

  agree_to_string : (scope : List Seg) (depth : ℕ) (t : Tree) → Agree n (to_string_rule accesses ev scope depth t) (to_string_rule accesses ew scope depth t)
  unfolding to_string_rule
  agree_to_string scope depth t = agree_bind _ _ _ _ (agree_two_values scope depth t) (λ x. agree_bind _ _ _ _ (agree_lift _) (λ r. agree_formed scope depth t 2 r))

  agree_middle : (scope : List Seg) (depth : ℕ) (t : Tree) → Agree n (middle_rule accesses ev scope depth t) (middle_rule accesses ew scope depth t)
  unfolding middle_rule
  agree_middle scope depth t = agree_bind _ _ _ _ (agree_two_values scope depth t) (λ x. agree_bind _ _ _ _ (agree_value_at scope depth t 2) (λ k. agree_bind _ _ _ _ (agree_lift _) (λ r. agree_targeted scope depth t 3 r)))

  agree_if_held : (depth : ℕ) (x : Search) (o : Option Held) → Agree n (if_held accesses ev depth x o) (if_held accesses ew depth x o)
  unfolding held_meets
  agree_if_held depth x None = agree_give _
  agree_if_held depth x (Some h) = agree_bind _ _ _ _ (agree_held_value depth h) (λ v. agree_lift _)

  agree_found_or : (met : Bool) (i : ℕ) (m k : Run S Flow) → Agree n m k → Agree n (found_or met i m) (found_or met i k)
  agree_found_or true i m k h = agree_give _
  agree_found_or false i m k h = h

  agree_searched : (depth : ℕ) (x : Search) (left : ℕ) → Agree n (searched_last accesses ev depth x left) (searched_last accesses ew depth x left)
  unfolding searched_last none_matches element_meets
  agree_searched depth x zero = agree_bind _ _ _ _ (agree_lift _) (λ v. agree_give _)
  agree_searched depth x (suc k) = agree_bind _ _ _ _ (agree_bind _ _ _ _ (agree_lift _) (λ o. agree_if_held depth x o)) (λ met. agree_found_or met _ _ _ (agree_searched depth x k))

  agree_match : (scope : List Seg) (depth : ℕ) (t : Tree) → Agree n (match_rule accesses ev scope depth t) (match_rule accesses ew scope depth t)
  unfolding match_rule
  agree_match scope depth t =
      agree_bind _ _ _ _ (agree_value_at scope depth t 0) (λ p. agree_bind _ _ _ _ (agree_settle _) (λ k. agree_bind _ _ _ _ (agree_value_at scope depth t 2) (λ a. agree_bind _ _ _ _ (agree_settle _) (λ l. agree_bind _ _ _ _ (agree_value_at scope depth t 4) (λ b.
      agree_bind _ _ _ _ (agree_value_at scope depth t 5) (λ i. agree_bind _ _ _ _ (agree_lift _) (λ x. agree_searched depth x.search x.left)))))))

  agree_event : (k : EventChange) (scope : List Seg) (depth : ℕ) (t : Tree) → Agree n (event_rule accesses ev k scope depth t) (event_rule accesses ew k scope depth t)
  unfolding event_rule
  agree_event k scope depth t = agree_bind _ _ _ _ (agree_target scope depth t 0) (λ p. agree_bind _ _ _ _ (agree_lift _) (λ e. agree_bind _ _ _ _ (agree_lift _) (λ done. agree_give _)))

  agree_wait : (scope : List Seg) (depth : ℕ) (t : Tree) → Agree n (wait_rule accesses ev scope depth t) (wait_rule accesses ew scope depth t)
  unfolding wait_rule
  agree_wait scope depth t = agree_bind _ _ _ _ (agree_target scope depth t 0) (λ p. agree_bind _ _ _ _ (agree_lift _) (λ e. agree_bind _ _ _ _ (agree_value_at scope depth t 1) (λ v. agree_bind _ _ _ _ (agree_lift _) (λ r. agree_give _))))

  agree_bank_list : (scope : List Seg) (depth : ℕ) (t : Tree) → Agree n (bank_list_rule ev scope depth t) (bank_list_rule ew scope depth t)
  unfolding bank_list_rule banked_laid fields_laid
  agree_bank_list scope depth t =
      agree_bind _ _ _ _ (agree_settle _) (λ x. agree_bind _ _ _ _ (agree_lift _) (λ region. agree_bind _ _ _ _ (agree_settle _) (λ y. agree_bind _ _ _ _ (agree_lift _) (λ bank. agree_bind _ _ _ _ (agree_value_at scope depth t 2) (λ v.
      agree_bind _ _ _ _ (agree_settle _) (λ flags. agree_bind _ _ _ _ (agree_settle _) (λ ts. agree_bind _ _ _ _ (agree_lift _) (λ k. agree_bind _ _ _ _ (agree_lift _) (λ laid. agree_give _)))))))))

  agree_wide : (k : WideKind) (scope : List Seg) (depth : ℕ) (t : Tree) → Agree n (wide_rule accesses ev k scope depth t) (wide_rule accesses ew k scope depth t)
  agree_wide (wides.Convert k) scope depth t = agree_convert k scope depth t
  agree_wide wides.ToString scope depth t = agree_to_string scope depth t
  agree_wide wides.Mid scope depth t = agree_middle scope depth t
  agree_wide wides.Match scope depth t = agree_match scope depth t
  agree_wide (wides.Event k) scope depth t = agree_event k scope depth t
  agree_wide wides.Wait scope depth t = agree_wait scope depth t
  agree_wide wides.BankField scope depth t = agree_bank_list scope depth t

  -- ---- which rule

  agree_kind : (k : TermKind) (op : Opcode) (scope : List Seg) (depth : ℕ) (t : Tree) → Agree n (kind_rule accesses ev k op scope depth t) (kind_rule accesses ew k op scope depth t)
  agree_kind (kinds.Data k) op scope depth t = agree_data k scope depth t
  agree_kind (kinds.Declaration k) op scope depth t = agree_declaration k scope depth t
  agree_kind (kinds.Region k) op scope depth t = agree_region_term k scope depth t
  agree_kind (kinds.Operator k) op scope depth t = agree_operator k scope depth t
  agree_kind (kinds.Statement k) op scope depth t = agree_statement k scope depth t
  agree_kind (kinds.Wide k) op scope depth t = agree_bind _ _ _ _ (agree_lift _) (λ wide. agree_wide k scope depth t)
  agree_kind kinds.Unsupported op scope depth t = agree_stop _

  agree_code : (c : TermCode) (scope : List Seg) (depth : ℕ) (t : Tree) → Agree n (code_rule accesses ev c scope depth t) (code_rule accesses ew c scope depth t)
  agree_code (codes.Opcode op) scope depth t = agree_kind (kind_of op) op scope depth t
  agree_code codes.MethodInvocation scope depth t = agree_name_value scope depth t
  agree_code codes.Name scope depth t = agree_stop _
  agree_code codes.NamedField scope depth t = agree_stop _
  agree_code codes.ReservedField scope depth t = agree_stop _
  agree_code codes.AccessField scope depth t = agree_stop _
  agree_code codes.ExtendedAccessField scope depth t = agree_stop _
  agree_code codes.ConnectField scope depth t = agree_stop _

  pub agree_rule : (t : Task) → Agree n (rule accesses ev t) (rule accesses ew t)
  unfolding rule
  agree_rule t = agree_code (code_of t.term) t.scope t.depth t.term
