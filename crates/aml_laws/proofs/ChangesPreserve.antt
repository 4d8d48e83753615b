-- Finding names, making objects and names, operators and calls preserve every world relation.
use Rattle.std.specs.Prelude.{◌≡◌, ℕ, List, Bool, Ok, Err, refl}
use Rattle.std.proofs.Common.{ap, ◌∙◌}
use Rattle.ar_space.specs.Accesses.{Accesses}
use Rattle.ar_space.specs.Change.{Change, give, settle, go_on, ◌>>=◌}
use Rattle.ar_space.specs.Outcome.{Outcome}
use Rattle.aml_path.specs.declared.segment.Seg.{Seg}
use Rattle.aml_path.specs.Paths.{Name}
use Rattle.aml_objects.specs.declared.value.Value.{Value}
use Rattle.aml_objects.specs.declared.value.Value.TheVariants as value
use Rattle.aml_objects.specs.declared.object.Element.{Element}
use Rattle.aml_objects.specs.declared.entry.MethodFlags.{MethodFlags}
use Rattle.aml_objects.specs.declared.entry.NamedObject.{NamedObject}
use Rattle.aml_convert.specs.declared.operators.BinaryOperator.{BinaryOperator}
use Rattle.aml_convert.specs.declared.operators.UnaryOperator.{UnaryOperator}
use Rattle.aml_convert.specs.declared.logic.LogicalOperator.{LogicalOperator}
use Rattle.aml_convert.specs.declared.logic.Comparison.{Comparison}
use Rattle.aml_world.specs.declared.values.object_type.Referent.{Referent}
use Rattle.aml_world.specs.declared.values.operation_kind.OneOperand.{OneOperand}
use Rattle.aml_world.specs.declared.values.operation_kind.OneOperand.TheVariants as one
use Rattle.aml_world.specs.declared.values.operation_kind.TwoOperands.{TwoOperands}
use Rattle.aml_world.specs.declared.values.operation_kind.TwoOperands.TheVariants as two
use Rattle.aml_world.specs.declared.values.operation_kind.Test.{Test}
use Rattle.aml_world.specs.declared.values.operation_kind.Test.TheVariants as test
use Rattle.aml_world.specs.declared.values.operation_kind.Count.{Count}
use Rattle.aml_world.specs.declared.values.operation_kind.Count.TheVariants as count
use Rattle.aml_world.specs.state.State.{State}
use Rattle.aml_world.specs.state.Readings.{integer_kept, integer_in, entry_found, path_found, scope_found, arguments_found}
use Rattle.aml_world.specs.state.NewObjects.{within, new_buffer, new_package}
use Rattle.aml_world.specs.state.Declaring.{not_in_method, new_name, new_method}
use Rattle.aml_world.specs.values.StoreTargets.{target_named}
use Rattle.aml_objects.specs.Contents.{Content}
use Rattle.aml_objects.specs.Contents as held
use Rattle.aml_world.specs.state.Osi.{osi_answered}
use Rattle.aml_world.specs.values.Operations.{made_of, integers_operated, operated, divided_in, integer_operated, operated_on_one, integers_tested, operated_logically, integer_lnot, lnot_in, incremented, decremented, compared_in, joined_contents, joined, joined_items, joined_resources, to_integer_in, buffer_bytes, new_buffer_of, to_buffer_in, size_held, element_indexed, byte_indexed, indexed, size_in, result_of_two, result_of_one, result_of_test, counted_by}
use Rattle.aml_world.specs.state.Invocations.{body_terms, named_use, invocation_found, call_allowed}
use Rattle.aml_laws.proofs.ObjectKinds.{KeepsObjectKinds, make_string_keeps_kinds, make_buffer_keeps_kinds, make_package_keeps_kinds}
use Rattle.aml_laws.proofs.Preorders.{give_respects, stop_respects}
use Rattle.aml_laws.proofs.FieldUnitsFound.{invoked_field_stands}
use Rattle.aml_laws.proofs.FoundNamesStand.{called_method_stands}
use Rattle.aml_laws.proofs.WorldRelations.{WorldRelationOf, Preserves, FindsInvocation, then_finds_invocation, unchanged_preserves, give_preserves, settle_preserves, then_preserves, on_objects_preserves, declared_preserves, stop_preserves}

pub made_of_keeps_kinds : (c : Content) → KeepsObjectKinds (made_of c)
made_of_keeps_kinds (held.Integer n) = give_respects _
made_of_keeps_kinds (held.String bytes) = make_string_keeps_kinds bytes
made_of_keeps_kinds (held.Buffer bytes) = make_buffer_keeps_kinds bytes
made_of_keeps_kinds held.Other = stop_respects _

module _ {S : Type 0} {listed : Bool} {accesses : Accesses S} {relation : WorldRelationOf listed accesses} where
  -- ---- what names find, and what values are

  pub integer_kept_preserves : (n : ℕ) → Preserves relation (integer_kept n)
  unfolding integer_kept
  integer_kept_preserves n = unchanged_preserves _ (λ w. refl)

  pub integer_in_preserves : (v : Value) → Preserves relation (integer_in v)
  unfolding integer_in
  integer_in_preserves v = unchanged_preserves _ (λ w. refl)

  pub entry_found_preserves : (scope : List Seg) (n : Name) → Preserves relation (entry_found scope n)
  unfolding entry_found
  entry_found_preserves scope n = unchanged_preserves _ (λ w. refl)

  pub path_found_preserves : (scope : List Seg) (n : Name) → Preserves relation (path_found scope n)
  unfolding path_found
  path_found_preserves scope n = unchanged_preserves _ (λ w. refl)

  pub scope_found_preserves : (scope : List Seg) (n : Name) → Preserves relation (scope_found scope n)
  unfolding scope_found
  scope_found_preserves scope n = then_preserves _ _ (entry_found_preserves scope n) (λ e. then_preserves _ _ (settle_preserves _) (λ is. path_found_preserves scope n))

  pub arguments_found_preserves : (scope : List Seg) (n : Name) → Preserves relation (arguments_found scope n)
  unfolding arguments_found
  arguments_found_preserves scope n = then_preserves _ _ (entry_found_preserves scope n) (λ e. give_preserves _)

  pub target_named_preserves : (scope : List Seg) (n : Name) → Preserves relation (target_named scope n)
  unfolding target_named
  target_named_preserves scope n = then_preserves _ _ (path_found_preserves scope n) (λ q. give_preserves _)

  -- ---- new objects and new names

  pub within_preserves : (most n : ℕ) → Preserves relation (within most n)
  unfolding within
  within_preserves most n = unchanged_preserves _ (λ w. refl)

  pub new_buffer_preserves : (n : ℕ) (bytes : List ℕ) → Preserves relation (new_buffer n bytes)
  unfolding new_buffer
  new_buffer_preserves n bytes = then_preserves _ _ (within_preserves _ n) (λ u. on_objects_preserves _ (make_buffer_keeps_kinds _))

  pub new_package_preserves : (n : ℕ) (es : List Element) → Preserves relation (new_package n es)
  unfolding new_package
  new_package_preserves n es = on_objects_preserves _ (make_package_keeps_kinds _)

  pub not_in_method_preserves : (module_level : Bool) (q : List Seg) → Preserves relation (not_in_method module_level q)
  unfolding not_in_method
  not_in_method_preserves module_level q = unchanged_preserves _ (λ w. refl)

  pub new_name_preserves : (module_level : Bool) (q : List Seg) (o : NamedObject) → Preserves relation (new_name module_level q o)
  unfolding new_name
  new_name_preserves module_level q o = then_preserves _ _ (not_in_method_preserves module_level q) (λ u. declared_preserves q o)

  pub new_method_preserves : (module_level : Bool) (q : List Seg) (flags : MethodFlags) (body : List ℕ) → Preserves relation (new_method module_level q flags body)
  unfolding new_method
  new_method_preserves module_level q flags body = new_name_preserves module_level q _

  -- ---- operators

  pub integers_operated_preserves : (op : BinaryOperator) (x y : ℕ) → Preserves relation (integers_operated op x y)
  unfolding integers_operated
  integers_operated_preserves op x y = unchanged_preserves _ (λ w. refl)

  pub operated_preserves : (op : BinaryOperator) (v u : Value) → Preserves relation (operated op v u)
  unfolding operated
  operated_preserves op v u = then_preserves _ _ (integer_in_preserves v) (λ x. then_preserves _ _ (integer_in_preserves u) (λ y. integers_operated_preserves op x y))

  pub divided_in_preserves : (v u : Value) → Preserves relation (divided_in v u)
  unfolding divided_in
  divided_in_preserves v u = then_preserves _ _ (integer_in_preserves v) (λ x. then_preserves _ _ (integer_in_preserves u) (λ y. settle_preserves _))

  pub integer_operated_preserves : (op : UnaryOperator) (x : ℕ) → Preserves relation (integer_operated op x)
  unfolding integer_operated
  integer_operated_preserves op x = unchanged_preserves _ (λ w. refl)

  pub operated_on_one_preserves : (op : UnaryOperator) (v : Value) → Preserves relation (operated_on_one op v)
  unfolding operated_on_one
  operated_on_one_preserves op v = then_preserves _ _ (integer_in_preserves v) (λ x. integer_operated_preserves op x)

  pub integers_tested_preserves : (op : LogicalOperator) (x y : ℕ) → Preserves relation (integers_tested op x y)
  unfolding integers_tested
  integers_tested_preserves op x y = unchanged_preserves _ (λ w. refl)

  pub operated_logically_preserves : (op : LogicalOperator) (v u : Value) → Preserves relation (operated_logically op v u)
  unfolding operated_logically
  operated_logically_preserves op v u = then_preserves _ _ (integer_in_preserves v) (λ x. then_preserves _ _ (integer_in_preserves u) (λ y. integers_tested_preserves op x y))

  pub integer_lnot_preserves : (x : ℕ) → Preserves relation (integer_lnot x)
  unfolding integer_lnot
  integer_lnot_preserves x = unchanged_preserves _ (λ w. refl)

  pub lnot_preserves : (v : Value) → Preserves relation (lnot_in v)
  unfolding lnot_in
  lnot_preserves v = then_preserves _ _ (integer_in_preserves v) (λ x. integer_lnot_preserves x)

  pub incremented_preserves : (x : ℕ) → Preserves relation (incremented x)
  unfolding incremented
  incremented_preserves x = unchanged_preserves _ (λ w. refl)

  pub decremented_preserves : (x : ℕ) → Preserves relation (decremented x)
  unfolding decremented
  decremented_preserves x = unchanged_preserves _ (λ w. refl)

  pub compared_in_preserves : (c : Comparison) (v u : Value) → Preserves relation (compared_in c v u)
  unfolding compared_in
  compared_in_preserves c v u = unchanged_preserves _ (λ w. refl)

  pub joined_contents_preserves : (v u : Value) → Preserves relation (joined_contents v u)
  unfolding joined_contents
  joined_contents_preserves v u = unchanged_preserves _ (λ w. refl)

  pub joined_preserves : (v u : Value) → Preserves relation (joined v u)
  unfolding joined
  joined_preserves v u = then_preserves _ _ (joined_contents_preserves v u) (λ c. on_objects_preserves _ (made_of_keeps_kinds c))

  pub joined_items_preserves : (v u : Value) → Preserves relation (joined_items v u)
  unfolding joined_items
  joined_items_preserves v u = unchanged_preserves _ (λ w. refl)

  pub joined_resources_preserves : (v u : Value) → Preserves relation (joined_resources v u)
  unfolding joined_resources
  joined_resources_preserves v u = then_preserves _ _ (joined_items_preserves v u) (λ bytes. on_objects_preserves _ (make_buffer_keeps_kinds bytes))

  pub to_integer_in_preserves : (v : Value) → Preserves relation (to_integer_in v)
  unfolding to_integer_in
  to_integer_in_preserves v = unchanged_preserves _ (λ w. refl)

  pub buffer_bytes_preserves : (v : Value) → Preserves relation (buffer_bytes v)
  unfolding buffer_bytes
  buffer_bytes_preserves v = unchanged_preserves _ (λ w. refl)

  pub new_buffer_of_preserves : (v : Value) → Preserves relation (new_buffer_of v)
  unfolding new_buffer_of
  new_buffer_of_preserves v = then_preserves _ _ (buffer_bytes_preserves v) (λ bytes. on_objects_preserves _ (make_buffer_keeps_kinds bytes))

  pub to_buffer_in_preserves : (v : Value) → Preserves relation (to_buffer_in v)
  to_buffer_in_preserves (value.Buffer o) = give_preserves _
  to_buffer_in_preserves value.Uninitialized = new_buffer_of_preserves _
  to_buffer_in_preserves (value.Integer n) = new_buffer_of_preserves _
  to_buffer_in_preserves (value.String o) = new_buffer_of_preserves _
  to_buffer_in_preserves (value.Package o) = new_buffer_of_preserves _
  to_buffer_in_preserves (value.Reference r) = new_buffer_of_preserves _

  pub size_in_preserves : (r : Referent) → Preserves relation (size_in r)
  unfolding size_in
  size_in_preserves r = unchanged_preserves _ (λ w. refl)

  pub size_held_preserves : (v : Value) → Preserves relation (size_held v)
  unfolding size_held
  size_held_preserves v = unchanged_preserves _ (λ w. refl)

  indexed_preserves : (v u : Value) → Preserves relation (indexed v u)
  unfolding element_indexed byte_indexed
  indexed_preserves (value.Package o) u = then_preserves _ _ (integer_in_preserves u) (λ i. then_preserves _ _ (size_held_preserves _) (λ n. settle_preserves _))
  indexed_preserves (value.String o) u = then_preserves _ _ (integer_in_preserves u) (λ i. then_preserves _ _ (size_held_preserves _) (λ n. settle_preserves _))
  indexed_preserves (value.Buffer o) u = then_preserves _ _ (integer_in_preserves u) (λ i. then_preserves _ _ (size_held_preserves _) (λ n. settle_preserves _))
  indexed_preserves value.Uninitialized u = stop_preserves _
  indexed_preserves (value.Integer n) u = stop_preserves _
  indexed_preserves (value.Reference r) u = stop_preserves _

  pub result_of_two_preserves : (k : TwoOperands) (v u : Value) → Preserves relation (result_of_two k v u)
  result_of_two_preserves (two.Integers op) v u = operated_preserves op v u
  result_of_two_preserves two.Concatenate v u = joined_preserves v u
  result_of_two_preserves two.ConcatenateResources v u = joined_resources_preserves v u
  result_of_two_preserves two.Index v u = indexed_preserves v u

  pub result_of_one_preserves : (k : OneOperand) (v : Value) → Preserves relation (result_of_one k v)
  result_of_one_preserves (one.Integer op) v = operated_on_one_preserves op v
  result_of_one_preserves one.ToBuffer v = to_buffer_in_preserves v
  result_of_one_preserves one.ToInteger v = to_integer_in_preserves v

  pub result_of_test_preserves : (k : Test) (v u : Value) → Preserves relation (result_of_test k v u)
  result_of_test_preserves (test.Logical op) v u = operated_logically_preserves op v u
  result_of_test_preserves (test.Compare c) v u = compared_in_preserves c v u

  pub counted_by_preserves : (k : Count) (n : ℕ) → Preserves relation (counted_by k n)
  counted_by_preserves count.Increment n = incremented_preserves n
  counted_by_preserves count.Decrement n = decremented_preserves n

  -- ---- calls

  pub osi_answered_preserves : (arguments : List Value) → Preserves relation (osi_answered arguments)
  unfolding osi_answered
  osi_answered_preserves arguments = unchanged_preserves _ (λ w. refl)

  pub call_allowed_preserves : (depth : ℕ) → Preserves relation (call_allowed depth)
  unfolding call_allowed
  call_allowed_preserves depth = unchanged_preserves _ (λ w. refl)

  pub body_terms_preserves : (q : List Seg) (body : List ℕ) → Preserves relation (body_terms q body)
  unfolding body_terms
  body_terms_preserves q body = unchanged_preserves _ (λ w. refl)

-- ---- what is found and called

go_on_unchanged : {S A B : Type 0} (r : Outcome A) (w v : State S) (k : A → Change (State S) B) → ((a : A) (u : State S) → (k a u).1 ≡ u) → v ≡ w → (go_on r v k).1 ≡ w
unfolding go_on
go_on_unchanged (Ok a) w v k h e = h a v ∙ e
go_on_unchanged (Err x) w v k h e = e

arguments_found_unchanged : {S : Type 0} (scope : List Seg) (n : Name) (w : State S) → (arguments_found scope n w).1 ≡ w
unfolding arguments_found entry_found give ◌>>=◌
arguments_found_unchanged scope n w = go_on_unchanged _ w w _ (λ e u. refl) refl

pub named_use_finds_invocation : {S : Type 0} (scope : List Seg) (n : Name) → FindsInvocation {S = S} (named_use scope n)
unfolding named_use
named_use_finds_invocation scope n = record { same = λ w. refl; called = λ w i e. record { method = λ q body is. called_method_stands w.names.map scope n q body (e ∙ ap Ok is); fields = invoked_field_stands w.names.map scope n i e } }

pub invocation_found_finds_invocation : {S : Type 0} (scope : List Seg) (n : Name) (many : ℕ) → FindsInvocation {S = S} (invocation_found scope n many)
unfolding invocation_found settle
invocation_found_finds_invocation scope n many = then_finds_invocation _ _ (arguments_found_unchanged scope n) (λ wanted. then_finds_invocation _ _ (λ w. refl) (λ fit. named_use_finds_invocation scope n))
