-- Finding names, making objects and names, operators and calls leave the counter, and do what they do without it.
use Rattle.std.specs.Prelude.{ℕ, List, Bool, refl}
use Rattle.aml_path.specs.declared.segment.Seg.{Seg}
use Rattle.aml_path.specs.Paths.{Name}
use Rattle.aml_objects.specs.declared.value.Value.{Value}
use Rattle.aml_objects.specs.declared.value.Value.TheVariants as value
use Rattle.aml_objects.specs.declared.object.Element.{Element}
use Rattle.aml_objects.specs.declared.entry.MethodFlags.{MethodFlags}
use Rattle.aml_objects.specs.declared.entry.NamedObject.{NamedObject}
use Rattle.aml_convert.specs.declared.operators.BinaryOperator.{BinaryOperator}
use Rattle.aml_convert.specs.declared.operators.UnaryOperator.{UnaryOperator}
use Rattle.aml_convert.specs.declared.logic.LogicalOperator.{LogicalOperator}
use Rattle.aml_convert.specs.declared.logic.Comparison.{Comparison}
use Rattle.aml_world.specs.declared.values.object_type.Referent.{Referent}
use Rattle.aml_world.specs.declared.values.operation_kind.OneOperand.{OneOperand}
use Rattle.aml_world.specs.declared.values.operation_kind.OneOperand.TheVariants as one
use Rattle.aml_world.specs.declared.values.operation_kind.TwoOperands.{TwoOperands}
use Rattle.aml_world.specs.declared.values.operation_kind.TwoOperands.TheVariants as two
use Rattle.aml_world.specs.declared.values.operation_kind.Test.{Test}
use Rattle.aml_world.specs.declared.values.operation_kind.Test.TheVariants as test
use Rattle.aml_world.specs.declared.values.operation_kind.Count.{Count}
use Rattle.aml_world.specs.declared.values.operation_kind.Count.TheVariants as count
use Rattle.aml_world.specs.state.Readings.{integer_kept, integer_in, entry_found, path_found, scope_found, arguments_found}
use Rattle.aml_world.specs.state.NewObjects.{within, new_buffer, new_package}
use Rattle.aml_world.specs.state.Declaring.{not_in_method, new_name, new_method}
use Rattle.aml_world.specs.values.StoreTargets.{target_named}
use Rattle.aml_world.specs.state.Osi.{osi_answered}
use Rattle.aml_world.specs.values.Operations.{integers_operated, operated, divided_in, integer_operated, operated_on_one, integers_tested, operated_logically, integer_lnot, lnot_in, incremented, decremented, compared_in, joined_contents, joined, joined_items, joined_resources, to_integer_in, buffer_bytes, new_buffer_of, to_buffer_in, size_held, element_indexed, byte_indexed, indexed, size_in, result_of_two, result_of_one, result_of_test, counted_by}
use Rattle.aml_world.specs.state.Invocations.{named_use, invocation_found, body_terms, call_allowed}
use Rattle.aml_laws.proofs.CountedChanges.{Counts, give_counts, stop_counts, settle_counts, then_counts, direct_counts, on_objects_counts, on_names_counts}

module _ {S : Type 0} where
  -- ---- what names find, and what values are

  pub integer_kept_counts : (n : ℕ) → Counts {S = S} (integer_kept n) (integer_kept n)
  unfolding integer_kept
  integer_kept_counts n = direct_counts _ _ (λ w. refl) (λ w. refl)

  pub integer_in_counts : (v : Value) → Counts {S = S} (integer_in v) (integer_in v)
  unfolding integer_in
  integer_in_counts v = direct_counts _ _ (λ w. refl) (λ w. refl)

  pub entry_found_counts : (scope : List Seg) (n : Name) → Counts {S = S} (entry_found scope n) (entry_found scope n)
  unfolding entry_found
  entry_found_counts scope n = direct_counts _ _ (λ w. refl) (λ w. refl)

  pub path_found_counts : (scope : List Seg) (n : Name) → Counts {S = S} (path_found scope n) (path_found scope n)
  unfolding path_found
  path_found_counts scope n = direct_counts _ _ (λ w. refl) (λ w. refl)

  pub scope_found_counts : (scope : List Seg) (n : Name) → Counts {S = S} (scope_found scope n) (scope_found scope n)
  unfolding scope_found
  scope_found_counts scope n = then_counts _ _ _ _ (entry_found_counts scope n) (λ e. then_counts _ _ _ _ (settle_counts _) (λ is. path_found_counts scope n))

  pub arguments_found_counts : (scope : List Seg) (n : Name) → Counts {S = S} (arguments_found scope n) (arguments_found scope n)
  unfolding arguments_found
  arguments_found_counts scope n = then_counts _ _ _ _ (entry_found_counts scope n) (λ e. give_counts _)

  pub target_named_counts : (scope : List Seg) (n : Name) → Counts {S = S} (target_named scope n) (target_named scope n)
  unfolding target_named
  target_named_counts scope n = then_counts _ _ _ _ (path_found_counts scope n) (λ q. give_counts _)

  -- ---- new objects and new names

  pub within_counts : (most n : ℕ) → Counts {S = S} (within most n) (within most n)
  unfolding within
  within_counts most n = direct_counts _ _ (λ w. refl) (λ w. refl)

  pub new_buffer_counts : (n : ℕ) (bytes : List ℕ) → Counts {S = S} (new_buffer n bytes) (new_buffer n bytes)
  unfolding new_buffer
  new_buffer_counts n bytes = then_counts _ _ _ _ (within_counts _ n) (λ u. on_objects_counts _)

  pub new_package_counts : (n : ℕ) (es : List Element) → Counts {S = S} (new_package n es) (new_package n es)
  unfolding new_package
  new_package_counts n es = on_objects_counts _

  pub not_in_method_counts : (module_level : Bool) (q : List Seg) → Counts {S = S} (not_in_method module_level q) (not_in_method module_level q)
  unfolding not_in_method
  not_in_method_counts module_level q = direct_counts _ _ (λ w. refl) (λ w. refl)

  pub new_name_counts : (module_level : Bool) (q : List Seg) (o : NamedObject) → Counts {S = S} (new_name module_level q o) (new_name module_level q o)
  unfolding new_name
  new_name_counts module_level q o = then_counts _ _ _ _ (not_in_method_counts module_level q) (λ u. on_names_counts _)

  pub new_method_counts : (module_level : Bool) (q : List Seg) (flags : MethodFlags) (body : List ℕ) → Counts {S = S} (new_method module_level q flags body) (new_method module_level q flags body)
  unfolding new_method
  new_method_counts module_level q flags body = new_name_counts module_level q _

  -- ---- operators

  pub integers_operated_counts : (op : BinaryOperator) (x y : ℕ) → Counts {S = S} (integers_operated op x y) (integers_operated op x y)
  unfolding integers_operated
  integers_operated_counts op x y = direct_counts _ _ (λ w. refl) (λ w. refl)

  pub operated_counts : (op : BinaryOperator) (v u : Value) → Counts {S = S} (operated op v u) (operated op v u)
  unfolding operated
  operated_counts op v u = then_counts _ _ _ _ (integer_in_counts v) (λ x. then_counts _ _ _ _ (integer_in_counts u) (λ y. integers_operated_counts op x y))

  pub divided_in_counts : (v u : Value) → Counts {S = S} (divided_in v u) (divided_in v u)
  unfolding divided_in
  divided_in_counts v u = then_counts _ _ _ _ (integer_in_counts v) (λ x. then_counts _ _ _ _ (integer_in_counts u) (λ y. settle_counts _))

  pub integer_operated_counts : (op : UnaryOperator) (x : ℕ) → Counts {S = S} (integer_operated op x) (integer_operated op x)
  unfolding integer_operated
  integer_operated_counts op x = direct_counts _ _ (λ w. refl) (λ w. refl)

  pub operated_on_one_counts : (op : UnaryOperator) (v : Value) → Counts {S = S} (operated_on_one op v) (operated_on_one op v)
  unfolding operated_on_one
  operated_on_one_counts op v = then_counts _ _ _ _ (integer_in_counts v) (λ x. integer_operated_counts op x)

  pub integers_tested_counts : (op : LogicalOperator) (x y : ℕ) → Counts {S = S} (integers_tested op x y) (integers_tested op x y)
  unfolding integers_tested
  integers_tested_counts op x y = direct_counts _ _ (λ w. refl) (λ w. refl)

  pub operated_logically_counts : (op : LogicalOperator) (v u : Value) → Counts {S = S} (operated_logically op v u) (operated_logically op v u)
  unfolding operated_logically
  operated_logically_counts op v u = then_counts _ _ _ _ (integer_in_counts v) (λ x. then_counts _ _ _ _ (integer_in_counts u) (λ y. integers_tested_counts op x y))

  pub integer_lnot_counts : (x : ℕ) → Counts {S = S} (integer_lnot x) (integer_lnot x)
  unfolding integer_lnot
  integer_lnot_counts x = direct_counts _ _ (λ w. refl) (λ w. refl)

  pub lnot_counts : (v : Value) → Counts {S = S} (lnot_in v) (lnot_in v)
  unfolding lnot_in
  lnot_counts v = then_counts _ _ _ _ (integer_in_counts v) (λ x. integer_lnot_counts x)

  pub incremented_counts : (x : ℕ) → Counts {S = S} (incremented x) (incremented x)
  unfolding incremented
  incremented_counts x = direct_counts _ _ (λ w. refl) (λ w. refl)

  pub decremented_counts : (x : ℕ) → Counts {S = S} (decremented x) (decremented x)
  unfolding decremented
  decremented_counts x = direct_counts _ _ (λ w. refl) (λ w. refl)

  pub compared_in_counts : (c : Comparison) (v u : Value) → Counts {S = S} (compared_in c v u) (compared_in c v u)
  unfolding compared_in
  compared_in_counts c v u = direct_counts _ _ (λ w. refl) (λ w. refl)

  pub joined_contents_counts : (v u : Value) → Counts {S = S} (joined_contents v u) (joined_contents v u)
  unfolding joined_contents
  joined_contents_counts v u = direct_counts _ _ (λ w. refl) (λ w. refl)

  pub joined_counts : (v u : Value) → Counts {S = S} (joined v u) (joined v u)
  unfolding joined
  joined_counts v u = then_counts _ _ _ _ (joined_contents_counts v u) (λ c. on_objects_counts _)

  pub joined_items_counts : (v u : Value) → Counts {S = S} (joined_items v u) (joined_items v u)
  unfolding joined_items
  joined_items_counts v u = direct_counts _ _ (λ w. refl) (λ w. refl)

  pub joined_resources_counts : (v u : Value) → Counts {S = S} (joined_resources v u) (joined_resources v u)
  unfolding joined_resources
  joined_resources_counts v u = then_counts _ _ _ _ (joined_items_counts v u) (λ bytes. on_objects_counts _)

  pub to_integer_in_counts : (v : Value) → Counts {S = S} (to_integer_in v) (to_integer_in v)
  unfolding to_integer_in
  to_integer_in_counts v = direct_counts _ _ (λ w. refl) (λ w. refl)

  pub buffer_bytes_counts : (v : Value) → Counts {S = S} (buffer_bytes v) (buffer_bytes v)
  unfolding buffer_bytes
  buffer_bytes_counts v = direct_counts _ _ (λ w. refl) (λ w. refl)

  pub new_buffer_of_counts : (v : Value) → Counts {S = S} (new_buffer_of v) (new_buffer_of v)
  unfolding new_buffer_of
  new_buffer_of_counts v = then_counts _ _ _ _ (buffer_bytes_counts v) (λ bytes. on_objects_counts _)

  pub to_buffer_in_counts : (v : Value) → Counts {S = S} (to_buffer_in v) (to_buffer_in v)
  to_buffer_in_counts (value.Buffer o) = give_counts _
  to_buffer_in_counts value.Uninitialized = new_buffer_of_counts _
  to_buffer_in_counts (value.Integer n) = new_buffer_of_counts _
  to_buffer_in_counts (value.String o) = new_buffer_of_counts _
  to_buffer_in_counts (value.Package o) = new_buffer_of_counts _
  to_buffer_in_counts (value.Reference r) = new_buffer_of_counts _

  pub size_in_counts : (r : Referent) → Counts {S = S} (size_in r) (size_in r)
  unfolding size_in
  size_in_counts r = direct_counts _ _ (λ w. refl) (λ w. refl)

  pub size_held_counts : (v : Value) → Counts {S = S} (size_held v) (size_held v)
  unfolding size_held
  size_held_counts v = direct_counts _ _ (λ w. refl) (λ w. refl)

  indexed_counts : (v u : Value) → Counts {S = S} (indexed v u) (indexed v u)
  unfolding element_indexed byte_indexed
  indexed_counts (value.Package o) u = then_counts _ _ _ _ (integer_in_counts u) (λ i. then_counts _ _ _ _ (size_held_counts _) (λ n. settle_counts _))
  indexed_counts (value.String o) u = then_counts _ _ _ _ (integer_in_counts u) (λ i. then_counts _ _ _ _ (size_held_counts _) (λ n. settle_counts _))
  indexed_counts (value.Buffer o) u = then_counts _ _ _ _ (integer_in_counts u) (λ i. then_counts _ _ _ _ (size_held_counts _) (λ n. settle_counts _))
  indexed_counts value.Uninitialized u = stop_counts _
  indexed_counts (value.Integer n) u = stop_counts _
  indexed_counts (value.Reference r) u = stop_counts _

  pub result_of_two_counts : (k : TwoOperands) (v u : Value) → Counts {S = S} (result_of_two k v u) (result_of_two k v u)
  result_of_two_counts (two.Integers op) v u = operated_counts op v u
  result_of_two_counts two.Concatenate v u = joined_counts v u
  result_of_two_counts two.ConcatenateResources v u = joined_resources_counts v u
  result_of_two_counts two.Index v u = indexed_counts v u

  pub result_of_one_counts : (k : OneOperand) (v : Value) → Counts {S = S} (result_of_one k v) (result_of_one k v)
  result_of_one_counts (one.Integer op) v = operated_on_one_counts op v
  result_of_one_counts one.ToBuffer v = to_buffer_in_counts v
  result_of_one_counts one.ToInteger v = to_integer_in_counts v

  pub result_of_test_counts : (k : Test) (v u : Value) → Counts {S = S} (result_of_test k v u) (result_of_test k v u)
  result_of_test_counts (test.Logical op) v u = operated_logically_counts op v u
  result_of_test_counts (test.Compare c) v u = compared_in_counts c v u

  pub counted_by_counts : (k : Count) (n : ℕ) → Counts {S = S} (counted_by k n) (counted_by k n)
  counted_by_counts count.Increment n = incremented_counts n
  counted_by_counts count.Decrement n = decremented_counts n

  -- ---- calls

  pub osi_answered_counts : (arguments : List Value) → Counts {S = S} (osi_answered arguments) (osi_answered arguments)
  unfolding osi_answered
  osi_answered_counts arguments = direct_counts _ _ (λ w. refl) (λ w. refl)

  pub call_allowed_counts : (depth : ℕ) → Counts {S = S} (call_allowed depth) (call_allowed depth)
  unfolding call_allowed
  call_allowed_counts depth = direct_counts _ _ (λ w. refl) (λ w. refl)

  pub body_terms_counts : (q : List Seg) (body : List ℕ) → Counts {S = S} (body_terms q body) (body_terms q body)
  unfolding body_terms
  body_terms_counts q body = direct_counts _ _ (λ w. refl) (λ w. refl)

  -- ---- what is found and called

  pub named_use_counts : (scope : List Seg) (n : Name) → Counts {S = S} (named_use scope n) (named_use scope n)
  unfolding named_use
  named_use_counts scope n = direct_counts _ _ (λ w. refl) (λ w. refl)

  pub invocation_found_counts : (scope : List Seg) (n : Name) (many : ℕ) → Counts {S = S} (invocation_found scope n many) (invocation_found scope n many)
  unfolding invocation_found
  invocation_found_counts scope n many = then_counts _ _ _ _ (arguments_found_counts scope n) (λ wanted. then_counts _ _ _ _ (settle_counts _) (λ fit. named_use_counts scope n))
