-- Finding names, making objects and names, operators and calls go the same way over two register spaces.
use Rattle.std.specs.Prelude.{ℕ, List, Bool, refl}
use Rattle.ar_space.specs.Accesses.{Accesses}
use Rattle.aml_path.specs.declared.segment.Seg.{Seg}
use Rattle.aml_path.specs.Paths.{Name}
use Rattle.aml_objects.specs.declared.value.Value.{Value}
use Rattle.aml_objects.specs.declared.value.Value.TheVariants as value
use Rattle.aml_objects.specs.declared.object.Element.{Element}
use Rattle.aml_objects.specs.declared.entry.MethodFlags.{MethodFlags}
use Rattle.aml_objects.specs.declared.entry.NamedObject.{NamedObject}
use Rattle.aml_convert.specs.declared.operators.BinaryOperator.{BinaryOperator}
use Rattle.aml_convert.specs.declared.operators.UnaryOperator.{UnaryOperator}
use Rattle.aml_convert.specs.declared.logic.LogicalOperator.{LogicalOperator}
use Rattle.aml_convert.specs.declared.logic.Comparison.{Comparison}
use Rattle.aml_world.specs.declared.values.object_type.Referent.{Referent}
use Rattle.aml_world.specs.declared.values.operation_kind.OneOperand.{OneOperand}
use Rattle.aml_world.specs.declared.values.operation_kind.OneOperand.TheVariants as one
use Rattle.aml_world.specs.declared.values.operation_kind.TwoOperands.{TwoOperands}
use Rattle.aml_world.specs.declared.values.operation_kind.TwoOperands.TheVariants as two
use Rattle.aml_world.specs.declared.values.operation_kind.Test.{Test}
use Rattle.aml_world.specs.declared.values.operation_kind.Test.TheVariants as test
use Rattle.aml_world.specs.declared.values.operation_kind.Count.{Count}
use Rattle.aml_world.specs.declared.values.operation_kind.Count.TheVariants as count
use Rattle.aml_world.specs.state.Readings.{integer_kept, integer_in, entry_found, path_found, scope_found, arguments_found}
use Rattle.aml_world.specs.state.NewObjects.{within, new_buffer, new_package}
use Rattle.aml_world.specs.state.Declaring.{not_in_method, new_name, new_method}
use Rattle.aml_world.specs.values.StoreTargets.{target_named}
use Rattle.aml_world.specs.state.Osi.{osi_answered}
use Rattle.aml_world.specs.values.Operations.{integers_operated, operated, divided_in, integer_operated, operated_on_one, integers_tested, operated_logically, integer_lnot, lnot_in, incremented, decremented, compared_in, joined_contents, joined, joined_items, joined_resources, to_integer_in, buffer_bytes, new_buffer_of, to_buffer_in, size_held, element_indexed, byte_indexed, indexed, size_in, result_of_two, result_of_one, result_of_test, counted_by}
use Rattle.aml_world.specs.state.Invocations.{named_use, invocation_found}
use Rattle.aml_laws.proofs.Together.{Sides, Together, give_together, plain, settle_together, stop_together, then_together}
use Rattle.aml_laws.proofs.WorldsTogether.{names_together, objects_together, worlds}

module _ {S T : Type 0} {accesses : Accesses S} {accesses2 : Accesses T} {side : Sides accesses accesses2} where
  -- ---- what names find, and what values are

  pub integer_kept_together : (n : ℕ) → Together side worlds (integer_kept n) (integer_kept n)
  unfolding integer_kept
  integer_kept_together n = plain (λ w. refl) (λ w. refl) (λ w t. refl)

  pub integer_in_together : (v : Value) → Together side worlds (integer_in v) (integer_in v)
  unfolding integer_in
  integer_in_together v = plain (λ w. refl) (λ w. refl) (λ w t. refl)

  pub entry_found_together : (scope : List Seg) (n : Name) → Together side worlds (entry_found scope n) (entry_found scope n)
  unfolding entry_found
  entry_found_together scope n = plain (λ w. refl) (λ w. refl) (λ w t. refl)

  pub path_found_together : (scope : List Seg) (n : Name) → Together side worlds (path_found scope n) (path_found scope n)
  unfolding path_found
  path_found_together scope n = plain (λ w. refl) (λ w. refl) (λ w t. refl)

  pub scope_found_together : (scope : List Seg) (n : Name) → Together side worlds (scope_found scope n) (scope_found scope n)
  unfolding scope_found
  scope_found_together scope n = then_together (entry_found_together scope n) (λ e. then_together (settle_together _) (λ is. path_found_together scope n))

  pub arguments_found_together : (scope : List Seg) (n : Name) → Together side worlds (arguments_found scope n) (arguments_found scope n)
  unfolding arguments_found
  arguments_found_together scope n = then_together (entry_found_together scope n) (λ e. give_together _)

  pub target_named_together : (scope : List Seg) (n : Name) → Together side worlds (target_named scope n) (target_named scope n)
  unfolding target_named
  target_named_together scope n = then_together (path_found_together scope n) (λ q. give_together _)

  -- ---- new objects and new names

  pub within_together : (most n : ℕ) → Together side worlds (within most n) (within most n)
  unfolding within
  within_together most n = plain (λ w. refl) (λ w. refl) (λ w t. refl)

  pub new_buffer_together : (n : ℕ) (bytes : List ℕ) → Together side worlds (new_buffer n bytes) (new_buffer n bytes)
  unfolding new_buffer
  new_buffer_together n bytes = then_together (within_together _ n) (λ u. objects_together _)

  pub new_package_together : (n : ℕ) (es : List Element) → Together side worlds (new_package n es) (new_package n es)
  unfolding new_package
  new_package_together n es = objects_together _

  pub not_in_method_together : (module_level : Bool) (q : List Seg) → Together side worlds (not_in_method module_level q) (not_in_method module_level q)
  unfolding not_in_method
  not_in_method_together module_level q = plain (λ w. refl) (λ w. refl) (λ w t. refl)

  pub new_name_together : (module_level : Bool) (q : List Seg) (o : NamedObject) → Together side worlds (new_name module_level q o) (new_name module_level q o)
  unfolding new_name
  new_name_together module_level q o = then_together (not_in_method_together module_level q) (λ u. names_together _)

  pub new_method_together : (module_level : Bool) (q : List Seg) (flags : MethodFlags) (body : List ℕ) → Together side worlds (new_method module_level q flags body) (new_method module_level q flags body)
  unfolding new_method
  new_method_together module_level q flags body = new_name_together module_level q _

  -- ---- operators

  pub integers_operated_together : (op : BinaryOperator) (x y : ℕ) → Together side worlds (integers_operated op x y) (integers_operated op x y)
  unfolding integers_operated
  integers_operated_together op x y = plain (λ w. refl) (λ w. refl) (λ w t. refl)

  pub operated_together : (op : BinaryOperator) (v u : Value) → Together side worlds (operated op v u) (operated op v u)
  unfolding operated
  operated_together op v u = then_together (integer_in_together v) (λ x. then_together (integer_in_together u) (λ y. integers_operated_together op x y))

  pub divided_in_together : (v u : Value) → Together side worlds (divided_in v u) (divided_in v u)
  unfolding divided_in
  divided_in_together v u = then_together (integer_in_together v) (λ x. then_together (integer_in_together u) (λ y. settle_together _))

  pub integer_operated_together : (op : UnaryOperator) (x : ℕ) → Together side worlds (integer_operated op x) (integer_operated op x)
  unfolding integer_operated
  integer_operated_together op x = plain (λ w. refl) (λ w. refl) (λ w t. refl)

  pub operated_on_one_together : (op : UnaryOperator) (v : Value) → Together side worlds (operated_on_one op v) (operated_on_one op v)
  unfolding operated_on_one
  operated_on_one_together op v = then_together (integer_in_together v) (λ x. integer_operated_together op x)

  pub integers_tested_together : (op : LogicalOperator) (x y : ℕ) → Together side worlds (integers_tested op x y) (integers_tested op x y)
  unfolding integers_tested
  integers_tested_together op x y = plain (λ w. refl) (λ w. refl) (λ w t. refl)

  pub operated_logically_together : (op : LogicalOperator) (v u : Value) → Together side worlds (operated_logically op v u) (operated_logically op v u)
  unfolding operated_logically
  operated_logically_together op v u = then_together (integer_in_together v) (λ x. then_together (integer_in_together u) (λ y. integers_tested_together op x y))

  pub integer_lnot_together : (x : ℕ) → Together side worlds (integer_lnot x) (integer_lnot x)
  unfolding integer_lnot
  integer_lnot_together x = plain (λ w. refl) (λ w. refl) (λ w t. refl)

  pub lnot_together : (v : Value) → Together side worlds (lnot_in v) (lnot_in v)
  unfolding lnot_in
  lnot_together v = then_together (integer_in_together v) (λ x. integer_lnot_together x)

  pub incremented_together : (x : ℕ) → Together side worlds (incremented x) (incremented x)
  unfolding incremented
  incremented_together x = plain (λ w. refl) (λ w. refl) (λ w t. refl)

  pub decremented_together : (x : ℕ) → Together side worlds (decremented x) (decremented x)
  unfolding decremented
  decremented_together x = plain (λ w. refl) (λ w. refl) (λ w t. refl)

  pub compared_in_together : (c : Comparison) (v u : Value) → Together side worlds (compared_in c v u) (compared_in c v u)
  unfolding compared_in
  compared_in_together c v u = plain (λ w. refl) (λ w. refl) (λ w t. refl)

  pub joined_contents_together : (v u : Value) → Together side worlds (joined_contents v u) (joined_contents v u)
  unfolding joined_contents
  joined_contents_together v u = plain (λ w. refl) (λ w. refl) (λ w t. refl)

  pub joined_together : (v u : Value) → Together side worlds (joined v u) (joined v u)
  unfolding joined
  joined_together v u = then_together (joined_contents_together v u) (λ c. objects_together _)

  pub joined_items_together : (v u : Value) → Together side worlds (joined_items v u) (joined_items v u)
  unfolding joined_items
  joined_items_together v u = plain (λ w. refl) (λ w. refl) (λ w t. refl)

  pub joined_resources_together : (v u : Value) → Together side worlds (joined_resources v u) (joined_resources v u)
  unfolding joined_resources
  joined_resources_together v u = then_together (joined_items_together v u) (λ bytes. objects_together _)

  pub to_integer_in_together : (v : Value) → Together side worlds (to_integer_in v) (to_integer_in v)
  unfolding to_integer_in
  to_integer_in_together v = plain (λ w. refl) (λ w. refl) (λ w t. refl)

  pub buffer_bytes_together : (v : Value) → Together side worlds (buffer_bytes v) (buffer_bytes v)
  unfolding buffer_bytes
  buffer_bytes_together v = plain (λ w. refl) (λ w. refl) (λ w t. refl)

  pub new_buffer_of_together : (v : Value) → Together side worlds (new_buffer_of v) (new_buffer_of v)
  unfolding new_buffer_of
  new_buffer_of_together v = then_together (buffer_bytes_together v) (λ bytes. objects_together _)

  pub to_buffer_in_together : (v : Value) → Together side worlds (to_buffer_in v) (to_buffer_in v)
  to_buffer_in_together (value.Buffer o) = give_together _
  to_buffer_in_together value.Uninitialized = new_buffer_of_together _
  to_buffer_in_together (value.Integer n) = new_buffer_of_together _
  to_buffer_in_together (value.String o) = new_buffer_of_together _
  to_buffer_in_together (value.Package o) = new_buffer_of_together _
  to_buffer_in_together (value.Reference r) = new_buffer_of_together _

  pub size_in_together : (r : Referent) → Together side worlds (size_in r) (size_in r)
  unfolding size_in
  size_in_together r = plain (λ w. refl) (λ w. refl) (λ w t. refl)

  pub size_held_together : (v : Value) → Together side worlds (size_held v) (size_held v)
  unfolding size_held
  size_held_together v = plain (λ w. refl) (λ w. refl) (λ w t. refl)

  indexed_together : (v u : Value) → Together side worlds (indexed v u) (indexed v u)
  unfolding element_indexed byte_indexed
  indexed_together (value.Package o) u = then_together (integer_in_together u) (λ i. then_together (size_held_together _) (λ n. settle_together _))
  indexed_together (value.String o) u = then_together (integer_in_together u) (λ i. then_together (size_held_together _) (λ n. settle_together _))
  indexed_together (value.Buffer o) u = then_together (integer_in_together u) (λ i. then_together (size_held_together _) (λ n. settle_together _))
  indexed_together value.Uninitialized u = stop_together _
  indexed_together (value.Integer n) u = stop_together _
  indexed_together (value.Reference r) u = stop_together _

  pub result_of_two_together : (k : TwoOperands) (v u : Value) → Together side worlds (result_of_two k v u) (result_of_two k v u)
  result_of_two_together (two.Integers op) v u = operated_together op v u
  result_of_two_together two.Concatenate v u = joined_together v u
  result_of_two_together two.ConcatenateResources v u = joined_resources_together v u
  result_of_two_together two.Index v u = indexed_together v u

  pub result_of_one_together : (k : OneOperand) (v : Value) → Together side worlds (result_of_one k v) (result_of_one k v)
  result_of_one_together (one.Integer op) v = operated_on_one_together op v
  result_of_one_together one.ToBuffer v = to_buffer_in_together v
  result_of_one_together one.ToInteger v = to_integer_in_together v

  pub result_of_test_together : (k : Test) (v u : Value) → Together side worlds (result_of_test k v u) (result_of_test k v u)
  result_of_test_together (test.Logical op) v u = operated_logically_together op v u
  result_of_test_together (test.Compare c) v u = compared_in_together c v u

  pub counted_by_together : (k : Count) (n : ℕ) → Together side worlds (counted_by k n) (counted_by k n)
  counted_by_together count.Increment n = incremented_together n
  counted_by_together count.Decrement n = decremented_together n

  -- ---- calls

  pub osi_answered_together : (arguments : List Value) → Together side worlds (osi_answered arguments) (osi_answered arguments)
  unfolding osi_answered
  osi_answered_together arguments = plain (λ w. refl) (λ w. refl) (λ w t. refl)

  -- ---- what is found and called

  pub named_use_together : (scope : List Seg) (n : Name) → Together side worlds (named_use scope n) (named_use scope n)
  unfolding named_use
  named_use_together scope n = plain (λ w. refl) (λ w. refl) (λ w t. refl)

  pub invocation_found_together : (scope : List Seg) (n : Name) (many : ℕ) → Together side worlds (invocation_found scope n many) (invocation_found scope n many)
  unfolding invocation_found
  invocation_found_together scope n many = then_together (arguments_found_together scope n) (λ wanted. then_together (settle_together _) (λ fit. named_use_together scope n))
