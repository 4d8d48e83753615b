-- Finding names, making objects and names, operators and calls make no access, and answer with no fault of the register space.
use Rattle.std.specs.FinMap.{get}
use Rattle.std.specs.Prelude.{Bool, List, nat_lt, refl, slice_index_or, true, ℕ}
use Rattle.ar_space.specs.Accesses.{Accesses}
use Rattle.ar_space.specs.Outcome.{seen}
use Rattle.aml_path.specs.Paths.{Name}
use Rattle.aml_path.specs.declared.segment.Seg.{Seg}
use Rattle.aml_grammar.specs.Grammar.{reading_within}
use Rattle.aml_grammar.specs.Shape.{trees_of}
use Rattle.aml_objects.specs.Contents.{content_in}
use Rattle.aml_objects.specs.declared.entry.MethodFlags.{MethodFlags}
use Rattle.aml_objects.specs.declared.entry.NamedObject.{NamedObject}
use Rattle.aml_objects.specs.declared.object.Element.{Element}
use Rattle.aml_objects.specs.declared.value.Value.TheVariants as value
use Rattle.aml_objects.specs.declared.value.Value.{Value}
use Rattle.aml_convert.specs.Conversions.{compared, explicit_integer_of}
use Rattle.aml_convert.specs.Operators.{result_of}
use Rattle.aml_convert.specs.declared.logic.Comparison.{Comparison}
use Rattle.aml_convert.specs.declared.logic.LogicalOperator.{LogicalOperator}
use Rattle.aml_convert.specs.declared.operators.BinaryOperator.TheVariants.{Subtract}
use Rattle.aml_convert.specs.declared.operators.BinaryOperator.{BinaryOperator}
use Rattle.aml_convert.specs.declared.operators.UnaryOperator.{UnaryOperator}
use Rattle.aml_namespace.specs.Namespace.{above}
use Rattle.aml_namespace.specs.Search.{found}
use Rattle.aml_world.specs.state.Declaring.{new_method, new_name, not_in_method}
use Rattle.aml_world.specs.state.Invocations.{body_arities, body_terms, invocation_found, named_use, call_allowed, call_allowed_within}
use Rattle.aml_world.specs.state.NewObjects.{new_buffer, new_package, within}
use Rattle.aml_world.specs.values.Operations.{buffer_bytes, byte_indexed, compared_in, divided_in, element_indexed, indexed, decremented, integer_operated, integer_lnot, integers_operated, integers_tested, joined, joined_contents, joined_items, joined_resources, new_buffer_of, incremented, operated, operated_logically, operated_on_one, size_held, size_in, size_of_referent, to_buffer_in, to_integer_in, lnot_in, counted_by, result_of_one, result_of_test, result_of_two}
use Rattle.aml_world.specs.state.Osi.{osi_answered}
use Rattle.aml_world.specs.state.Readings.{arguments_found, entry_found, integer_in, integer_kept, path_found, scope_found}
use Rattle.aml_world.specs.values.StoreTargets.{target_named}
use Rattle.aml_world.specs.declared.values.object_type.Referent.{Referent}
use Rattle.aml_world.specs.declared.values.operation_kind.Count.TheVariants as count
use Rattle.aml_world.specs.declared.values.operation_kind.Count.{Count}
use Rattle.aml_world.specs.declared.values.operation_kind.OneOperand.TheVariants as one
use Rattle.aml_world.specs.declared.values.operation_kind.OneOperand.{OneOperand}
use Rattle.aml_world.specs.declared.values.operation_kind.Test.TheVariants as test
use Rattle.aml_world.specs.declared.values.operation_kind.Test.{Test}
use Rattle.aml_world.specs.declared.values.operation_kind.TwoOperands.TheVariants as two
use Rattle.aml_world.specs.declared.values.operation_kind.TwoOperands.{TwoOperands}
use Rattle.aml_laws.proofs.CleanNames.{declared_clean, found_clean}
use Rattle.aml_laws.proofs.CleanObjects.{make_buffer_clean, make_package_clean}
use Rattle.aml_laws.proofs.CleanOutcomes.{if_clean, seen_clean}
use Rattle.aml_laws.proofs.CleanReading.{reading_within_clean}
use Rattle.aml_laws.proofs.CleanValues.{compared_clean, concatenated_clean, divided_clean, explicit_integer_of_clean, resources_joined_clean, result_of_clean, to_buffer_of_clean, to_integer_of_clean}
use Rattle.aml_laws.proofs.CleanWorlds.{as_many_clean, below_clean, invocation_of_clean, made_of_clean, no_method_in_clean, osi_answer_clean, scope_or_not_clean, size_of_referent_clean, size_of_value_clean}
use Rattle.aml_laws.proofs.SetDepths.{few_calls, few_levels, low_so, seen_within, call_allowed_clean}
use Rattle.aml_laws.proofs.FaultsOfChanges.{WorldExplains, direct_explains, direct_or_set_explains, give_explains, on_names_explains, on_objects_explains, settle_explains, stop_explains, then_explains}

module _ {S : Type 0} {accesses : Accesses S} where
  -- ---- what names find, and what values are

  pub integer_kept_explains : (n : ℕ) → WorldExplains accesses (integer_kept n)
  unfolding integer_kept
  integer_kept_explains n = direct_explains _ (λ w. tt) (λ w. refl)

  pub integer_in_explains : (v : Value) → WorldExplains accesses (integer_in v)
  unfolding integer_in
  integer_in_explains v = direct_explains _ (λ w. to_integer_of_clean w.width (content_in w.objects v)) (λ w. refl)

  pub entry_found_explains : (scope : List Seg) (n : Name) → WorldExplains accesses (entry_found scope n)
  unfolding entry_found
  entry_found_explains scope n = direct_explains _ (λ w. seen_clean (λ f. f.1) (found w.names.map scope n) (found_clean w.names.map scope n)) (λ w. refl)

  pub path_found_explains : (scope : List Seg) (n : Name) → WorldExplains accesses (path_found scope n)
  unfolding path_found
  path_found_explains scope n = direct_explains _ (λ w. seen_clean (λ f. f.0) (found w.names.map scope n) (found_clean w.names.map scope n)) (λ w. refl)

  pub scope_found_explains : (scope : List Seg) (n : Name) → WorldExplains accesses (scope_found scope n)
  unfolding scope_found
  scope_found_explains scope n = then_explains _ _ (entry_found_explains scope n) (λ e. then_explains _ _ (settle_explains _ (scope_or_not_clean _)) (λ is. path_found_explains scope n))

  pub arguments_found_explains : (scope : List Seg) (n : Name) → WorldExplains accesses (arguments_found scope n)
  unfolding arguments_found
  arguments_found_explains scope n = then_explains _ _ (entry_found_explains scope n) (λ e. give_explains _)

  pub target_named_explains : (scope : List Seg) (n : Name) → WorldExplains accesses (target_named scope n)
  unfolding target_named
  target_named_explains scope n = then_explains _ _ (path_found_explains scope n) (λ q. give_explains _)

  -- ---- new objects and new names

  pub within_explains : (most n : ℕ) → WorldExplains accesses (within most n)
  unfolding within
  within_explains most n = direct_explains _ (λ w. if_clean (nat_lt most n) _ _ tt tt) (λ w. refl)

  pub new_buffer_explains : (n : ℕ) (bytes : List ℕ) → WorldExplains accesses (new_buffer n bytes)
  unfolding new_buffer
  new_buffer_explains n bytes = then_explains _ _ (within_explains _ n) (λ u. on_objects_explains _ (make_buffer_clean _))

  pub new_package_explains : (n : ℕ) (es : List Element) → WorldExplains accesses (new_package n es)
  unfolding new_package
  new_package_explains n es = on_objects_explains _ (make_package_clean _)

  pub not_in_method_explains : (module_level : Bool) (q : List Seg) → WorldExplains accesses (not_in_method module_level q)
  unfolding not_in_method
  not_in_method_explains module_level q = direct_explains _ (λ w. if_clean module_level _ _ (no_method_in_clean (get w.names.map (above q))) tt) (λ w. refl)

  pub new_name_explains : (module_level : Bool) (q : List Seg) (o : NamedObject) → WorldExplains accesses (new_name module_level q o)
  unfolding new_name
  new_name_explains module_level q o = then_explains _ _ (not_in_method_explains module_level q) (λ u. on_names_explains _ (declared_clean _ _))

  pub new_method_explains : (module_level : Bool) (q : List Seg) (flags : MethodFlags) (body : List ℕ) → WorldExplains accesses (new_method module_level q flags body)
  unfolding new_method
  new_method_explains module_level q flags body = new_name_explains module_level q _

  -- ---- operators

  pub integers_operated_explains : (op : BinaryOperator) (x y : ℕ) → WorldExplains accesses (integers_operated op x y)
  unfolding integers_operated
  integers_operated_explains op x y = direct_explains _ (λ w. seen_clean value.Integer (result_of op w.width x y) (result_of_clean op w.width x y)) (λ w. refl)

  pub operated_explains : (op : BinaryOperator) (v u : Value) → WorldExplains accesses (operated op v u)
  unfolding operated
  operated_explains op v u = then_explains _ _ (integer_in_explains v) (λ x. then_explains _ _ (integer_in_explains u) (λ y. integers_operated_explains op x y))

  pub divided_in_explains : (v u : Value) → WorldExplains accesses (divided_in v u)
  unfolding divided_in
  divided_in_explains v u = then_explains _ _ (integer_in_explains v) (λ x. then_explains _ _ (integer_in_explains u) (λ y. settle_explains _ (divided_clean _ _)))

  pub integer_operated_explains : (op : UnaryOperator) (x : ℕ) → WorldExplains accesses (integer_operated op x)
  unfolding integer_operated
  integer_operated_explains op x = direct_explains _ (λ w. tt) (λ w. refl)

  pub operated_on_one_explains : (op : UnaryOperator) (v : Value) → WorldExplains accesses (operated_on_one op v)
  unfolding operated_on_one
  operated_on_one_explains op v = then_explains _ _ (integer_in_explains v) (λ x. integer_operated_explains op x)

  pub integers_tested_explains : (op : LogicalOperator) (x y : ℕ) → WorldExplains accesses (integers_tested op x y)
  unfolding integers_tested
  integers_tested_explains op x y = direct_explains _ (λ w. tt) (λ w. refl)

  pub operated_logically_explains : (op : LogicalOperator) (v u : Value) → WorldExplains accesses (operated_logically op v u)
  unfolding operated_logically
  operated_logically_explains op v u = then_explains _ _ (integer_in_explains v) (λ x. then_explains _ _ (integer_in_explains u) (λ y. integers_tested_explains op x y))

  pub integer_lnot_explains : (x : ℕ) → WorldExplains accesses (integer_lnot x)
  unfolding integer_lnot
  integer_lnot_explains x = direct_explains _ (λ w. tt) (λ w. refl)

  pub lnot_explains : (v : Value) → WorldExplains accesses (lnot_in v)
  unfolding lnot_in
  lnot_explains v = then_explains _ _ (integer_in_explains v) (λ x. integer_lnot_explains x)

  pub incremented_explains : (x : ℕ) → WorldExplains accesses (incremented x)
  unfolding incremented
  incremented_explains x = direct_explains _ (λ w. tt) (λ w. refl)

  pub decremented_explains : (x : ℕ) → WorldExplains accesses (decremented x)
  unfolding decremented
  decremented_explains x = direct_explains _ (λ w. seen_clean value.Integer (result_of Subtract w.width x 1) (result_of_clean Subtract w.width x 1)) (λ w. refl)

  pub compared_in_explains : (c : Comparison) (v u : Value) → WorldExplains accesses (compared_in c v u)
  unfolding compared_in
  compared_in_explains c v u = direct_explains _ (λ w. seen_clean _ (compared w.width (content_in w.objects v) (content_in w.objects u)) (compared_clean w.width (content_in w.objects v) (content_in w.objects u))) (λ w. refl)

  pub joined_contents_explains : (v u : Value) → WorldExplains accesses (joined_contents v u)
  unfolding joined_contents
  joined_contents_explains v u = direct_explains _ (λ w. concatenated_clean w.width (content_in w.objects v) (content_in w.objects u)) (λ w. refl)

  pub joined_explains : (v u : Value) → WorldExplains accesses (joined v u)
  unfolding joined
  joined_explains v u = then_explains _ _ (joined_contents_explains v u) (λ c. on_objects_explains _ (made_of_clean _))

  pub joined_items_explains : (v u : Value) → WorldExplains accesses (joined_items v u)
  unfolding joined_items
  joined_items_explains v u = direct_explains _ (λ w. resources_joined_clean (content_in w.objects v) (content_in w.objects u)) (λ w. refl)

  pub joined_resources_explains : (v u : Value) → WorldExplains accesses (joined_resources v u)
  unfolding joined_resources
  joined_resources_explains v u = then_explains _ _ (joined_items_explains v u) (λ bytes. on_objects_explains _ (make_buffer_clean _))

  pub to_integer_in_explains : (v : Value) → WorldExplains accesses (to_integer_in v)
  unfolding to_integer_in
  to_integer_in_explains v = direct_explains _ (λ w. seen_clean value.Integer (explicit_integer_of w.width (content_in w.objects v)) (explicit_integer_of_clean w.width (content_in w.objects v))) (λ w. refl)

  pub buffer_bytes_explains : (v : Value) → WorldExplains accesses (buffer_bytes v)
  unfolding buffer_bytes
  buffer_bytes_explains v = direct_explains _ (λ w. to_buffer_of_clean w.width (content_in w.objects v)) (λ w. refl)

  pub new_buffer_of_explains : (v : Value) → WorldExplains accesses (new_buffer_of v)
  unfolding new_buffer_of
  new_buffer_of_explains v = then_explains _ _ (buffer_bytes_explains v) (λ bytes. on_objects_explains _ (make_buffer_clean _))

  pub to_buffer_in_explains : (v : Value) → WorldExplains accesses (to_buffer_in v)
  to_buffer_in_explains (value.Buffer o) = give_explains _
  to_buffer_in_explains value.Uninitialized = new_buffer_of_explains _
  to_buffer_in_explains (value.Integer n) = new_buffer_of_explains _
  to_buffer_in_explains (value.String o) = new_buffer_of_explains _
  to_buffer_in_explains (value.Package o) = new_buffer_of_explains _
  to_buffer_in_explains (value.Reference r) = new_buffer_of_explains _

  pub size_in_explains : (r : Referent) → WorldExplains accesses (size_in r)
  unfolding size_in
  size_in_explains r = direct_explains _ (λ w. seen_clean value.Integer (size_of_referent w.objects r) (size_of_referent_clean w.objects r)) (λ w. refl)

  pub size_held_explains : (v : Value) → WorldExplains accesses (size_held v)
  unfolding size_held
  size_held_explains v = direct_explains _ (λ w. size_of_value_clean w.objects v) (λ w. refl)

  indexed_explains : (v u : Value) → WorldExplains accesses (indexed v u)
  unfolding element_indexed byte_indexed
  indexed_explains (value.Package o) u = then_explains _ _ (integer_in_explains u) (λ i. then_explains _ _ (size_held_explains _) (λ n. settle_explains _ (below_clean _ _ _)))
  indexed_explains (value.String o) u = then_explains _ _ (integer_in_explains u) (λ i. then_explains _ _ (size_held_explains _) (λ n. settle_explains _ (below_clean _ _ _)))
  indexed_explains (value.Buffer o) u = then_explains _ _ (integer_in_explains u) (λ i. then_explains _ _ (size_held_explains _) (λ n. settle_explains _ (below_clean _ _ _)))
  indexed_explains value.Uninitialized u = stop_explains _ tt
  indexed_explains (value.Integer n) u = stop_explains _ tt
  indexed_explains (value.Reference r) u = stop_explains _ tt

  pub result_of_two_explains : (k : TwoOperands) (v u : Value) → WorldExplains accesses (result_of_two k v u)
  result_of_two_explains (two.Integers op) v u = operated_explains op v u
  result_of_two_explains two.Concatenate v u = joined_explains v u
  result_of_two_explains two.ConcatenateResources v u = joined_resources_explains v u
  result_of_two_explains two.Index v u = indexed_explains v u

  pub result_of_one_explains : (k : OneOperand) (v : Value) → WorldExplains accesses (result_of_one k v)
  result_of_one_explains (one.Integer op) v = operated_on_one_explains op v
  result_of_one_explains one.ToBuffer v = to_buffer_in_explains v
  result_of_one_explains one.ToInteger v = to_integer_in_explains v

  pub result_of_test_explains : (k : Test) (v u : Value) → WorldExplains accesses (result_of_test k v u)
  result_of_test_explains (test.Logical op) v u = operated_logically_explains op v u
  result_of_test_explains (test.Compare c) v u = compared_in_explains c v u

  pub counted_by_explains : (k : Count) (n : ℕ) → WorldExplains accesses (counted_by k n)
  counted_by_explains count.Increment n = incremented_explains n
  counted_by_explains count.Decrement n = decremented_explains n

  -- ---- calls

  pub osi_answered_explains : (arguments : List Value) → WorldExplains accesses (osi_answered arguments)
  unfolding osi_answered
  osi_answered_explains arguments = direct_explains _ (λ w. osi_answer_clean w.width w.osi (content_in w.objects (slice_index_or arguments 0 value.Uninitialized))) (λ w. refl)

  pub call_allowed_explains : (depth : ℕ) → WorldExplains accesses (call_allowed depth)
  unfolding call_allowed
  call_allowed_explains depth = direct_or_set_explains _ (λ w. low_so _ _ (call_allowed_within w.nesting.calls depth) (few_calls w.nesting) (call_allowed_clean w.nesting.calls depth)) (λ w. refl)

  pub body_terms_explains : (q : List Seg) (body : List ℕ) → WorldExplains accesses (body_terms q body)
  unfolding body_terms
  body_terms_explains q body = direct_or_set_explains _ (λ w.
      let read = reading_within w.nesting.levels body q true (body_arities w) in
      low_so _ _ (seen trees_of read) (few_levels w.nesting) (seen_within _ trees_of read (reading_within_clean w.nesting.levels body q true (body_arities w)))) (λ w. refl)

  -- ---- what is found and called

  pub named_use_explains : (scope : List Seg) (n : Name) → WorldExplains accesses (named_use scope n)
  unfolding named_use
  named_use_explains scope n = direct_explains _ (λ w. invocation_of_clean (found w.names.map scope n) (found_clean w.names.map scope n)) (λ w. refl)

  pub invocation_found_explains : (scope : List Seg) (n : Name) (many : ℕ) → WorldExplains accesses (invocation_found scope n many)
  unfolding invocation_found
  invocation_found_explains scope n many = then_explains _ _ (arguments_found_explains scope n) (λ wanted. then_explains _ _ (settle_explains _ (as_many_clean _ _)) (λ fit. named_use_explains scope n))
