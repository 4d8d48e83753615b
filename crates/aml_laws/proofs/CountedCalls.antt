-- Operands, lists of terms, calls of control methods and fields do what they do without the counter, where the parts of a term do.
use Rattle.std.specs.Prelude.{ℕ, zero, suc, List, Bool, true, false, refl, if◌then◌else◌, ◌==◌, ◌-◌, ◌^◌}
use Rattle.ar_space.specs.Accesses.{Accesses}
use Rattle.ar_space.specs.Change.{give}
use Rattle.aml_path.specs.declared.segment.Seg.{Seg}
use Rattle.aml_grammar.specs.Tree.{Tree, Trees, no_trees, tree}
use Rattle.aml_objects.specs.declared.value.Value.{Value}
use Rattle.aml_world.specs.declared.state.invocation.Invocation.{Invocation}
use Rattle.aml_world.specs.declared.state.invocation.Invocation.TheVariants as invocations
use Rattle.aml_world.specs.declared.values.store_target.StoreTarget.{StoreTarget}
use Rattle.aml_world.specs.declared.values.store_target.Held.{Held}
use Rattle.aml_world.specs.declared.values.object_type.Referent.{Referent}
use Rattle.aml_world.specs.declared.values.object_type.Referent.TheVariants as referent
use Rattle.aml_world.specs.declared.values.store_target.Held.TheVariants as held
use Rattle.aml_world.specs.declared.values.store_target.Stored.{Stored}
use Rattle.aml_world.specs.declared.values.store_target.Stored.TheVariants as store
use Rattle.aml_world.specs.state.Run.{Run}
use Rattle.aml_objects.specs.declared.entry.Field.{Field}
use Rattle.aml_world.specs.state.Invocations.{left}
use Rattle.aml_world.specs.values.StoreTargets.{is_element}
use Rattle.aml_world.specs.state.Slots.{opened}
use Rattle.aml_meaning.specs.declared.flow.Flow.{Flow}
use Rattle.aml_meaning.specs.Tasks.{Task, operand_value, value_at, two_values, operand_integer, goes_on, in_turn}
use Rattle.aml_meaning.specs.Calls.{invoked, method_value, leaving, returned_by}
use Rattle.std.proofs.Common.{ap}
use Rattle.ar_space.specs.Outcome.{seen}
use Rattle.aml_meaning.specs.FieldCalls.{called_at, asked, method_integer, answer_over, answer_within, field_read, held_value, held_integer, referent_read, completed, stored_to, back_to, stored_back}
use Rattle.aml_laws.specs.Counted.{beside_counter}
use Rattle.aml_laws.proofs.CountedChanges.{Counts, RunCounts, give_counts, stop_counts, settle_counts, then_counts, direct_counts, either_branch_counts, lift_counts}
use Rattle.aml_laws.proofs.ItemsOfLists.{item_counts}
use Rattle.aml_laws.proofs.CountedOperations.{integer_in_counts, body_terms_counts, invocation_found_counts, call_allowed_counts}
use Rattle.aml_laws.proofs.CountedStoreTargets.{stored_counts}
use Rattle.aml_laws.proofs.CountedFields.{field_value_counts, field_stored_counts, field_integer_counts, field_referent_counts, field_part_counts}

-- uncounted: what a part evaluates to without the counter
module _ {S : Type 0} (accesses : Accesses S) (ev : Task → Run (S × ℕ) Flow) (uncounted : Task → Run S Flow) (parts : (t : Task) → RunCounts (ev t) (uncounted t)) where
  pub operand_value_counts : (scope : List Seg) (depth : ℕ) (t : Tree) → RunCounts {S = S} (operand_value ev scope depth t) (operand_value uncounted scope depth t)
  unfolding operand_value
  operand_value_counts scope depth t = then_counts _ _ _ _ (parts _) (λ f. settle_counts _)

  pub operand_integer_counts : (scope : List Seg) (depth : ℕ) (t : Tree) → RunCounts {S = S} (operand_integer ev scope depth t) (operand_integer uncounted scope depth t)
  unfolding operand_integer
  operand_integer_counts scope depth t = then_counts _ _ _ _ (operand_value_counts scope depth t) (λ v. lift_counts _ _ (integer_in_counts v))

  pub value_at_counts : (scope : List Seg) (depth : ℕ) (t : Tree) (i : ℕ) → RunCounts {S = S} (value_at ev scope depth t i) (value_at uncounted scope depth t i)
  unfolding value_at
  value_at_counts scope depth t i = then_counts _ _ _ _ (settle_counts _) (λ x. operand_value_counts scope depth x)

  pub two_values_counts : (scope : List Seg) (depth : ℕ) (t : Tree) → RunCounts {S = S} (two_values ev scope depth t) (two_values uncounted scope depth t)
  unfolding two_values
  two_values_counts scope depth t = then_counts _ _ _ _ (value_at_counts scope depth t 0) (λ v. then_counts _ _ _ _ (value_at_counts scope depth t 1) (λ u. give_counts _))

  pub after_item_counts : (go : Bool) (f : Flow) (m : Run (S × ℕ) Flow) (k : Run S Flow) → RunCounts m k → RunCounts (if go then m else give f) (if go then k else give f)
  after_item_counts true f m k h = h
  after_item_counts false f m k h = give_counts _

  pub in_turn_counts : (scope : List Seg) (depth : ℕ) (ts : Trees) → RunCounts {S = S} (in_turn ev scope depth ts) (in_turn uncounted scope depth ts)
  unfolding in_turn
  in_turn_counts scope depth no_trees = give_counts _
  in_turn_counts scope depth (tree t ts) = then_counts _ _ _ _ (item_counts ev uncounted parts scope depth t) (λ f. after_item_counts (goes_on f) f _ _ (in_turn_counts scope depth ts))

  -- ---- calls of control methods

  leaving_counts : (q : List Seg) (m : Run (S × ℕ) Flow) (k : Run S Flow) → RunCounts m k → RunCounts (leaving q m) (leaving q k)
  unfolding leaving
  leaving_counts q m k h = record { same = λ s. ap (λ a. (seen returned_by a.0, (left q a.1.0, a.1.1))) (h.same s); leads = h.leads }

  opened_counts : (vs : List Value) → Counts {S = S} (opened vs) (opened vs)
  unfolding opened
  opened_counts vs = either_branch_counts (λ w. w.started == 2 ^ 64 - 1) _ _ _ _ (direct_counts _ _ (λ w. refl) (λ w. refl)) (direct_counts _ _ (λ w. refl) (λ w. refl))

  pub invoked_counts : (depth : ℕ) (q : List Seg) (body : List ℕ) (arguments : List Value) → RunCounts {S = S} (invoked ev depth q body arguments) (invoked uncounted depth q body arguments)
  unfolding invoked
  invoked_counts depth q body arguments =
      then_counts _ _ _ _ (lift_counts _ _ (call_allowed_counts _)) (λ few. then_counts _ _ _ _ (lift_counts _ _ (body_terms_counts q body)) (λ ts. then_counts _ _ _ _ (lift_counts _ _ (opened_counts _)) (λ n. leaving_counts q _ _ (in_turn_counts q _ ts))))

  pub method_value_counts : (depth : ℕ) (q : List Seg) (body : List ℕ) (arguments : List Value) → RunCounts {S = S} (method_value ev depth q body arguments) (method_value uncounted depth q body arguments)
  unfolding method_value
  method_value_counts depth q body arguments = then_counts _ _ _ _ (invoked_counts depth q body arguments) (λ f. give_counts _)

  -- ---- fields

  asked_counts : (answer : Invocation → Run (S × ℕ) ℕ) (other : Invocation → Run S ℕ) → ((i : Invocation) → RunCounts (answer i) (other i)) → (q : List Seg) → RunCounts (asked answer q) (asked other q)
  unfolding asked
  asked_counts answer other each q = then_counts _ _ _ _ (lift_counts _ _ (invocation_found_counts _ _ _)) each

  answer_over_counts : (k : ℕ) (call : List Seg → Run (S × ℕ) ℕ) (other : List Seg → Run S ℕ) → ((q : List Seg) → RunCounts (call q) (other q)) → (i : Invocation) → RunCounts (answer_over (beside_counter accesses) ev k call i) (answer_over accesses uncounted k other i)
  unfolding method_integer
  answer_over_counts k call other each (invocations.Value v) = settle_counts _
  answer_over_counts k call other each (invocations.Field f) = field_part_counts accesses call other each f
  answer_over_counts k call other each (invocations.Method q body) = then_counts _ _ _ _ (method_value_counts _ q body _) (λ v. settle_counts _)
  answer_over_counts k call other each invocations.Osi = stop_counts _

  answer_within_counts : (k : ℕ) (i : Invocation) → RunCounts (answer_within (beside_counter accesses) ev k i) (answer_within accesses uncounted k i)
  unfolding answer_within
  answer_within_counts zero i = stop_counts _
  answer_within_counts (suc k) i = then_counts _ _ _ _ (lift_counts _ _ (call_allowed_counts _)) (λ few. answer_over_counts k _ _ (asked_counts _ _ (answer_within_counts k)) i)

  pub called_at_counts : (depth : ℕ) (q : List Seg) → RunCounts (called_at (beside_counter accesses) ev depth q) (called_at accesses uncounted depth q)
  called_at_counts depth q = asked_counts _ _ (answer_within_counts _) q

  pub field_read_counts : (depth : ℕ) (u : Field) → RunCounts {S = S} (field_read (beside_counter accesses) ev depth u) (field_read accesses uncounted depth u)
  field_read_counts depth u = field_value_counts accesses _ _ (called_at_counts depth) u

  pub held_integer_counts : (depth : ℕ) (h : Held) → RunCounts {S = S} (held_integer (beside_counter accesses) ev depth h) (held_integer accesses uncounted depth h)
  held_integer_counts depth (held.Value v) = lift_counts _ _ (integer_in_counts v)
  held_integer_counts depth (held.Field u) = field_integer_counts accesses _ _ (called_at_counts depth) u

  pub referent_read_counts : (depth : ℕ) (r : Referent) → RunCounts {S = S} (referent_read (beside_counter accesses) ev depth r) (referent_read accesses uncounted depth r)
  referent_read_counts depth (referent.Value v) = give_counts _
  referent_read_counts depth (referent.Object t) = give_counts _
  referent_read_counts depth (referent.Field u) = field_referent_counts accesses _ _ (called_at_counts depth) u
  referent_read_counts depth (referent.Bytes n) = give_counts _

  pub completed_counts : (depth : ℕ) (s : Stored) (v : Value) → RunCounts {S = S} (completed (beside_counter accesses) ev depth s v) (completed accesses uncounted depth s v)
  completed_counts depth store.Done v = give_counts _
  completed_counts depth (store.Field u) v = field_stored_counts accesses _ _ (called_at_counts depth) u v

  pub stored_to_counts : (depth : ℕ) (q : StoreTarget) (v : Value) → RunCounts {S = S} (stored_to (beside_counter accesses) ev depth q v) (stored_to accesses uncounted depth q v)
  unfolding stored_to
  stored_to_counts depth q v = then_counts _ _ _ _ (lift_counts _ _ (stored_counts q v)) (λ s. completed_counts depth s v)

  pub held_value_counts : (depth : ℕ) (h : Held) → RunCounts {S = S} (held_value (beside_counter accesses) ev depth h) (held_value accesses uncounted depth h)
  held_value_counts depth (held.Value v) = give_counts _
  held_value_counts depth (held.Field u) = field_read_counts depth u

  back_to_counts : (b : Bool) (depth : ℕ) (h : Held) (q : StoreTarget) (v : Value) → RunCounts {S = S} (back_to (beside_counter accesses) ev b depth h q v) (back_to accesses uncounted b depth h q v)
  back_to_counts true depth h q v = stored_to_counts depth q v
  back_to_counts false depth (held.Value old) q v = stored_to_counts depth q v
  back_to_counts false depth (held.Field u) q v = field_stored_counts accesses _ _ (called_at_counts depth) u v

  pub stored_back_counts : (depth : ℕ) (h : Held) (q : StoreTarget) (v : Value) → RunCounts {S = S} (stored_back (beside_counter accesses) ev depth h q v) (stored_back accesses uncounted depth h q v)
  stored_back_counts depth h q v = back_to_counts (is_element q) depth h q v
