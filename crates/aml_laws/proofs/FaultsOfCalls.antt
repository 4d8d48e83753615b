-- Where an operand, a list of terms, a call of a control method or a field refuses by a fault of the register space, its last access
-- answered with it, where the parts of a term do so.
use Rattle.std.specs.Prelude.{Bool, Err, List, Ok, false, if◌then◌else◌, refl, suc, true, zero, ℕ, ◌-◌, ◌==◌, ◌^◌}
use Rattle.ar_space.specs.Accesses.{Accesses}
use Rattle.ar_space.specs.Change.{give}
use Rattle.ar_space.specs.Outcome.{Outcome, seen}
use Rattle.aml_path.specs.declared.segment.Seg.{Seg}
use Rattle.aml_grammar.specs.Tree.{Tree, Trees, no_trees, tree}
use Rattle.aml_objects.specs.declared.entry.Field.{Field}
use Rattle.aml_objects.specs.declared.value.Value.{Value}
use Rattle.aml_world.specs.values.StoreTargets.{is_element}
use Rattle.aml_world.specs.state.Run.{Run}
use Rattle.aml_world.specs.state.Slots.{opened}
use Rattle.aml_world.specs.declared.state.invocation.Invocation.TheVariants as invocations
use Rattle.aml_world.specs.declared.state.invocation.Invocation.{Invocation}
use Rattle.aml_world.specs.declared.values.object_type.Referent.TheVariants as referent
use Rattle.aml_world.specs.declared.values.object_type.Referent.{Referent}
use Rattle.aml_world.specs.declared.values.store_target.Held.TheVariants as held
use Rattle.aml_world.specs.declared.values.store_target.Held.{Held}
use Rattle.aml_world.specs.declared.values.store_target.StoreTarget.{StoreTarget}
use Rattle.aml_world.specs.declared.values.store_target.Stored.TheVariants as store
use Rattle.aml_world.specs.declared.values.store_target.Stored.{Stored}
use Rattle.aml_meaning.specs.FieldCalls.{answer_over, answer_within, asked, back_to, called_at, completed, field_read, held_integer, held_value, method_integer, referent_read, stored_back, stored_to}
use Rattle.aml_meaning.specs.Calls.{invoked, leaving, method_value, returned_by}
use Rattle.aml_meaning.specs.Tasks.{Task, goes_on, in_turn, operand_integer, operand_value, two_values, value_at}
use Rattle.aml_meaning.specs.declared.flow.Flow.{Flow}
use Rattle.aml_laws.proofs.CleanWorlds.{inner_of_clean, integer_only_clean, value_in_clean}
use Rattle.aml_laws.proofs.FaultsOfChanges.{Explained, RunExplains, Spent, WorldExplains, direct_explains, either_branch_explains, give_explains, lift_explains, settle_explains, stop_explains, then_explains}
use Rattle.aml_laws.proofs.ItemsOfLists.{item_explains}
use Rattle.aml_laws.proofs.SetDepths.{is_low, seen_of_setting}
use Rattle.aml_laws.proofs.FaultsOfFields.{field_integer_explains, field_part_explains, field_referent_explains, field_stored_explains, field_value_explains}
use Rattle.aml_laws.proofs.FaultsOfOperations.{body_terms_explains, integer_in_explains, invocation_found_explains, call_allowed_explains}
use Rattle.aml_laws.proofs.FaultsOfStoreTargets.{stored_explains}

module _ {S : Type 0} (accesses : Accesses S) (ev : Task → Run S Flow) (parts : (t : Task) → RunExplains accesses (ev t)) where
  pub operand_value_explains : (scope : List Seg) (depth : ℕ) (t : Tree) → RunExplains accesses (operand_value ev scope depth t)
  unfolding operand_value
  operand_value_explains scope depth t = then_explains _ _ (parts _) (λ f. settle_explains _ (value_in_clean _))

  pub operand_integer_explains : (scope : List Seg) (depth : ℕ) (t : Tree) → RunExplains accesses (operand_integer ev scope depth t)
  unfolding operand_integer
  operand_integer_explains scope depth t = then_explains _ _ (operand_value_explains scope depth t) (λ v. lift_explains _ (integer_in_explains v))

  pub value_at_explains : (scope : List Seg) (depth : ℕ) (t : Tree) (i : ℕ) → RunExplains accesses (value_at ev scope depth t i)
  unfolding value_at
  value_at_explains scope depth t i = then_explains _ _ (settle_explains _ (inner_of_clean _)) (λ x. operand_value_explains scope depth x)

  pub two_values_explains : (scope : List Seg) (depth : ℕ) (t : Tree) → RunExplains accesses (two_values ev scope depth t)
  unfolding two_values
  two_values_explains scope depth t = then_explains _ _ (value_at_explains scope depth t 0) (λ v. then_explains _ _ (value_at_explains scope depth t 1) (λ u. give_explains _))

  pub after_item_explains : (go : Bool) (f : Flow) (m : Run S Flow) → RunExplains accesses m → RunExplains accesses (if go then m else give f)
  after_item_explains true f m h = h
  after_item_explains false f m h = give_explains _

  pub in_turn_explains : (scope : List Seg) (depth : ℕ) (ts : Trees) → RunExplains accesses (in_turn ev scope depth ts)
  unfolding in_turn
  in_turn_explains scope depth no_trees = give_explains _
  in_turn_explains scope depth (tree t ts) = then_explains _ _ (item_explains accesses ev parts scope depth t) (λ f. after_item_explains (goes_on f) f _ (in_turn_explains scope depth ts))

  -- ---- calls of control methods

  returned_explained : (x : Outcome Flow) (s t : S) → Explained accesses x s t → Explained accesses (seen returned_by x) s t
  returned_explained (Ok f) s t h = h
  returned_explained (Err e) s t h = h

  returned_spent : (x : Outcome Flow) (rest : ℕ) → Spent x rest → Spent (seen returned_by x) rest
  returned_spent (Ok f) rest h = tt
  returned_spent (Err e) rest h = h

  leaving_explains : (q : List Seg) (m : Run S Flow) → RunExplains accesses m → RunExplains accesses (leaving q m)
  unfolding leaving
  leaving_explains q m h = record { explained = λ s. returned_explained (m s).0 s.0.space (m s).1.0.space (h.explained s); spent = λ s. returned_spent (m s).0 (m s).1.1 (h.spent s); set = λ s. seen_of_setting returned_by (m s).0 (is_low (m s).1.0.nesting) (h.set s) }

  opened_explains : (vs : List Value) → WorldExplains accesses (opened vs)
  unfolding opened
  opened_explains vs = either_branch_explains (λ w. w.started == 2 ^ 64 - 1) _ _ (direct_explains _ (λ w. tt) (λ w. refl)) (direct_explains _ (λ w. tt) (λ w. refl))

  pub invoked_explains : (depth : ℕ) (q : List Seg) (body : List ℕ) (arguments : List Value) → RunExplains accesses (invoked ev depth q body arguments)
  unfolding invoked
  invoked_explains depth q body arguments =
      then_explains _ _ (lift_explains _ (call_allowed_explains _)) (λ few. then_explains _ _ (lift_explains _ (body_terms_explains q body)) (λ ts. then_explains _ _ (lift_explains _ (opened_explains _)) (λ n. leaving_explains q _ (in_turn_explains q _ ts))))

  pub method_value_explains : (depth : ℕ) (q : List Seg) (body : List ℕ) (arguments : List Value) → RunExplains accesses (method_value ev depth q body arguments)
  unfolding method_value
  method_value_explains depth q body arguments = then_explains _ _ (invoked_explains depth q body arguments) (λ f. give_explains _)

  -- ---- fields

  asked_explains : (answer : Invocation → Run S ℕ) → ((i : Invocation) → RunExplains accesses (answer i)) → (q : List Seg) → RunExplains accesses (asked answer q)
  unfolding asked
  asked_explains answer each q = then_explains _ _ (lift_explains _ (invocation_found_explains _ _ _)) each

  answer_over_explains : (k : ℕ) (call : List Seg → Run S ℕ) → ((q : List Seg) → RunExplains accesses (call q)) → (i : Invocation) → RunExplains accesses (answer_over accesses ev k call i)
  unfolding method_integer
  answer_over_explains k call each (invocations.Value v) = settle_explains _ (integer_only_clean _)
  answer_over_explains k call each (invocations.Field f) = field_part_explains accesses call each f
  answer_over_explains k call each (invocations.Method q body) = then_explains _ _ (method_value_explains _ q body _) (λ v. settle_explains _ (integer_only_clean _))
  answer_over_explains k call each invocations.Osi = stop_explains _ tt

  answer_within_explains : (k : ℕ) (i : Invocation) → RunExplains accesses (answer_within accesses ev k i)
  unfolding answer_within
  answer_within_explains zero i = stop_explains _ tt
  answer_within_explains (suc k) i = then_explains _ _ (lift_explains _ (call_allowed_explains _)) (λ few. answer_over_explains k _ (asked_explains _ (answer_within_explains k)) i)

  pub called_at_explains : (depth : ℕ) (q : List Seg) → RunExplains accesses (called_at accesses ev depth q)
  called_at_explains depth q = asked_explains _ (answer_within_explains _) q

  pub field_read_explains : (depth : ℕ) (u : Field) → RunExplains accesses (field_read accesses ev depth u)
  field_read_explains depth u = field_value_explains accesses _ (called_at_explains depth) u

  pub held_integer_explains : (depth : ℕ) (h : Held) → RunExplains accesses (held_integer accesses ev depth h)
  held_integer_explains depth (held.Value v) = lift_explains _ (integer_in_explains v)
  held_integer_explains depth (held.Field u) = field_integer_explains accesses _ (called_at_explains depth) u

  pub referent_read_explains : (depth : ℕ) (r : Referent) → RunExplains accesses (referent_read accesses ev depth r)
  referent_read_explains depth (referent.Value v) = give_explains _
  referent_read_explains depth (referent.Object t) = give_explains _
  referent_read_explains depth (referent.Field u) = field_referent_explains accesses _ (called_at_explains depth) u
  referent_read_explains depth (referent.Bytes n) = give_explains _

  pub completed_explains : (depth : ℕ) (s : Stored) (v : Value) → RunExplains accesses (completed accesses ev depth s v)
  completed_explains depth store.Done v = give_explains _
  completed_explains depth (store.Field u) v = field_stored_explains accesses _ (called_at_explains depth) u v

  pub stored_to_explains : (depth : ℕ) (q : StoreTarget) (v : Value) → RunExplains accesses (stored_to accesses ev depth q v)
  unfolding stored_to
  stored_to_explains depth q v = then_explains _ _ (lift_explains _ (stored_explains q v)) (λ s. completed_explains depth s v)

  pub held_value_explains : (depth : ℕ) (h : Held) → RunExplains accesses (held_value accesses ev depth h)
  held_value_explains depth (held.Value v) = give_explains _
  held_value_explains depth (held.Field u) = field_read_explains depth u

  back_to_explains : (b : Bool) (depth : ℕ) (h : Held) (q : StoreTarget) (v : Value) → RunExplains accesses (back_to accesses ev b depth h q v)
  back_to_explains true depth h q v = stored_to_explains depth q v
  back_to_explains false depth (held.Value old) q v = stored_to_explains depth q v
  back_to_explains false depth (held.Field u) q v = field_stored_explains accesses _ (called_at_explains depth) u v

  pub stored_back_explains : (depth : ℕ) (h : Held) (q : StoreTarget) (v : Value) → RunExplains accesses (stored_back accesses ev depth h q v)
  stored_back_explains depth h q v = back_to_explains (is_element q) depth h q v
