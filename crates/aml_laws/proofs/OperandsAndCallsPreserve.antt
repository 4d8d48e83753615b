-- Operands, lists of terms, calls of control methods and fields preserve every world relation, where the parts of a term do.
use Rattle.std.specs.Prelude.{◌≡◌, ◌≤◌, ◌-◌, ℕ, zero, suc, List, [], ◌++◌, Bool, true, false, refl, if◌then◌else◌}
use Rattle.std.proofs.Common.{arith, ap}
use Rattle.ar_space.specs.Accesses.{Accesses}
use Rattle.ar_space.specs.Change.{give}
use Rattle.aml_path.specs.declared.segment.Seg.{Seg}
use Rattle.aml_grammar.specs.Tree.{Tree, Trees, no_trees, tree}
use Rattle.aml_objects.specs.declared.value.Value.{Value}
use Rattle.aml_world.specs.declared.state.invocation.Invocation.{Invocation}
use Rattle.aml_world.specs.declared.state.invocation.Invocation.TheVariants as invocations
use Rattle.aml_world.specs.declared.values.store_target.StoreTarget.{StoreTarget}
use Rattle.aml_world.specs.declared.values.store_target.Held.{Held}
use Rattle.aml_world.specs.declared.values.object_type.Referent.{Referent}
use Rattle.aml_world.specs.declared.values.object_type.Referent.TheVariants as referent
use Rattle.aml_world.specs.declared.values.store_target.Held.TheVariants as held
use Rattle.aml_world.specs.declared.values.store_target.Stored.{Stored}
use Rattle.aml_world.specs.declared.values.store_target.Stored.TheVariants as store
use Rattle.aml_world.specs.state.State.{State}
use Rattle.aml_objects.specs.declared.entry.Field.{Field}
use Rattle.aml_objects.specs.declared.entry.FieldUnit.{FieldUnit}
use Rattle.aml_world.specs.state.Run.{Run}
use Rattle.aml_world.specs.values.StoreTargets.{is_element}
use Rattle.aml_meaning.specs.declared.flow.Flow.{Flow}
use Rattle.aml_meaning.specs.Tasks.{Task, operand_value, value_at, two_values, operand_integer, goes_on, in_turn}
use Rattle.aml_meaning.specs.Calls.{invoked, method_value}
use Rattle.aml_meaning.specs.FieldCalls.{called_at, asked, method_integer, answer_over, answer_within, field_read, held_value, held_integer, referent_read, completed, stored_to, back_to, stored_back}
use Rattle.aml_laws.proofs.ItemsOfLists.{item_preserves}
use Rattle.aml_laws.proofs.FieldsPreserve.{field_value_preserves, field_integer_preserves, field_part_preserves, field_referent_preserves, field_stored_preserves}
use Rattle.aml_laws.proofs.FieldUnitsFound.{units_held, units_referred, units_stored, lift_finds, stored_finds}
use Rattle.aml_laws.proofs.KnownFieldUnits.{by_any, give_by, found_then_by, none_known, from_standing}
use Rattle.aml_laws.proofs.FoundNamesStand.{MethodStandsAt}
use Rattle.aml_laws.proofs.LocatedRegions.{IsAsMeant, AsksObjects}
use Rattle.aml_laws.proofs.WorldRelations.{PartsLead, WorldRelation, Levels, always, deeper_preserves, RunPreserves, RunPreservesFrom, RunPreservesBy, CalledStands, units_of_field, MayRemoveBelow, run_give_preserves, run_stop_preserves, run_settle_preserves, lift_preserves, run_then_preserves, found_then_preserves, run_preserves_from, then_preserves_from, body_preserves_from}
use Rattle.aml_laws.proofs.ChangesPreserve.{invocation_found_finds_invocation, integer_in_preserves, body_terms_preserves, call_allowed_preserves}
use Rattle.aml_laws.proofs.StoreTargetsPreserve.{stored_preserves}

module _ {S : Type 0} {accesses : Accesses S} {levels : Levels accesses} (ev : Task → Run S Flow) (parts : PartsLead levels ev) where
  pub operand_value_leads : (scope : List Seg) (depth : ℕ) (t : Tree) → RunPreserves (levels.at depth) (operand_value ev scope depth t)
  unfolding operand_value
  operand_value_leads scope depth t = run_then_preserves _ _ (parts.part _) (λ f. run_settle_preserves _)

  pub operand_integer_preserves : (scope : List Seg) (depth : ℕ) (t : Tree) → RunPreserves (levels.at depth) (operand_integer ev scope depth t)
  unfolding operand_integer
  operand_integer_preserves scope depth t = run_then_preserves _ _ (operand_value_leads scope depth t) (λ v. lift_preserves _ (integer_in_preserves v))

  pub value_at_leads : (scope : List Seg) (depth : ℕ) (t : Tree) (i : ℕ) → RunPreserves (levels.at depth) (value_at ev scope depth t i)
  unfolding value_at
  value_at_leads scope depth t i = run_then_preserves _ _ (run_settle_preserves _) (λ x. operand_value_leads scope depth x)

  pub two_values_leads : (scope : List Seg) (depth : ℕ) (t : Tree) → RunPreserves (levels.at depth) (two_values ev scope depth t)
  unfolding two_values
  two_values_leads scope depth t = run_then_preserves _ _ (value_at_leads scope depth t 0) (λ v. run_then_preserves _ _ (value_at_leads scope depth t 1) (λ u. run_give_preserves _))

  pub after_item_leads : {depth : ℕ} (go : Bool) (f : Flow) (m : Run S Flow) → RunPreserves (levels.at depth) m → RunPreserves (levels.at depth) (if go then m else give f)
  after_item_leads true f m h = h
  after_item_leads false f m h = run_give_preserves _

  pub in_turn_leads : (scope : List Seg) (depth : ℕ) (ts : Trees) → RunPreserves (levels.at depth) (in_turn ev scope depth ts)
  unfolding in_turn
  in_turn_leads scope depth no_trees = run_give_preserves _
  in_turn_leads scope depth (tree t ts) = run_then_preserves _ _ (item_preserves levels ev parts scope depth t) (λ f. after_item_leads (goes_on f) f _ (in_turn_leads scope depth ts))

  -- a call of a control method
  pub invoked_leads_from : {level : ℕ} (u : State S) (depth : ℕ) (q : List Seg) (body : List ℕ) (arguments : List Value) → MayRemoveBelow (levels.at level) u q → RunPreservesFrom (levels.at level) u (invoked ev depth q body arguments)
  unfolding invoked
  invoked_leads_from u depth q body arguments gone =
      then_preserves_from u _ _ (run_preserves_from u _ (lift_preserves _ (call_allowed_preserves _))) (λ few. then_preserves_from u _ _ (run_preserves_from u _ (lift_preserves _ (body_terms_preserves q body))) (λ ts. body_preserves_from u _ q _ gone (deeper_preserves levels depth _ (in_turn_leads q _ ts))))

  pub method_value_preserves_from : {level : ℕ} (u : State S) (depth : ℕ) (q : List Seg) (body : List ℕ) (arguments : List Value) → MethodStandsAt u.names.map q → RunPreservesFrom (levels.at level) u (method_value ev depth q body arguments)
  unfolding method_value
  method_value_preserves_from {level = level} u depth q body arguments at = then_preserves_from u _ _ (invoked_leads_from u depth q body arguments (λ v. (levels.at level).names_removed u v q at)) (λ f. run_preserves_from u _ (run_give_preserves _))

  -- ---- field units

  asked_preserves : {level : ℕ} (answer : Invocation → Run S ℕ) → ((u : State S) (i : Invocation) → CalledStands u i → RunPreservesFrom (levels.at level) u (answer i)) → (q : List Seg) → RunPreserves (levels.at level) (asked answer q)
  unfolding asked
  asked_preserves answer each q = found_then_preserves _ _ (invocation_found_finds_invocation _ _ _) each

  answer_over_preserves_from : {level : ℕ} (k : ℕ) (call : List Seg → Run S ℕ) → ((q : List Seg) → RunPreserves (levels.at level) (call q)) → ((levels.at level).told ≡ true → AsksObjects accesses call) → (u : State S) (i : Invocation) → CalledStands u i → RunPreservesFrom (levels.at level) u (answer_over accesses ev k call i)
  unfolding method_integer
  answer_over_preserves_from k call each asks u (invocations.Value v) at = run_preserves_from u _ (run_settle_preserves _)
  answer_over_preserves_from k call each asks u (invocations.Field f) at = from_standing u (units_of_field f) _ at.fields (field_part_preserves call each asks [] f)
  answer_over_preserves_from k call each asks u (invocations.Method q body) at = then_preserves_from u _ _ (method_value_preserves_from u _ q body _ (at.method q body refl)) (λ v. run_preserves_from u _ (run_settle_preserves _))
  answer_over_preserves_from k call each asks u invocations.Osi at = run_preserves_from u _ (run_stop_preserves _)

  -- so many calls may still be made inside some
  asks_within : {level : ℕ} (k : ℕ) → k ≤ 32 → (levels.at level).told ≡ true → AsksObjects accesses (asked (answer_within accesses ev k))
  asks_within {level = level} k few told =
      let left : k ≡ 32 - (32 - k) = omega (arith, few) in
      record { depth = 32 - k; ev = ev; as_meant = parts.as_meant level told; is = ap (λ j. asked (answer_within accesses ev j)) left }

  answer_within_preserves_from : {level : ℕ} (k : ℕ) → k ≤ 32 → (u : State S) (i : Invocation) → CalledStands u i → RunPreservesFrom (levels.at level) u (answer_within accesses ev k i)
  unfolding answer_within
  answer_within_preserves_from zero few u i at = run_preserves_from u _ (run_stop_preserves _)
  answer_within_preserves_from {level = level} (suc k) few u i at =
      let fewer : k ≤ 32 = omega (arith, few) in
      then_preserves_from u _ _ (run_preserves_from u _ (lift_preserves _ (call_allowed_preserves _))) (λ allowed. answer_over_preserves_from k _ (asked_preserves _ (answer_within_preserves_from k fewer)) (asks_within {level = level} k fewer) u i at)

  pub called_at_preserves : {level : ℕ} (depth : ℕ) (q : List Seg) → RunPreserves (levels.at level) (called_at accesses ev depth q)
  called_at_preserves depth q = asked_preserves _ (answer_within_preserves_from (32 - depth) (omega arith)) q

  pub called_at_asks : {level : ℕ} (depth : ℕ) → (levels.at level).told ≡ true → AsksObjects accesses (called_at accesses ev depth)
  called_at_asks {level = level} depth told = record { depth = depth; ev = ev; as_meant = parts.as_meant level told; is = refl }

  -- fields that are known: those that are found
  pub field_read_preserves : {level : ℕ} (known : List FieldUnit) (depth : ℕ) (u : Field) → RunPreservesBy (levels.at level) (units_of_field u ++ known) (field_read accesses ev depth u)
  field_read_preserves known depth u = field_value_preserves _ (called_at_preserves depth) (called_at_asks depth) known u

  pub held_integer_preserves : {level : ℕ} (known : List FieldUnit) (depth : ℕ) (h : Held) → RunPreservesBy (levels.at level) (units_held h ++ known) (held_integer accesses ev depth h)
  held_integer_preserves known depth (held.Value v) = by_any known _ (lift_preserves _ (integer_in_preserves v))
  held_integer_preserves known depth (held.Field u) = field_integer_preserves _ (called_at_preserves depth) (called_at_asks depth) known u

  pub referent_read_preserves : {level : ℕ} (known : List FieldUnit) (depth : ℕ) (r : Referent) → RunPreservesBy (levels.at level) (units_referred r ++ known) (referent_read accesses ev depth r)
  referent_read_preserves known depth (referent.Value v) = give_by _
  referent_read_preserves known depth (referent.Object t) = give_by _
  referent_read_preserves known depth (referent.Field u) = field_referent_preserves _ (called_at_preserves depth) (called_at_asks depth) known u
  referent_read_preserves known depth (referent.Bytes n) = give_by _

  pub completed_preserves : {level : ℕ} (known : List FieldUnit) (depth : ℕ) (s : Stored) (v : Value) → RunPreservesBy (levels.at level) (units_stored s ++ known) (completed accesses ev depth s v)
  completed_preserves known depth store.Done v = give_by _
  completed_preserves known depth (store.Field u) v = field_stored_preserves _ (called_at_preserves depth) (called_at_asks depth) known u v

  stored_to_preserves_by : {level : ℕ} (known : List FieldUnit) (depth : ℕ) (q : StoreTarget) (v : Value) → RunPreservesBy (levels.at level) known (stored_to accesses ev depth q v)
  unfolding stored_to
  stored_to_preserves_by known depth q v = found_then_by known _ _ (by_any known _ (lift_preserves _ (stored_preserves q v))) (lift_finds _ (stored_finds q v)) (λ s. completed_preserves known depth s v)

  pub stored_to_preserves : {level : ℕ} (depth : ℕ) (q : StoreTarget) (v : Value) → RunPreserves (levels.at level) (stored_to accesses ev depth q v)
  stored_to_preserves depth q v = none_known _ (stored_to_preserves_by [] depth q v)

  pub held_value_preserves : {level : ℕ} (known : List FieldUnit) (depth : ℕ) (h : Held) → RunPreservesBy (levels.at level) (units_held h ++ known) (held_value accesses ev depth h)
  held_value_preserves known depth (held.Value v) = give_by _
  held_value_preserves known depth (held.Field u) = field_read_preserves known depth u

  back_to_preserves : {level : ℕ} (known : List FieldUnit) (b : Bool) (depth : ℕ) (h : Held) (q : StoreTarget) (v : Value) → RunPreservesBy (levels.at level) (units_held h ++ known) (back_to accesses ev b depth h q v)
  back_to_preserves known true depth h q v = stored_to_preserves_by (units_held h ++ known) depth q v
  back_to_preserves known false depth (held.Value old) q v = stored_to_preserves_by known depth q v
  back_to_preserves known false depth (held.Field u) q v = field_stored_preserves _ (called_at_preserves depth) (called_at_asks depth) known u v

  pub stored_back_preserves : {level : ℕ} (known : List FieldUnit) (depth : ℕ) (h : Held) (q : StoreTarget) (v : Value) → RunPreservesBy (levels.at level) (units_held h ++ known) (stored_back accesses ev depth h q v)
  stored_back_preserves known depth h q v = back_to_preserves known (is_element q) depth h q v

-- ---- the same at all depths

module _ {S : Type 0} {accesses : Accesses S} {relation : WorldRelation accesses} (ev : Task → Run S Flow) (parts : (t : Task) → RunPreserves relation (ev t)) (as_meant : relation.told ≡ true → IsAsMeant accesses ev) where
  pub at_all_depths : PartsLead (always relation) ev
  at_all_depths = record { part = λ t. record { preserves = (parts t).preserves }; as_meant = λ level told. as_meant told }

  pub operand_value_preserves : (scope : List Seg) (depth : ℕ) (t : Tree) → RunPreserves relation (operand_value ev scope depth t)
  operand_value_preserves scope depth t = record { preserves = (operand_value_leads {levels = always relation} ev at_all_depths scope depth t).preserves }

  pub value_at_preserves : (scope : List Seg) (depth : ℕ) (t : Tree) (i : ℕ) → RunPreserves relation (value_at ev scope depth t i)
  value_at_preserves scope depth t i = record { preserves = (value_at_leads {levels = always relation} ev at_all_depths scope depth t i).preserves }

  pub two_values_preserves : (scope : List Seg) (depth : ℕ) (t : Tree) → RunPreserves relation (two_values ev scope depth t)
  two_values_preserves scope depth t = record { preserves = (two_values_leads {levels = always relation} ev at_all_depths scope depth t).preserves }

  pub in_turn_preserves : (scope : List Seg) (depth : ℕ) (ts : Trees) → RunPreserves relation (in_turn ev scope depth ts)
  in_turn_preserves scope depth ts = record { preserves = (in_turn_leads {levels = always relation} ev at_all_depths scope depth ts).preserves }

  pub after_item_preserves : (go : Bool) (f : Flow) (m : Run S Flow) → RunPreserves relation m → RunPreserves relation (if go then m else give f)
  after_item_preserves true f m h = h
  after_item_preserves false f m h = run_give_preserves _

  pub invoked_preserves_from : (u : State S) (depth : ℕ) (q : List Seg) (body : List ℕ) (arguments : List Value) → MayRemoveBelow relation u q → RunPreservesFrom relation u (invoked ev depth q body arguments)
  invoked_preserves_from u depth q body arguments gone = record { preserves_from = (invoked_leads_from {levels = always relation} ev at_all_depths {level = depth} u depth q body arguments gone).preserves_from }
