-- Loading a table and evaluating an object preserve every world relation; so what evaluations make of a world is related to it.
use Rattle.std.specs.Prelude.{◌≡◌, Bool, true, ℕ, List, [], length, replicate, Ok, Err, refl}
use Rattle.ar_space.specs.Accesses.{Accesses}
use Rattle.ar_space.specs.Outcome.{Outcome}
use Rattle.aml_path.specs.declared.segment.Seg.{Seg}
use Rattle.aml_arities.specs.declared.arities.Arity.{Arity}
use Rattle.aml_grammar.specs.Tree.{Tree, Trees}
use Rattle.aml_grammar.specs.Grammar.{table_reading_within}
use Rattle.aml_objects.specs.declared.value.Value.{Value}
use Rattle.aml_objects.specs.declared.value.Value.TheVariants as value
use Rattle.aml_objects.specs.declared.entry.NamedObject.{NamedObject}
use Rattle.aml_world.specs.declared.state.invocation.Invocation.{Invocation}
use Rattle.aml_world.specs.declared.state.invocation.Invocation.TheVariants as invocations
use Rattle.aml_world.specs.state.Given.{Given}
use Rattle.aml_world.specs.state.State.{State}
use Rattle.aml_world.specs.state.Predefined as predefined
use Rattle.aml_meaning.specs.Calling.{with_steps, in_frame, terms_kept, table_terms, at_root, table_run, loaded, value_of, called, evaluated, invocation_exported, answer_exported, answered}
use Rattle.aml_laws.specs.Becomes.{Becomes, same, term, list, table, value, answer, passed}
use Rattle.aml_laws.proofs.KnownFieldUnits.{from_standing}
use Rattle.aml_laws.proofs.FieldsPreserve.{field_given_preserves}
use Rattle.aml_laws.proofs.OperandsAndCallsPreserve.{called_at_preserves, called_at_asks}
use Rattle.aml_laws.proofs.ObjectKinds.{make_string_keeps_kinds}
use Rattle.aml_laws.proofs.WorldRelations.{Levels, always, WorldRelation, WorldRelationOf, Preserves, RunPreserves, RunPreservesFrom, CalledStands, units_of_field, settle_preserves, then_preserves, on_objects_preserves, declared_preserves, in_frame_preserves, with_steps_preserves, counted_preserves, ending_preserves, run_give_preserves, lift_preserves, run_then_preserves, found_then_preserves, run_preserves_from, then_preserves_from}
use Rattle.aml_laws.proofs.ChangesPreserve.{invocation_found_finds_invocation, osi_answered_preserves}
use Rattle.aml_laws.proofs.OperandsAndCallsPreserve.{field_read_preserves, method_value_preserves_from}
use Rattle.aml_laws.proofs.RulesPreserve.{meaning_parts_lead, list_leads, meaning_preserves, list_preserves}
use Rattle.aml_laws.proofs.ArgumentsAndAnswersPreserve.{all_imported_preserves, exported_preserves}

terms_kept_preserves : {S : Type 0} {listed : Bool} {accesses : Accesses S} (relation : WorldRelationOf listed accesses) → relation.loads ≡ true → (r : Outcome (List Tree × List Arity)) (w : State S) → relation.Leads w (terms_kept r w).1
terms_kept_preserves relation loads (Ok (ts, after)) w = relation.arities_set loads w after
terms_kept_preserves relation loads (Err e) w = relation.reflexive w

module _ {S : Type 0} {listed : Bool} {accesses : Accesses S} {relation : WorldRelationOf listed accesses} where
  -- ---- tables

  table_terms_preserves : relation.loads ≡ true → (bytes : List ℕ) → Preserves relation (table_terms bytes)
  unfolding table_terms
  table_terms_preserves loads bytes = record { preserves = λ w. terms_kept_preserves relation loads (table_reading_within w.nesting.levels bytes w.arities) w }

module _ {S : Type 0} {accesses : Accesses S} (levels : Levels accesses) where
  at_root_preserves : (ts : Trees) → RunPreserves (levels.at 0) (at_root accesses ts)
  unfolding at_root
  at_root_preserves ts = run_then_preserves _ _ (list_leads levels [] 0 ts) (λ last. run_give_preserves _)

  -- what was read of a table
  pub terms_run_preserves : (steps : ℕ) (ts : Trees) → Preserves (levels.at 0) (in_frame (replicate 7 value.Uninitialized) (with_steps steps (at_root accesses ts)))
  terms_run_preserves steps ts = in_frame_preserves _ _ (with_steps_preserves steps _ (at_root_preserves ts))

  table_run_preserves : (levels.at 0).loads ≡ true → (steps : ℕ) (bytes : List ℕ) → Preserves (levels.at 0) (table_run accesses steps bytes)
  unfolding table_run
  table_run_preserves loads steps bytes = then_preserves _ _ (table_terms_preserves loads bytes) (λ ts. terms_run_preserves steps ts)

  pub loaded_preserves : (levels.at 0).loads ≡ true → (bytes : List ℕ) (steps : ℕ) → Preserves (levels.at 0) (loaded accesses bytes steps)
  unfolding loaded
  loaded_preserves loads bytes steps = ending_preserves _ (table_run_preserves loads steps bytes)

  -- ---- objects that are evaluated

  value_of_preserves_from : (u : State S) (i : Invocation) (arguments : List Value) → CalledStands u i → RunPreservesFrom (levels.at 1) u (value_of accesses i arguments)
  value_of_preserves_from u (invocations.Value v) arguments at = run_preserves_from u _ (run_give_preserves _)
  value_of_preserves_from u (invocations.Field f) arguments at = from_standing u (units_of_field f) _ at.fields (field_read_preserves _ (meaning_parts_lead levels) {level = 1} [] 1 f)
  value_of_preserves_from u (invocations.Method q body) arguments at = method_value_preserves_from _ (meaning_parts_lead levels) {level = 1} u 0 q body arguments (at.method q body refl)
  value_of_preserves_from u invocations.Osi arguments at = run_preserves_from u _ (lift_preserves _ (osi_answered_preserves arguments))

  called_preserves : (p : List Seg) (arguments : List Value) → RunPreserves (levels.at 1) (called accesses p arguments)
  unfolding called
  called_preserves p arguments = found_then_preserves _ _ (invocation_found_finds_invocation _ _ _) (λ u i at. value_of_preserves_from u i arguments at)

  pub evaluated_preserves : (p : List Seg) (arguments : List Value) (steps : ℕ) → Preserves (levels.at 1) (evaluated accesses p arguments steps)
  unfolding evaluated
  evaluated_preserves p arguments steps = counted_preserves steps _ (called_preserves p arguments)

  invocation_exported_preserves_from : (u : State S) (i : Invocation) (arguments : List Value) → CalledStands u i → RunPreservesFrom (levels.at 1) u (invocation_exported accesses i arguments)
  invocation_exported_preserves_from u (invocations.Value v) arguments at = then_preserves_from u _ _ (value_of_preserves_from u (invocations.Value v) arguments at) (λ v. run_preserves_from u _ (exported_preserves levels v))
  invocation_exported_preserves_from u (invocations.Field f) arguments at = from_standing u (units_of_field f) _ at.fields (field_given_preserves _ (called_at_preserves _ (meaning_parts_lead levels) {level = 1} 1) (called_at_asks _ (meaning_parts_lead levels) {level = 1} 1) [] f)
  invocation_exported_preserves_from u (invocations.Method q body) arguments at = then_preserves_from u _ _ (value_of_preserves_from u (invocations.Method q body) arguments at) (λ v. run_preserves_from u _ (exported_preserves levels v))
  invocation_exported_preserves_from u invocations.Osi arguments at = then_preserves_from u _ _ (value_of_preserves_from u invocations.Osi arguments at) (λ v. run_preserves_from u _ (exported_preserves levels v))

  answer_exported_preserves : (p : List Seg) (count : ℕ) (arguments : List Given) → RunPreserves (levels.at 1) (answer_exported accesses p count arguments)
  unfolding answer_exported
  answer_exported_preserves p count arguments =
      found_then_preserves _ _ (invocation_found_finds_invocation _ _ _) (λ u i at. then_preserves_from u _ _ (run_preserves_from u _ (lift_preserves _ (all_imported_preserves arguments []))) (λ vs. invocation_exported_preserves_from u i vs at))

  pub answered_preserves : (p : List Seg) (arguments : List Given) (steps : ℕ) → Preserves (levels.at 1) (answered accesses p arguments steps)
  unfolding answered
  answered_preserves p arguments steps = ending_preserves _ (with_steps_preserves steps _ (answer_exported_preserves p (length arguments) arguments))

module _ {S : Type 0} {listed : Bool} {accesses : Accesses S} {relation : WorldRelationOf listed accesses} where
  -- ---- the predefined names

  takes_preserves : relation.loads ≡ true → (path : List Seg) (count : ℕ) → Preserves relation (predefined.takes path count)
  unfolding predefined.takes
  takes_preserves loads path count = record { preserves = λ w. relation.arities_set loads w _ }

  predefined_at_root_preserves : relation.loads ≡ true → (text : List ℕ) (o : NamedObject) (count : ℕ) → Preserves relation (predefined.at_root text o count)
  unfolding predefined.at_root
  predefined_at_root_preserves loads text o count = then_preserves _ _ (settle_preserves _) (λ s. then_preserves _ _ (settle_preserves _) (λ p. then_preserves _ _ (declared_preserves p o) (λ n. then_preserves _ _ (settle_preserves _) (λ q. takes_preserves loads q count))))

  predefined_scopes_preserves : relation.loads ≡ true → Preserves relation predefined.predefined_scopes
  unfolding predefined.predefined_scopes
  predefined_scopes_preserves loads = then_preserves _ _ (predefined_at_root_preserves loads _ _ _) (λ a. then_preserves _ _ (predefined_at_root_preserves loads _ _ _) (λ b. then_preserves _ _ (predefined_at_root_preserves loads _ _ _) (λ c. then_preserves _ _ (predefined_at_root_preserves loads _ _ _) (λ d. predefined_at_root_preserves loads _ _ _))))

  predefined_objects_preserves : relation.loads ≡ true → Preserves relation predefined.predefined_objects
  unfolding predefined.predefined_objects
  predefined_objects_preserves loads = then_preserves _ _ (predefined_at_root_preserves loads _ _ _) (λ a. then_preserves _ _ (on_objects_preserves _ (make_string_keeps_kinds _)) (λ text. then_preserves _ _ (predefined_at_root_preserves loads _ _ _) (λ b. then_preserves _ _ (predefined_at_root_preserves loads _ _ _) (λ c. predefined_at_root_preserves loads _ _ _))))

  pub predefined_preserves : relation.loads ≡ true → Preserves relation predefined.predefined
  unfolding predefined.predefined
  predefined_preserves loads = then_preserves _ _ (predefined_scopes_preserves loads) (λ u. predefined_objects_preserves loads)

-- what evaluations make of a world is related to it
pub becomes_preserves : {S : Type 0} {accesses : Accesses S} (relation : WorldRelation accesses) → relation.loads ≡ true → (w v : State S) → Becomes accesses w v → relation.Leads w v
becomes_preserves relation loads w v same = relation.reflexive w
becomes_preserves relation loads w v (term u t steps h) = relation.transitive w u _ (becomes_preserves relation loads w u h) ((meaning_preserves {relation = relation} t).preserves (u, steps))
becomes_preserves relation loads w v (list u scope depth ts steps h) = relation.transitive w u _ (becomes_preserves relation loads w u h) ((list_preserves {relation = relation} scope depth ts).preserves (u, steps))
becomes_preserves relation loads w v (table u bytes steps h) = relation.transitive w u _ (becomes_preserves relation loads w u h) ((loaded_preserves (always relation) loads bytes steps).preserves u)
becomes_preserves relation loads w v (value u p arguments steps h) = relation.transitive w u _ (becomes_preserves relation loads w u h) ((evaluated_preserves (always relation) p arguments steps).preserves u)
becomes_preserves relation loads w v (answer u p arguments steps h) = relation.transitive w u _ (becomes_preserves relation loads w u h) ((answered_preserves (always relation) p arguments steps).preserves u)
becomes_preserves relation loads w v (passed u p e wide is h) = relation.transitive w u _ (becomes_preserves relation loads w u h) (relation.passed_noted refl u u p e wide is (relation.reflexive u))
