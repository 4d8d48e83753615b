-- No change that a term makes of a world touches the arguments that names take; a table leaves those that it told.
use Rattle.std.specs.Prelude.{◌≡◌, ℕ, List, [], true, false, Ok, Err, refl}
use Rattle.std.proofs.Common.{ap, ◌∙◌}
use Rattle.ar_space.specs.Accesses.{Accesses}
use Rattle.ar_space.specs.Change.{go_on, ◌>>=◌}
use Rattle.ar_space.specs.declared.refusal.Refusal.{Refusal}
use Rattle.aml_path.specs.declared.segment.Seg.{Seg}
use Rattle.aml_arities.specs.declared.arities.Arity.{Arity}
use Rattle.aml_grammar.specs.Grammar.{table_reading_within}
use Rattle.aml_grammar.specs.Shape.{trees_of}
use Rattle.aml_grammar.specs.Tree.{Tree, Trees}
use Rattle.aml_objects.specs.declared.entry.Field.{Field}
use Rattle.aml_objects.specs.declared.value.Value.{Value}
use Rattle.aml_world.specs.declared.values.store_target.StoreTarget.{StoreTarget}
use Rattle.aml_world.specs.state.Given.{Given}
use Rattle.aml_world.specs.state.Noting.{with_passed}
use Rattle.aml_world.specs.state.State.{State}
use Rattle.aml_meaning.specs.Calling.{table_run, ending, loaded, evaluated, answered}
use Rattle.aml_meaning.specs.FieldCalls.{field_read, stored_to}
use Rattle.aml_meaning.specs.Calls.{invoked}
use Rattle.aml_meaning.specs.Meaning.{meaning}
use Rattle.aml_meaning.specs.Tasks.{Task, in_turn}
use Rattle.aml_laws.proofs.EvaluationsPreserve.{terms_run_preserves, evaluated_preserves, answered_preserves}
use Rattle.aml_laws.proofs.LocatedRegions.{meant}
use Rattle.aml_laws.proofs.OperandsAndCallsPreserve.{field_read_preserves, stored_to_preserves, invoked_preserves_from}
use Rattle.aml_laws.proofs.RulesPreserve.{meaning_parts_lead, meaning_preserves, list_preserves}
use Rattle.aml_laws.proofs.TablesRead.{table_read, table_not_loaded}
use Rattle.aml_laws.proofs.WorldRelations.{WorldRelation, always, plain}

-- no table is loaded
never_set : (list told : List Arity) → false ≡ true → list ≡ told
never_set list told loads = absurd (cc loads)

abbrev arities_relation : {S : Type 0} (accesses : Accesses S) → WorldRelation accesses
arities_relation accesses = plain (record {
  Leads = λ w v. v.arities ≡ w.arities;
  reflexive = λ w. refl;
  transitive = λ u v w h i. i ∙ h;
  objects_change = λ w h k. refl;
  name_declared = λ w q o free. refl;
  object_replaced = λ w q o e at is. refl;
  slots_written = λ w frames is. refl;
  frame_closed = λ w v vs h. h;
  names_removed = λ u w q at h. h;
  told = false;
  region_accessed = λ u w field region space s stands at r h. h;
  bridge_asked = λ u w at width wide asks h. h;
  loads = false;
  arities_set = λ loads w list. never_set list w.arities loads;
  mutexes_released = λ w. refl;
  passed_noted = λ listed u w scope e wide is h. h;
})

module _ {S : Type 0} (accesses : Accesses S) where
  pub term_keeps_arities : (t : Task) (s : State S × ℕ) → (meaning accesses t s).1.0.arities ≡ s.0.arities
  term_keeps_arities t s = (meaning_preserves {relation = arities_relation accesses} t).preserves s

  pub list_keeps_arities : (scope : List Seg) (depth : ℕ) (ts : Trees) (s : State S × ℕ) → (in_turn (meaning accesses) scope depth ts s).1.0.arities ≡ s.0.arities
  list_keeps_arities scope depth ts s = (list_preserves {relation = arities_relation accesses} scope depth ts).preserves s

  pub call_keeps_arities : (depth : ℕ) (p : List Seg) (body : List ℕ) (arguments : List Value) (s : State S × ℕ) → (invoked (meaning accesses) depth p body arguments s).1.0.arities ≡ s.0.arities
  call_keeps_arities depth p body arguments s = (invoked_preserves_from {relation = arities_relation accesses} (meaning accesses) meaning_preserves (λ told. meant) s.0 depth p body arguments (λ v h. h)).preserves_from s refl

  pub field_keeps_arities : (depth : ℕ) (f : Field) (s : State S × ℕ) → (field_read accesses (meaning accesses) depth f s).1.0.arities ≡ s.0.arities
  field_keeps_arities depth f s = (field_read_preserves {levels = always (arities_relation accesses)} (meaning accesses) (meaning_parts_lead (always (arities_relation accesses))) {level = depth} [] depth f).preserves_by s

  pub store_keeps_arities : (depth : ℕ) (target : StoreTarget) (v : Value) (s : State S × ℕ) → (stored_to accesses (meaning accesses) depth target v s).1.0.arities ≡ s.0.arities
  store_keeps_arities depth target v s = (stored_to_preserves {levels = always (arities_relation accesses)} (meaning accesses) (meaning_parts_lead (always (arities_relation accesses))) {level = depth} depth target v).preserves s

  pub value_keeps_arities : (p : List Seg) (arguments : List Value) (steps : ℕ) (w : State S) → (evaluated accesses p arguments steps w).1.arities ≡ w.arities
  value_keeps_arities p arguments steps w = (evaluated_preserves (always (arities_relation accesses)) p arguments steps).preserves w

  pub answer_keeps_arities : (p : List Seg) (arguments : List Given) (steps : ℕ) (w : State S) → (answered accesses p arguments steps w).1.arities ≡ w.arities
  answer_keeps_arities p arguments steps w = (answered_preserves (always (arities_relation accesses)) p arguments steps).preserves w

  pub table_leaves_told : (bytes : List ℕ) (steps : ℕ) (w : State S) (ts : List Tree) (told : List Arity) → table_reading_within w.nesting.levels bytes w.arities ≡ Ok (ts, told) → (loaded accesses bytes steps w).1.arities ≡ told
  unfolding loaded ending table_run go_on ◌>>=◌
  table_leaves_told bytes steps w ts told is = rw (table_read w bytes ts told is) ((terms_run_preserves (always (arities_relation accesses)) steps (trees_of ts)).preserves (record w { arities = told }))

  pub table_unread_keeps_arities : (bytes : List ℕ) (steps : ℕ) (w : State S) (e : Refusal) → table_reading_within w.nesting.levels bytes w.arities ≡ Err e → (loaded accesses bytes steps w).1.arities ≡ w.arities
  table_unread_keeps_arities bytes steps w e is = ap (λ r. r.1.arities) (table_not_loaded accesses w bytes steps e is)

pub passed_keeps_arities : {S : Type 0} (scope : List Seg) (e : Refusal) (w : State S) → (with_passed scope e w).arities ≡ w.arities
passed_keeps_arities scope e w = refl
