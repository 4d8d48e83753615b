-- Loading a table and evaluating an object go the same way over two register spaces.
use Rattle.std.specs.Prelude.{◌≡◌, ◌⊎◌, ℕ, List, [], length, Ok, Err, refl}
use Rattle.std.proofs.Common.{inl, inr, ap, sym, subst, ◌∙◌}
use Rattle.ar_space.specs.declared.refusal.Refusal.TheVariants as refusal
use Rattle.ar_space.specs.declared.refusal.EvaluationFault.TheVariants.{DepthSetting}
use Rattle.ar_space.specs.Accesses.{Accesses}
use Rattle.ar_space.specs.Outcome.{Outcome}
use Rattle.aml_path.specs.declared.segment.Seg.{Seg}
use Rattle.aml_arities.specs.declared.arities.Arity.{Arity}
use Rattle.aml_grammar.specs.Tree.{Tree, Trees}
use Rattle.aml_grammar.specs.Grammar.{table_reading_within}
use Rattle.aml_objects.specs.declared.value.Value.{Value}
use Rattle.aml_objects.specs.declared.entry.NamedObject.{NamedObject}
use Rattle.aml_world.specs.declared.state.invocation.Invocation.{Invocation}
use Rattle.aml_world.specs.declared.state.invocation.Invocation.TheVariants as invocations
use Rattle.aml_world.specs.state.Given.{Given}
use Rattle.aml_world.specs.state.State.{State}
use Rattle.aml_world.specs.state.Predefined as predefined
use Rattle.aml_meaning.specs.Calling.{terms_kept, table_terms, at_root, table_run, loaded, value_of, called, evaluated, invocation_exported, answer_exported, answered}
use Rattle.aml_laws.proofs.FieldsTogether.{field_given_together}
use Rattle.aml_laws.proofs.OperandsTogether.{called_at_together}
use Rattle.aml_laws.proofs.Together.{Raise, Sides, Together, Comes, IsEnded, give_together, plain, settle_together, then_together}
use Rattle.aml_laws.proofs.NestingTogether.{table_so}
use Rattle.aml_laws.proofs.WorldsTogether.{counted_together, ending_together, in_frame_together, lift_together, names_together, objects_together, runs, with_steps_together, world_over, worlds}
use Rattle.aml_laws.proofs.ChangesTogether.{invocation_found_together, osi_answered_together}
use Rattle.aml_laws.proofs.OperandsTogether.{field_read_together, method_value_together}
use Rattle.aml_laws.proofs.Levels.{level, at_level, in_body}
use Rattle.aml_laws.proofs.MeaningTogether.{list_together, meaning_parts}
use Rattle.aml_laws.proofs.AnswersTogether.{all_imported_together, exported_together}

terms_kept_space : {S : Type 0} (r : Outcome (List Tree × List Arity)) (w : State S) → (terms_kept r w).1.space ≡ w.space
terms_kept_space (Ok (ts, after)) w = refl
terms_kept_space (Err e) w = refl

terms_kept_over : {S T : Type 0} (raise : Raise) (r : Outcome (List Tree × List Arity)) (w : State S) (t : T) → terms_kept r (world_over raise w t) ≡ ((terms_kept r w).0, world_over raise (terms_kept r w).1 t)
terms_kept_over raise (Ok (ts, after)) w t = refl
terms_kept_over raise (Err e) w t = refl

-- ---- tables

module _ {S T : Type 0} {accesses : Accesses S} {accesses2 : Accesses T} (side : Sides accesses accesses2) where
  table_terms_goes : (x y : Outcome (List Tree × List Arity)) (w : State S) (t : T) → (y ≡ x) ⊎ (side.Ends (refusal.Evaluation DepthSetting) × (x ≡ Err (refusal.Evaluation DepthSetting))) → side.beside.InStep w.space t → Comes side worlds (terms_kept x w) (terms_kept y (world_over side.raise w t))
  table_terms_goes x y w t (inl same) i = inr (inr (t, ap (λ z. terms_kept z (world_over side.raise w t)) same ∙ terms_kept_over side.raise x w t, subst (λ s. side.beside.InStep s t) (sym (terms_kept_space x w)) i))
  table_terms_goes x y w t (inr set) i = inr (inl (subst (λ (z : Outcome (List Tree × List Arity)). IsEnded side.Ends (terms_kept z w).0) (sym set.1) set.0))

module _ {S T : Type 0} {accesses : Accesses S} {accesses2 : Accesses T} {side : Sides accesses accesses2} where
  table_terms_together : (bytes : List ℕ) → Together side worlds (table_terms bytes) (table_terms bytes)
  unfolding table_terms
  table_terms_together bytes = record {
    left_parted = λ w t p. subst (λ s. side.beside.Parted s t) (sym (terms_kept_space (table_reading_within w.nesting.levels bytes w.arities) w)) p;
    right_parted = λ s w p. subst (λ t. side.beside.Parted s t) (sym (terms_kept_space (table_reading_within w.nesting.levels bytes w.arities) w)) p;
    goes = λ w t i. table_terms_goes side (table_reading_within w.nesting.levels bytes w.arities) (table_reading_within (side.raise.1 w.nesting).levels bytes w.arities) w t (table_so side bytes w.arities w.nesting side.deepens) i;
  }

module _ {S T : Type 0} {accesses : Accesses S} {accesses2 : Accesses T} (side : Sides accesses accesses2) where
  at_root_together : (ts : Trees) → Together (level side 0) runs (at_root accesses ts) (at_root accesses2 ts)
  unfolding at_root
  at_root_together ts = then_together (list_together side [] 0 ts) (λ last. give_together _)

  table_run_together : (steps : ℕ) (bytes : List ℕ) → Together (level side 0) worlds (table_run accesses steps bytes) (table_run accesses2 (side.more steps) bytes)
  unfolding table_run
  table_run_together steps bytes = then_together (at_level side 0 (table_terms_together bytes)) (λ ts. in_frame_together _ (with_steps_together _ (at_root_together ts)))

  pub loaded_together : (bytes : List ℕ) (steps : ℕ) → Together (level side 0) worlds (loaded accesses bytes steps) (loaded accesses2 bytes (side.more steps))
  unfolding loaded
  loaded_together bytes steps = ending_together (table_run_together steps bytes)

module _ {S T : Type 0} {accesses : Accesses S} {accesses2 : Accesses T} {side : Sides accesses accesses2} where
  -- ---- objects that are evaluated

  value_of_together : (i : Invocation) (arguments : List Value) → Together side runs (value_of accesses i arguments) (value_of accesses2 i arguments)
  value_of_together (invocations.Value v) arguments = give_together _
  value_of_together (invocations.Field f) arguments = in_body side 1 refl (field_read_together meaning_parts 1 f)
  value_of_together (invocations.Method q body) arguments = in_body side 1 refl (method_value_together meaning_parts 1 0 q body arguments)
  value_of_together invocations.Osi arguments = lift_together (osi_answered_together arguments)

  pub called_together : (p : List Seg) (arguments : List Value) → Together side runs (called accesses p arguments) (called accesses2 p arguments)
  unfolding called
  called_together p arguments = then_together (lift_together (invocation_found_together _ _ _)) (λ i. value_of_together i arguments)

  -- the value is told with the steps that are left
  pub evaluated_together : ((n : ℕ) → side.more n ≡ n) → (p : List Seg) (arguments : List Value) (steps : ℕ) → Together side worlds (evaluated accesses p arguments steps) (evaluated accesses2 p arguments (side.more steps))
  unfolding evaluated
  evaluated_together same p arguments steps = counted_together same steps (called_together p arguments)

  invocation_exported_together : (i : Invocation) (arguments : List Value) → Together side runs (invocation_exported accesses i arguments) (invocation_exported accesses2 i arguments)
  invocation_exported_together (invocations.Value v) arguments = then_together (value_of_together (invocations.Value v) arguments) (λ v. exported_together v)
  invocation_exported_together (invocations.Field f) arguments = field_given_together (λ q. in_body side 1 refl (called_at_together meaning_parts 1 q)) f
  invocation_exported_together (invocations.Method q body) arguments = then_together (value_of_together (invocations.Method q body) arguments) (λ v. exported_together v)
  invocation_exported_together invocations.Osi arguments = then_together (value_of_together invocations.Osi arguments) (λ v. exported_together v)

  answer_exported_together : (p : List Seg) (count : ℕ) (arguments : List Given) → Together side runs (answer_exported accesses p count arguments) (answer_exported accesses2 p count arguments)
  unfolding answer_exported
  answer_exported_together p count arguments =
      then_together (lift_together (invocation_found_together _ _ _)) (λ i. then_together (lift_together (all_imported_together arguments [])) (λ vs. invocation_exported_together i vs))

  pub answered_together : (p : List Seg) (arguments : List Given) (steps : ℕ) → Together side worlds (answered accesses p arguments steps) (answered accesses2 p arguments (side.more steps))
  unfolding answered
  answered_together p arguments steps = ending_together (with_steps_together _ (answer_exported_together p (length arguments) arguments))

  -- ---- the predefined names

  takes_together : (path : List Seg) (count : ℕ) → Together side worlds (predefined.takes path count) (predefined.takes path count)
  unfolding predefined.takes
  takes_together path count = plain (λ w. refl) (λ w. refl) (λ w t. refl)

  predefined_at_root_together : (text : List ℕ) (o : NamedObject) (count : ℕ) → Together side worlds (predefined.at_root text o count) (predefined.at_root text o count)
  unfolding predefined.at_root
  predefined_at_root_together text o count = then_together (settle_together _) (λ s. then_together (settle_together _) (λ p. then_together (names_together _) (λ n. then_together (settle_together _) (λ q. takes_together q count))))

  predefined_scopes_together : Together side worlds predefined.predefined_scopes predefined.predefined_scopes
  unfolding predefined.predefined_scopes
  predefined_scopes_together = then_together (predefined_at_root_together _ _ _) (λ a. then_together (predefined_at_root_together _ _ _) (λ b. then_together (predefined_at_root_together _ _ _) (λ c. then_together (predefined_at_root_together _ _ _) (λ d. predefined_at_root_together _ _ _))))

  predefined_objects_together : Together side worlds predefined.predefined_objects predefined.predefined_objects
  unfolding predefined.predefined_objects
  predefined_objects_together = then_together (predefined_at_root_together _ _ _) (λ a. then_together (objects_together _) (λ text. then_together (predefined_at_root_together _ _ _) (λ b. then_together (predefined_at_root_together _ _ _) (λ c. predefined_at_root_together _ _ _))))

  pub predefined_together : Together side worlds predefined.predefined predefined.predefined
  unfolding predefined.predefined
  predefined_together = then_together predefined_scopes_together (λ u. predefined_objects_together)
