-- Where a table, an object or an answer refuses by a fault of the register space, its last access answered with it.
use Rattle.std.specs.Prelude.{◌≡◌, Err, List, Ok, [], length, refl, suc, zero, ℕ, ◌-◌, ◌==◌, ◌^◌, ◌∷◌}
use Rattle.ar_space.specs.Accesses.{Accesses}
use Rattle.ar_space.specs.Change.{Change}
use Rattle.ar_space.specs.Outcome.{Outcome, seen}
use Rattle.aml_path.specs.Paths.{Name, resolved}
use Rattle.aml_path.specs.declared.segment.Seg.{Seg}
use Rattle.aml_grammar.specs.Grammar.{table_reading_within}
use Rattle.aml_grammar.specs.Tree.{Tree, Trees}
use Rattle.aml_arities.specs.declared.arities.Arity.{Arity}
use Rattle.aml_objects.specs.declared.object.Element.TheVariants as element
use Rattle.aml_objects.specs.declared.object.Element.{Element}
use Rattle.aml_objects.specs.declared.value.Reference.TheVariants as reference
use Rattle.aml_objects.specs.declared.value.Reference.{Reference}
use Rattle.aml_objects.specs.declared.value.Value.TheVariants as value
use Rattle.aml_objects.specs.declared.value.Value.{Value}
use Rattle.aml_namespace.specs.Search.{found}
use Rattle.aml_world.specs.state.NameUses.{name_use, path_of}
use Rattle.aml_world.specs.state.Given as given
use Rattle.aml_world.specs.state.Importing.{all_imported, each_imported, elements_imported, imported, imported_by, package_imported, reference_to, taken_back}
use Rattle.aml_world.specs.state.Run.{Run}
use Rattle.aml_world.specs.state.Slots.{opened}
use Rattle.aml_world.specs.state.State.{State}
use Rattle.aml_world.specs.declared.state.invocation.Invocation.TheVariants as invocation
use Rattle.aml_world.specs.declared.state.invocation.Invocation.{Invocation}
use Rattle.aml_world.specs.declared.state.name_use.NameUse.TheVariants as uses
use Rattle.aml_world.specs.declared.state.name_use.NameUse.{NameUse}
use Rattle.aml_meaning.specs.Calling.{answer_exported, answered, invocation_exported, at_root, called, counted, ending, evaluated, framed, in_frame, loaded, table_run, table_terms, terms_kept, value_of, with_rest, with_steps}
use Rattle.aml_meaning.specs.Exporting.{bytes_exported, each_exported, element_exported, elements_exported, exported, held_exported, name_exported, package_exported, reference_exported, text_exported, use_exported, value_exported}
use Rattle.aml_meaning.specs.Meaning.{meaning}
use Rattle.aml_laws.proofs.CleanNames.{found_clean}
use Rattle.aml_laws.proofs.CleanObjects.{buffer_at_clean, elements_at_clean, make_buffer_clean, make_package_clean, make_string_clean, string_at_clean}
use Rattle.aml_laws.proofs.CleanOutcomes.{seen_clean}
use Rattle.aml_laws.proofs.CleanReading.{table_reading_within_clean}
use Rattle.aml_laws.proofs.CleanValues.{resolved_clean}
use Rattle.aml_laws.proofs.CleanWorlds.{use_of_clean}
use Rattle.aml_laws.proofs.FaultsOfCalls.{called_at_explains, field_read_explains, in_turn_explains, method_value_explains}
use Rattle.aml_laws.proofs.FaultsOfChanges.{EvaluationExplains, Explained, RunExplains, Spent, WorldExplains, spent_with_none, charge_explains, direct_explains, direct_or_set_explains, either_branch_explains, give_explains, lift_explains, on_objects_explains, stop_explains, then_explains}
use Rattle.aml_laws.proofs.FaultsOfFields.{field_given_explains}
use Rattle.aml_laws.proofs.FaultsOfOperations.{entry_found_explains, integer_kept_explains, invocation_found_explains, osi_answered_explains}
use Rattle.aml_laws.proofs.FaultsOfTerms.{meaning_explains}
use Rattle.aml_laws.proofs.SetDepths.{CleanWithin, OfSetting, few_levels, is_low, low_so, seen_of_setting}

module _ {S : Type 0} (accesses : Accesses S) where
  taken_back_explained : (count : ℕ) (s : S) (x : Outcome Value) (w : State S) → Explained accesses x s w.space → Explained accesses (taken_back {S = S} count (x, w)).0 s (taken_back {S = S} count (x, w)).1.space
  taken_back_explained count s (Ok v) w h = h
  taken_back_explained count s (Err e) w h = h

  taken_back_spent : (count : ℕ) (x : Outcome Value) (w : State S) → Spent x 1 → Spent (taken_back {S = S} count (x, w)).0 1
  taken_back_spent count (Ok v) w h = tt
  taken_back_spent count (Err e) w h = h

  taken_back_set : (count : ℕ) (x : Outcome Value) (w : State S) → OfSetting x (is_low w.nesting) → OfSetting (taken_back {S = S} count (x, w)).0 (is_low (taken_back {S = S} count (x, w)).1.nesting)
  taken_back_set count (Ok v) w h = tt
  taken_back_set count (Err e) w h = h

terms_kept_clean : {S : Type 0} (x : Outcome (List Tree × List Arity)) (w : State S) → CleanWithin (is_low w.nesting) x → CleanWithin (is_low (terms_kept x w).1.nesting) (terms_kept x w).0
terms_kept_clean (Ok p) w c = tt
terms_kept_clean (Err e) w c = c

terms_kept_directly : {S : Type 0} (x : Outcome (List Tree × List Arity)) (w : State S) → (terms_kept x w).1.space ≡ w.space
terms_kept_directly (Ok p) w = refl
terms_kept_directly (Err e) w = refl

module _ {S : Type 0} {accesses : Accesses S} where
  opened_explains : (vs : List Value) → EvaluationExplains accesses (opened vs)
  unfolding opened
  opened_explains vs = either_branch_explains (λ w. w.started == 2 ^ 64 - 1) _ _ (direct_explains _ (λ w. tt) (λ w. refl)) (direct_explains _ (λ w. tt) (λ w. refl))

  -- ---- the terms of a table

  table_terms_explains : (bytes : List ℕ) → EvaluationExplains accesses (table_terms bytes)
  unfolding table_terms
  table_terms_explains bytes = direct_or_set_explains _ (λ w.
      let read = table_reading_within w.nesting.levels bytes w.arities in
      terms_kept_clean read w (low_so _ _ read (few_levels w.nesting) (table_reading_within_clean w.nesting.levels bytes w.arities))) (λ w. terms_kept_directly (table_reading_within w.nesting.levels bytes w.arities) w)

  -- ---- arguments

  reference_to_explains : (p : List Seg) → WorldExplains accesses (reference_to p)
  unfolding reference_to
  reference_to_explains p = then_explains _ _ (entry_found_explains _ _) (λ e. give_explains _)

  module _ (pack : given.Givens → Change (State S) Value) (packs : (gs : given.Givens) → WorldExplains accesses (pack gs)) where
    imported_by_explains : (g : given.Given) → WorldExplains accesses (imported_by pack g)
    imported_by_explains given.Nothing = give_explains _
    imported_by_explains (given.Integer n) = integer_kept_explains n
    imported_by_explains (given.Text bytes) = on_objects_explains _ (make_string_clean _)
    imported_by_explains (given.Bytes bytes) = on_objects_explains _ (make_buffer_clean _)
    imported_by_explains (given.Package gs) = packs gs
    imported_by_explains (given.Named p) = reference_to_explains p
    imported_by_explains given.Reference = stop_explains _ tt

    each_imported_explains : (gs : given.Givens) (done : List Element) → WorldExplains accesses (each_imported pack gs done)
    unfolding each_imported
    each_imported_explains given.none done = give_explains _
    each_imported_explains (given.more g gs) done = then_explains _ _ (imported_by_explains g) (λ v. each_imported_explains gs _)

    elements_imported_explains : (gs : given.Givens) → WorldExplains accesses (elements_imported pack gs)
    unfolding elements_imported
    elements_imported_explains gs = then_explains _ _ (each_imported_explains gs []) (λ es. on_objects_explains _ (make_package_clean _))

  package_imported_explains : (n : ℕ) (gs : given.Givens) → WorldExplains accesses (package_imported n gs)
  unfolding package_imported
  package_imported_explains zero gs = stop_explains _ tt
  package_imported_explains (suc n) gs = elements_imported_explains _ (package_imported_explains n) gs

  imported_explains : (g : given.Given) → WorldExplains accesses (imported g)
  unfolding imported
  imported_explains g = record { explained = λ w. taken_back_explained accesses (length w.objects) w.space _ _ ((imported_by_explains (package_imported 64) (package_imported_explains 64) g).explained w); spent = λ w. taken_back_spent accesses (length w.objects) _ _ ((imported_by_explains (package_imported 64) (package_imported_explains 64) g).spent w); set = λ w. taken_back_set accesses (length w.objects) _ _ ((imported_by_explains (package_imported 64) (package_imported_explains 64) g).set w) }

  all_imported_explains : (gs : List given.Given) (done : List Value) → WorldExplains accesses (all_imported gs done)
  unfolding all_imported
  all_imported_explains [] done = give_explains _
  all_imported_explains (g ∷ gs) done = then_explains _ _ (imported_explains g) (λ v. all_imported_explains gs _)

  -- ---- answers

  text_exported_explains : (o : ℕ) → RunExplains accesses (text_exported o)
  unfolding text_exported
  text_exported_explains o = then_explains _ _ (lift_explains _ (on_objects_explains _ (string_at_clean _))) (λ bytes. give_explains _)

  bytes_exported_explains : (o : ℕ) → RunExplains accesses (bytes_exported o)
  unfolding bytes_exported
  bytes_exported_explains o = then_explains _ _ (lift_explains _ (on_objects_explains _ (buffer_at_clean _))) (λ bytes. give_explains _)

  path_of_explains : (n : ℕ) → WorldExplains accesses (path_of n)
  unfolding path_of
  path_of_explains n = direct_explains _ (λ w. tt) (λ w. refl)

  reference_exported_explains : (r : Reference) → RunExplains accesses (reference_exported r)
  unfolding reference_exported
  reference_exported_explains (reference.Name n) = lift_explains _ (path_of_explains n)
  reference_exported_explains (reference.Slot slot n) = give_explains _
  reference_exported_explains (reference.Element o i) = give_explains _
  reference_exported_explains (reference.Byte o i) = give_explains _

  name_use_explains : (n : Name) (scope : List Seg) → WorldExplains accesses (name_use n scope)
  unfolding name_use
  name_use_explains n scope = direct_explains _ (λ w. use_of_clean (seen (λ f. f.1) (found w.names.map scope n)) (seen (λ f. f.0) (found w.names.map scope n)) (resolved n scope) (seen_clean (λ f. f.0) (found w.names.map scope n) (found_clean w.names.map scope n)) (resolved_clean n scope)) (λ w. refl)

module _ {S : Type 0} (accesses : Accesses S) where
  module _ (pack : ℕ → Run S given.Given) (packs : (o : ℕ) → RunExplains accesses (pack o)) where
    value_exported_explains : (v : Value) → RunExplains accesses (value_exported accesses pack v)
    unfolding value_exported
    value_exported_explains value.Uninitialized = give_explains _
    value_exported_explains (value.Integer n) = give_explains _
    value_exported_explains (value.String o) = text_exported_explains o
    value_exported_explains (value.Buffer o) = bytes_exported_explains o
    value_exported_explains (value.Package o) = packs o
    value_exported_explains (value.Reference r) = reference_exported_explains r

    use_exported_explains : (u : NameUse) → RunExplains accesses (use_exported accesses pack u)
    unfolding use_exported
    use_exported_explains (uses.Value v) = value_exported_explains v
    use_exported_explains (uses.Field f) = field_given_explains accesses _ (called_at_explains accesses (meaning accesses) (meaning_explains accesses) 1) f
    use_exported_explains (uses.Path p) = give_explains _

    held_exported_explains : (e : Element) → RunExplains accesses (held_exported accesses pack e)
    unfolding held_exported name_exported
    held_exported_explains (element.Value v) = value_exported_explains v
    held_exported_explains (element.Name n scope) = then_explains _ _ (lift_explains _ (name_use_explains n scope)) use_exported_explains

    element_exported_explains : (e : Element) → RunExplains accesses (element_exported accesses pack e)
    unfolding element_exported
    element_exported_explains e = then_explains _ _ charge_explains (λ step. held_exported_explains e)

    each_exported_explains : (es : List Element) (done : List given.Given) → RunExplains accesses (each_exported accesses pack es done)
    unfolding each_exported
    each_exported_explains [] done = give_explains _
    each_exported_explains (e ∷ es) done = then_explains _ _ (element_exported_explains e) (λ g. each_exported_explains es _)

    elements_exported_explains : (o : ℕ) → RunExplains accesses (elements_exported accesses pack o)
    unfolding elements_exported
    elements_exported_explains o = then_explains _ _ (lift_explains _ (on_objects_explains _ (elements_at_clean _))) (λ es. then_explains _ _ (each_exported_explains es []) (λ gs. give_explains _))

  package_exported_explains : (n o : ℕ) → RunExplains accesses (package_exported accesses n o)
  unfolding package_exported
  package_exported_explains zero o = stop_explains _ tt
  package_exported_explains (suc n) o = elements_exported_explains _ (package_exported_explains n) o

  value_of_explains : (i : Invocation) (vs : List Value) → RunExplains accesses (value_of accesses i vs)
  value_of_explains (invocation.Value v) vs = give_explains _
  value_of_explains (invocation.Field f) vs = field_read_explains accesses (meaning accesses) (meaning_explains accesses) 1 f
  value_of_explains (invocation.Method p body) vs = method_value_explains accesses (meaning accesses) (meaning_explains accesses) 0 p body vs
  value_of_explains invocation.Osi vs = lift_explains _ (osi_answered_explains vs)

  invocation_exported_explains : (i : Invocation) (vs : List Value) → RunExplains accesses (invocation_exported accesses i vs)
  unfolding exported
  invocation_exported_explains (invocation.Value v) vs = then_explains _ _ (value_of_explains (invocation.Value v) vs) (value_exported_explains _ (package_exported_explains 64))
  invocation_exported_explains (invocation.Field f) vs = field_given_explains accesses _ (called_at_explains accesses (meaning accesses) (meaning_explains accesses) 1) f
  invocation_exported_explains (invocation.Method p body) vs = then_explains _ _ (value_of_explains (invocation.Method p body) vs) (value_exported_explains _ (package_exported_explains 64))
  invocation_exported_explains invocation.Osi vs = then_explains _ _ (value_of_explains invocation.Osi vs) (value_exported_explains _ (package_exported_explains 64))

  pub answer_exported_explains : (p : List Seg) (count : ℕ) (arguments : List given.Given) → RunExplains accesses (answer_exported accesses p count arguments)
  unfolding answer_exported
  answer_exported_explains p count arguments =
      then_explains _ _ (lift_explains _ (invocation_found_explains _ _ _)) (λ i.
      then_explains _ _ (lift_explains _ (all_imported_explains arguments [])) (λ vs. invocation_exported_explains i vs))

  pub at_root_explains : (ts : Trees) → RunExplains accesses (at_root accesses ts)
  unfolding at_root
  at_root_explains ts = then_explains _ _ (in_turn_explains accesses (meaning accesses) (meaning_explains accesses) [] 0 ts) (λ last. give_explains _)

  pub called_explains : (p : List Seg) (arguments : List Value) → RunExplains accesses (called accesses p arguments)
  unfolding called
  called_explains p arguments = then_explains _ _ (lift_explains _ (invocation_found_explains _ _ _)) (λ i. value_of_explains i arguments)

  -- ---- whole evaluations

  pub with_steps_explains : {A : Type 0} (steps : ℕ) (m : Run S A) → RunExplains accesses m → EvaluationExplains accesses (with_steps steps m)
  unfolding with_steps
  with_steps_explains steps m h = record { explained = λ w. h.explained (w, steps); spent = λ w. spent_with_none (m (w, steps)).0; set = λ w. h.set (w, steps) }

  framed_explains : {A : Type 0} (m : Change (State S) A) → EvaluationExplains accesses m → EvaluationExplains accesses (framed m)
  unfolding framed
  framed_explains m h = record { explained = h.explained; spent = h.spent; set = h.set }

  pub ending_explains : {A : Type 0} (m : Change (State S) A) → EvaluationExplains accesses m → EvaluationExplains accesses (ending m)
  unfolding ending
  ending_explains m h = record { explained = h.explained; spent = h.spent; set = h.set }

  rest_explained : (x : Outcome Value) (rest : ℕ) (s t : S) → Explained accesses x s t → Explained accesses (with_rest x rest) s t
  rest_explained (Ok v) rest s t h = h
  rest_explained (Err e) rest s t h = h

  pub loaded_explains : (bytes : List ℕ) (steps : ℕ) → EvaluationExplains accesses (loaded accesses bytes steps)
  unfolding loaded table_run in_frame
  loaded_explains bytes steps =
      ending_explains _ (then_explains _ _ (table_terms_explains bytes) (λ ts. then_explains _ _ (opened_explains _) (λ n. framed_explains _ (with_steps_explains steps _ (at_root_explains ts)))))

  pub evaluated_explains : (p : List Seg) (arguments : List Value) (steps : ℕ) → EvaluationExplains accesses (evaluated accesses p arguments steps)
  unfolding evaluated counted
  evaluated_explains p arguments steps = record {
    explained = λ w. rest_explained _ _ w.space _ ((called_explains p arguments).explained (w, steps));
    spent = λ w. spent_with_none (with_rest (called accesses p arguments (w, steps)).0 (called accesses p arguments (w, steps)).1.1);
    set = λ w. seen_of_setting _ (called accesses p arguments (w, steps)).0 _ ((called_explains p arguments).set (w, steps));
  }

  pub answered_explains : (p : List Seg) (arguments : List given.Given) (steps : ℕ) → EvaluationExplains accesses (answered accesses p arguments steps)
  unfolding answered
  answered_explains p arguments steps = ending_explains _ (with_steps_explains steps _ (answer_exported_explains p (length arguments) arguments))
