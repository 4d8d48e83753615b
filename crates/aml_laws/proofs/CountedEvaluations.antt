-- A table that is loaded, an object that is evaluated, and a caller that is answered, begin no more terms, and no more trees, than there are
-- steps; counting changes nothing else.
use Rattle.std.specs.Prelude.{◌≡◌, ℕ, zero, suc, ◌==◌, ◌+◌, ◌-◌, ◌^◌, ◌≤◌, List, [], ◌∷◌, length, Ok, Err, refl}
use Rattle.std.proofs.Common.{arith, ap, ◌∙◌}
use Rattle.ar_space.specs.Accesses.{Accesses}
use Rattle.ar_space.specs.Outcome.{Outcome}
use Rattle.ar_space.specs.Change.{Change, go_on, ◌>>=◌}
use Rattle.aml_path.specs.declared.segment.Seg.{Seg}
use Rattle.aml_arities.specs.declared.arities.Arity.{Arity}
use Rattle.aml_grammar.specs.Grammar.{table_reading_within}
use Rattle.aml_grammar.specs.Tree.{Tree, Trees}
use Rattle.aml_objects.specs.declared.object.Element.{Element}
use Rattle.aml_objects.specs.declared.object.Element.TheVariants as element
use Rattle.aml_objects.specs.declared.value.Reference.{Reference}
use Rattle.aml_objects.specs.declared.value.Reference.TheVariants as reference
use Rattle.aml_objects.specs.declared.value.Value.{Value}
use Rattle.aml_objects.specs.declared.value.Value.TheVariants as value
use Rattle.aml_world.specs.declared.state.invocation.Invocation.{Invocation}
use Rattle.aml_world.specs.declared.state.invocation.Invocation.TheVariants as invocation
use Rattle.aml_world.specs.declared.state.name_use.NameUse.{NameUse}
use Rattle.aml_world.specs.declared.state.name_use.NameUse.TheVariants as uses
use Rattle.aml_world.specs.state.Given as given
use Rattle.aml_world.specs.state.State.{State}
use Rattle.aml_world.specs.state.Run.{Run}
use Rattle.aml_world.specs.state.Slots.{opened, closed}
use Rattle.aml_world.specs.state.Importing.{reference_to, imported_by, each_imported, elements_imported, package_imported, taken_back, imported, all_imported}
use Rattle.aml_world.specs.state.NameUses.{path_of, name_use}
use Rattle.aml_world.specs.state.Mutexes.{released}
use Rattle.aml_meaning.specs.declared.flow.Flow.{Flow}
use Rattle.aml_meaning.specs.Tasks.{Task}
use Rattle.aml_meaning.specs.Exporting.{text_exported, bytes_exported, reference_exported, value_exported, use_exported, name_exported, held_exported, element_exported, each_exported, elements_exported, package_exported, exported}
use Rattle.aml_meaning.specs.Calling.{ending, with_steps, framed, in_frame, terms_kept, table_terms, at_root, table_run, loaded, value_of, called, with_rest, counted, evaluated, invocation_exported, answer_exported, answered}
use Rattle.aml_meaning.specs.Meaning.{meaning}
use Rattle.aml_laws.specs.Counted.{beside_counter, terms_begun, without_counter, counted_meaning}
use Rattle.aml_laws.specs.CountedTrees.{trees_begun, counted_trees}
use Rattle.aml_laws.specs.CountedEvaluations.{counted_at_root, counted_table_run, counted_loaded, counted_value_of, counted_called, counted_evaluated, counted_use_exported, counted_held_exported, counted_element_exported, counted_each_exported, counted_elements_exported, counted_package_exported, counted_invocation_exported, counted_answer_exported, counted_answered}
use Rattle.aml_laws.proofs.CountedChanges.{Counts, RunCounts, give_counts, stop_counts, then_counts, direct_counts, either_branch_counts, on_objects_counts, lift_counts, charge_counts}
use Rattle.aml_laws.proofs.CountedOperations.{integer_kept_counts, entry_found_counts, osi_answered_counts, invocation_found_counts}
use Rattle.aml_laws.proofs.CountedFields.{field_given_counts}
use Rattle.aml_laws.proofs.CountedCalls.{in_turn_counts, method_value_counts, called_at_counts, field_read_counts}
use Rattle.aml_laws.proofs.CountedTerms.{meaning_counts}
use Rattle.aml_laws.proofs.CountedTrees.{term_total, counting_changes_nothing}

-- ---- with so many steps

-- a change that begins at most so many terms, and does what another does without a counter
record BeginsWithin {S A : Type 0} (steps : ℕ) (m : Change (State (S × ℕ)) A) (k : Change (State S) A) : Type 0 where
  same : (w : State (S × ℕ)) → k (without_counter w) ≡ ((m w).0, without_counter (m w).1)
  most : (w : State (S × ℕ)) → terms_begun (m w).1 ≤ terms_begun w + steps

module _ {S A : Type 0} (steps : ℕ) where
  run_begins : (m : Run (S × ℕ) A) (k : Run S A) → RunCounts m k → BeginsWithin steps (with_steps steps m) (with_steps steps k)
  unfolding with_steps
  run_begins m k h = record { same = λ w. ap (λ r. (r.0, r.1.0)) (h.same (w, steps)); most = λ w. let l = h.leads (w, steps) in omega (arith, l) }

  framed_begins : (m : Change (State (S × ℕ)) A) (k : Change (State S) A) → BeginsWithin steps m k → BeginsWithin steps (framed m) (framed k)
  unfolding framed
  framed_begins m k h = record { same = λ w. ap (λ r. (r.0, closed r.1)) (h.same w); most = h.most }

  ending_begins : (m : Change (State (S × ℕ)) A) (k : Change (State S) A) → BeginsWithin steps m k → BeginsWithin steps (ending m) (ending k)
  unfolding ending
  ending_begins m k h = record { same = λ w. ap (λ r. (r.0, released r.1)) (h.same w); most = h.most }

  module _ {B : Type 0} (m : B → Change (State (S × ℕ)) A) (k : B → Change (State S) A) (all : (b : B) → BeginsWithin steps (m b) (k b)) where
    go_on_same : (r : Outcome B) (w : State (S × ℕ)) → go_on r (without_counter w) k ≡ ((go_on r w m).0, without_counter (go_on r w m).1)
    unfolding go_on
    go_on_same (Ok b) w = (all b).same w
    go_on_same (Err e) w = refl

    go_on_most : (r : Outcome B) (w : State (S × ℕ)) → terms_begun (go_on r w m).1 ≤ terms_begun w + steps
    unfolding go_on
    go_on_most (Ok b) w = (all b).most w
    go_on_most (Err e) w = omega arith

    then_begins : (n : Change (State (S × ℕ)) B) (l : Change (State S) B) → Counts n l → BeginsWithin steps (n >>= m) (l >>= k)
    unfolding ◌>>=◌
    then_begins n l h = record {
      same = λ w. ap (λ a. go_on a.0 a.1 k) (h.same w) ∙ go_on_same (n w).0 (n w).1;
      most = λ w. let e = h.leads w in let f = go_on_most (n w).0 (n w).1 in omega (arith, e, f);
    }

module _ {S : Type 0} where
  counted_begins : (steps : ℕ) (m : Run (S × ℕ) Value) (k : Run S Value) → RunCounts m k → BeginsWithin steps (counted steps m) (counted steps k)
  unfolding counted
  counted_begins steps m k h = record { same = λ w. ap (λ r. (with_rest r.0 r.1.1, r.1.0)) (h.same (w, steps)); most = λ w. let l = h.leads (w, steps) in omega (arith, l) }

  opened_counts : (vs : List Value) → Counts {S = S} (opened vs) (opened vs)
  unfolding opened
  opened_counts vs = either_branch_counts (λ w. w.started == 2 ^ 64 - 1) _ _ _ _ (direct_counts _ _ (λ w. refl) (λ w. refl)) (direct_counts _ _ (λ w. refl) (λ w. refl))

  -- ---- the terms of a table

  terms_kept_counts : (r : Outcome (List Tree × List Arity)) → Counts {S = S} (terms_kept r) (terms_kept r)
  terms_kept_counts (Ok p) = direct_counts _ _ (λ w. refl) (λ w. refl)
  terms_kept_counts (Err e) = direct_counts _ _ (λ w. refl) (λ w. refl)

  table_terms_counts : (bytes : List ℕ) → Counts {S = S} (table_terms bytes) (table_terms bytes)
  unfolding table_terms
  table_terms_counts bytes = direct_counts _ _ (λ w. (terms_kept_counts (table_reading_within w.nesting.levels bytes w.arities)).same w) (λ w. (terms_kept_counts (table_reading_within w.nesting.levels bytes w.arities)).leads w)

  -- ---- arguments

  reference_to_counts : (p : List Seg) → Counts {S = S} (reference_to p) (reference_to p)
  unfolding reference_to
  reference_to_counts p = then_counts _ _ _ _ (entry_found_counts _ _) (λ e. give_counts _)

  module _ (pack : given.Givens → Change (State (S × ℕ)) Value) (other : given.Givens → Change (State S) Value) (packs : (gs : given.Givens) → Counts (pack gs) (other gs)) where
    imported_by_counts : (g : given.Given) → Counts (imported_by pack g) (imported_by other g)
    imported_by_counts given.Nothing = give_counts _
    imported_by_counts (given.Integer n) = integer_kept_counts n
    imported_by_counts (given.Text bytes) = on_objects_counts _
    imported_by_counts (given.Bytes bytes) = on_objects_counts _
    imported_by_counts (given.Package gs) = packs gs
    imported_by_counts (given.Named p) = reference_to_counts p
    imported_by_counts given.Reference = stop_counts _

    each_imported_counts : (gs : given.Givens) (done : List Element) → Counts (each_imported pack gs done) (each_imported other gs done)
    unfolding each_imported
    each_imported_counts given.none done = give_counts _
    each_imported_counts (given.more g gs) done = then_counts _ _ _ _ (imported_by_counts g) (λ v. each_imported_counts gs _)

    elements_imported_counts : (gs : given.Givens) → Counts (elements_imported pack gs) (elements_imported other gs)
    unfolding elements_imported
    elements_imported_counts gs = then_counts _ _ _ _ (each_imported_counts gs []) (λ es. on_objects_counts _)

  package_imported_counts : (n : ℕ) (gs : given.Givens) → Counts {S = S} (package_imported n gs) (package_imported n gs)
  unfolding package_imported
  package_imported_counts zero gs = stop_counts _
  package_imported_counts (suc n) gs = elements_imported_counts _ _ (package_imported_counts n) gs

  taken_back_same : (count : ℕ) (r : Outcome Value) (w : State (S × ℕ)) → taken_back {S = S} count (r, without_counter w) ≡ ((taken_back count (r, w)).0, without_counter (taken_back count (r, w)).1)
  taken_back_same count (Ok v) w = refl
  taken_back_same count (Err e) w = refl

  taken_back_leads : (count : ℕ) (r : Outcome Value) (w : State (S × ℕ)) → (taken_back count (r, w)).1.space.1 ≡ w.space.1
  taken_back_leads count (Ok v) w = refl
  taken_back_leads count (Err e) w = refl

  imported_counts : (g : given.Given) → Counts {S = S} (imported g) (imported g)
  unfolding imported
  imported_counts g =
      let by = imported_by_counts (package_imported 64) (package_imported 64) (package_imported_counts 64) g in
      direct_counts _ _
      (λ w. ap (taken_back (length w.objects)) (by.same w) ∙ taken_back_same (length w.objects) _ _)
      (λ w. taken_back_leads (length w.objects) _ _ ∙ by.leads w)

  all_imported_counts : (gs : List given.Given) (done : List Value) → Counts {S = S} (all_imported gs done) (all_imported gs done)
  unfolding all_imported
  all_imported_counts [] done = give_counts _
  all_imported_counts (g ∷ gs) done = then_counts _ _ _ _ (imported_counts g) (λ v. all_imported_counts gs _)

  -- ---- answers

  text_exported_counts : (o : ℕ) → RunCounts {S = S} (text_exported o) (text_exported o)
  unfolding text_exported
  text_exported_counts o = then_counts _ _ _ _ (lift_counts _ _ (on_objects_counts _)) (λ bytes. give_counts _)

  bytes_exported_counts : (o : ℕ) → RunCounts {S = S} (bytes_exported o) (bytes_exported o)
  unfolding bytes_exported
  bytes_exported_counts o = then_counts _ _ _ _ (lift_counts _ _ (on_objects_counts _)) (λ bytes. give_counts _)

  path_of_counts : (n : ℕ) → Counts {S = S} (path_of n) (path_of n)
  unfolding path_of
  path_of_counts n = direct_counts _ _ (λ w. refl) (λ w. refl)

  reference_exported_counts : (r : Reference) → RunCounts {S = S} (reference_exported r) (reference_exported r)
  unfolding reference_exported
  reference_exported_counts (reference.Name n) = lift_counts _ _ (path_of_counts n)
  reference_exported_counts (reference.Slot slot n) = give_counts _
  reference_exported_counts (reference.Element o i) = give_counts _
  reference_exported_counts (reference.Byte o i) = give_counts _

  name_use_counts : (n : _) (scope : List Seg) → Counts {S = S} (name_use n scope) (name_use n scope)
  unfolding name_use
  name_use_counts n scope = direct_counts _ _ (λ w. refl) (λ w. refl)

-- ev: what a term evaluates to, counted
module _ {S : Type 0} (accesses : Accesses S) (ev : Task → Run (S × ℕ) Flow) (parts : (t : Task) → RunCounts (ev t) (meaning accesses t)) where
  module _ (pack : ℕ → Run (S × ℕ) given.Given) (other : ℕ → Run S given.Given) (packs : (o : ℕ) → RunCounts (pack o) (other o)) where
    value_exported_counts : (v : Value) → RunCounts (value_exported (beside_counter accesses) pack v) (value_exported accesses other v)
    unfolding value_exported
    value_exported_counts value.Uninitialized = give_counts _
    value_exported_counts (value.Integer n) = give_counts _
    value_exported_counts (value.String o) = text_exported_counts o
    value_exported_counts (value.Buffer o) = bytes_exported_counts o
    value_exported_counts (value.Package o) = packs o
    value_exported_counts (value.Reference r) = reference_exported_counts r

    use_exported_counts : (u : NameUse) → RunCounts (counted_use_exported accesses ev pack u) (use_exported accesses other u)
    unfolding counted_use_exported use_exported
    use_exported_counts (uses.Value v) = value_exported_counts v
    use_exported_counts (uses.Field f) = field_given_counts accesses _ _ (called_at_counts accesses ev (meaning accesses) parts 1) f
    use_exported_counts (uses.Path p) = give_counts _

    held_exported_counts : (e : Element) → RunCounts (counted_held_exported accesses ev pack e) (held_exported accesses other e)
    unfolding counted_held_exported held_exported name_exported
    held_exported_counts (element.Value v) = value_exported_counts v
    held_exported_counts (element.Name n scope) = then_counts _ _ _ _ (lift_counts _ _ (name_use_counts n scope)) use_exported_counts

    element_exported_counts : (e : Element) → RunCounts (counted_element_exported accesses ev pack e) (element_exported accesses other e)
    unfolding counted_element_exported element_exported
    element_exported_counts e = then_counts _ _ _ _ charge_counts (λ step. held_exported_counts e)

    each_exported_counts : (es : List Element) (done : List given.Given) → RunCounts (counted_each_exported accesses ev pack es done) (each_exported accesses other es done)
    unfolding counted_each_exported each_exported
    each_exported_counts [] done = give_counts _
    each_exported_counts (e ∷ es) done = then_counts _ _ _ _ (element_exported_counts e) (λ g. each_exported_counts es _)

    elements_exported_counts : (o : ℕ) → RunCounts (counted_elements_exported accesses ev pack o) (elements_exported accesses other o)
    unfolding counted_elements_exported elements_exported
    elements_exported_counts o = then_counts _ _ _ _ (lift_counts _ _ (on_objects_counts _)) (λ es. then_counts _ _ _ _ (each_exported_counts es []) (λ gs. give_counts _))

  package_exported_counts : (n o : ℕ) → RunCounts (counted_package_exported accesses ev n o) (package_exported accesses n o)
  unfolding counted_package_exported package_exported
  package_exported_counts zero o = stop_counts _
  package_exported_counts (suc n) o = elements_exported_counts _ _ (package_exported_counts n) o

  value_of_counts : (i : Invocation) (vs : List Value) → RunCounts (counted_value_of accesses ev i vs) (value_of accesses i vs)
  value_of_counts (invocation.Value v) vs = give_counts _
  value_of_counts (invocation.Field f) vs = field_read_counts accesses ev (meaning accesses) parts 1 f
  value_of_counts (invocation.Method p body) vs = method_value_counts accesses ev (meaning accesses) parts 0 p body vs
  value_of_counts invocation.Osi vs = lift_counts _ _ (osi_answered_counts vs)

  called_counts : (p : List Seg) (arguments : List Value) → RunCounts (counted_called accesses ev p arguments) (called accesses p arguments)
  unfolding counted_called called
  called_counts p arguments = then_counts _ _ _ _ (lift_counts _ _ (invocation_found_counts _ _ _)) (λ i. value_of_counts i arguments)

  invocation_exported_counts : (i : Invocation) (vs : List Value) → RunCounts (counted_invocation_exported accesses ev i vs) (invocation_exported accesses i vs)
  unfolding exported
  invocation_exported_counts (invocation.Value v) vs = then_counts _ _ _ _ (value_of_counts (invocation.Value v) vs) (value_exported_counts _ _ (package_exported_counts 64))
  invocation_exported_counts (invocation.Field f) vs = field_given_counts accesses _ _ (called_at_counts accesses ev (meaning accesses) parts 1) f
  invocation_exported_counts (invocation.Method p body) vs = then_counts _ _ _ _ (value_of_counts (invocation.Method p body) vs) (value_exported_counts _ _ (package_exported_counts 64))
  invocation_exported_counts invocation.Osi vs = then_counts _ _ _ _ (value_of_counts invocation.Osi vs) (value_exported_counts _ _ (package_exported_counts 64))

  answer_exported_counts : (p : List Seg) (count : ℕ) (arguments : List given.Given) → RunCounts (counted_answer_exported accesses ev p count arguments) (answer_exported accesses p count arguments)
  unfolding counted_answer_exported answer_exported
  answer_exported_counts p count arguments =
      then_counts _ _ _ _ (lift_counts _ _ (invocation_found_counts _ _ _)) (λ i.
      then_counts _ _ _ _ (lift_counts _ _ (all_imported_counts arguments [])) (λ vs. invocation_exported_counts i vs))

  at_root_counts : (ts : Trees) → RunCounts (counted_at_root accesses ev ts) (at_root accesses ts)
  unfolding counted_at_root at_root
  at_root_counts ts = then_counts _ _ _ _ (in_turn_counts accesses ev (meaning accesses) parts [] 0 ts) (λ last. give_counts _)

  -- ---- whole evaluations

  loaded_begins : (bytes : List ℕ) (steps : ℕ) → BeginsWithin steps (counted_loaded accesses ev bytes steps) (loaded accesses bytes steps)
  unfolding counted_loaded loaded counted_table_run table_run in_frame
  loaded_begins bytes steps =
      ending_begins steps _ _ (then_begins steps _ _ (λ ts. then_begins steps _ _ (λ n. framed_begins steps _ _ (run_begins steps _ _ (at_root_counts ts))) _ _ (opened_counts _)) _ _ (table_terms_counts bytes))

  evaluated_begins : (p : List Seg) (arguments : List Value) (steps : ℕ) → BeginsWithin steps (counted_evaluated accesses ev p arguments steps) (evaluated accesses p arguments steps)
  unfolding counted_evaluated evaluated
  evaluated_begins p arguments steps = counted_begins steps _ _ (called_counts p arguments)

  answered_begins : (p : List Seg) (arguments : List given.Given) (steps : ℕ) → BeginsWithin steps (counted_answered accesses ev p arguments steps) (answered accesses p arguments steps)
  unfolding counted_answered answered
  answered_begins p arguments steps = ending_begins steps _ _ (run_begins steps _ _ (answer_exported_counts p (length arguments) arguments))

-- ---- what the laws say

module _ {S : Type 0} (accesses : Accesses S) where
  -- ---- of terms

  pub table_is_bounded : (bytes : List ℕ) (steps : ℕ) (w : State (S × ℕ)) → terms_begun (counted_loaded accesses (counted_meaning accesses) bytes steps w).1 ≤ terms_begun w + steps
  table_is_bounded bytes steps w = (loaded_begins accesses (counted_meaning accesses) (meaning_counts accesses) bytes steps).most w

  pub table_is_the_same : (bytes : List ℕ) (steps : ℕ) (w : State (S × ℕ))
      → loaded accesses bytes steps (without_counter w) ≡ ((counted_loaded accesses (counted_meaning accesses) bytes steps w).0, without_counter (counted_loaded accesses (counted_meaning accesses) bytes steps w).1)
  table_is_the_same bytes steps w = (loaded_begins accesses (counted_meaning accesses) (meaning_counts accesses) bytes steps).same w

  pub value_is_bounded : (p : List Seg) (arguments : List Value) (steps : ℕ) (w : State (S × ℕ)) → terms_begun (counted_evaluated accesses (counted_meaning accesses) p arguments steps w).1 ≤ terms_begun w + steps
  value_is_bounded p arguments steps w = (evaluated_begins accesses (counted_meaning accesses) (meaning_counts accesses) p arguments steps).most w

  pub value_is_the_same : (p : List Seg) (arguments : List Value) (steps : ℕ) (w : State (S × ℕ))
      → evaluated accesses p arguments steps (without_counter w) ≡ ((counted_evaluated accesses (counted_meaning accesses) p arguments steps w).0, without_counter (counted_evaluated accesses (counted_meaning accesses) p arguments steps w).1)
  value_is_the_same p arguments steps w = (evaluated_begins accesses (counted_meaning accesses) (meaning_counts accesses) p arguments steps).same w

  pub answer_is_bounded : (p : List Seg) (arguments : List given.Given) (steps : ℕ) (w : State (S × ℕ)) → terms_begun (counted_answered accesses (counted_meaning accesses) p arguments steps w).1 ≤ terms_begun w + steps
  answer_is_bounded p arguments steps w = (answered_begins accesses (counted_meaning accesses) (meaning_counts accesses) p arguments steps).most w

  pub answer_is_the_same : (p : List Seg) (arguments : List given.Given) (steps : ℕ) (w : State (S × ℕ))
      → answered accesses p arguments steps (without_counter w) ≡ ((counted_answered accesses (counted_meaning accesses) p arguments steps w).0, without_counter (counted_answered accesses (counted_meaning accesses) p arguments steps w).1)
  answer_is_the_same p arguments steps w = (answered_begins accesses (counted_meaning accesses) (meaning_counts accesses) p arguments steps).same w

  -- ---- of trees

  trees_count : (t : Task) → RunCounts (counted_trees accesses t) (meaning accesses t)
  trees_count t = record { same = counting_changes_nothing (meaning accesses t); leads = λ s. let e = term_total accesses t s in omega (arith, e) }

  pub trees_of_table_bounded : (bytes : List ℕ) (steps : ℕ) (w : State (S × ℕ)) → trees_begun (counted_loaded accesses (counted_trees accesses) bytes steps w).1 ≤ trees_begun w + steps
  trees_of_table_bounded bytes steps w = (loaded_begins accesses (counted_trees accesses) trees_count bytes steps).most w

  pub trees_of_table_same : (bytes : List ℕ) (steps : ℕ) (w : State (S × ℕ))
      → loaded accesses bytes steps (without_counter w) ≡ ((counted_loaded accesses (counted_trees accesses) bytes steps w).0, without_counter (counted_loaded accesses (counted_trees accesses) bytes steps w).1)
  trees_of_table_same bytes steps w = (loaded_begins accesses (counted_trees accesses) trees_count bytes steps).same w

  pub trees_of_value_bounded : (p : List Seg) (arguments : List Value) (steps : ℕ) (w : State (S × ℕ)) → trees_begun (counted_evaluated accesses (counted_trees accesses) p arguments steps w).1 ≤ trees_begun w + steps
  trees_of_value_bounded p arguments steps w = (evaluated_begins accesses (counted_trees accesses) trees_count p arguments steps).most w

  pub trees_of_value_same : (p : List Seg) (arguments : List Value) (steps : ℕ) (w : State (S × ℕ))
      → evaluated accesses p arguments steps (without_counter w) ≡ ((counted_evaluated accesses (counted_trees accesses) p arguments steps w).0, without_counter (counted_evaluated accesses (counted_trees accesses) p arguments steps w).1)
  trees_of_value_same p arguments steps w = (evaluated_begins accesses (counted_trees accesses) trees_count p arguments steps).same w

  pub trees_of_answer_bounded : (p : List Seg) (arguments : List given.Given) (steps : ℕ) (w : State (S × ℕ)) → trees_begun (counted_answered accesses (counted_trees accesses) p arguments steps w).1 ≤ trees_begun w + steps
  trees_of_answer_bounded p arguments steps w = (answered_begins accesses (counted_trees accesses) trees_count p arguments steps).most w

  pub trees_of_answer_same : (p : List Seg) (arguments : List given.Given) (steps : ℕ) (w : State (S × ℕ))
      → answered accesses p arguments steps (without_counter w) ≡ ((counted_answered accesses (counted_trees accesses) p arguments steps w).0, without_counter (counted_answered accesses (counted_trees accesses) p arguments steps w).1)
  trees_of_answer_same p arguments steps w = (answered_begins accesses (counted_trees accesses) trees_count p arguments steps).same w

pub ruleset terms_of_tables_and_answers_are_counted = (table_is_bounded, table_is_the_same, value_is_bounded, value_is_the_same, answer_is_bounded, answer_is_the_same)

pub ruleset trees_of_tables_and_answers_are_counted = (trees_of_table_bounded, trees_of_table_same, trees_of_value_bounded, trees_of_value_same, trees_of_answer_bounded, trees_of_answer_same)
