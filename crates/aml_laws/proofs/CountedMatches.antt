-- Match over a space with a counter does what it does without it, where its operands do so.
use Rattle.std.specs.Prelude.{Bool, List, None, Option, Some, false, refl, suc, true, zero, ℕ}
use Rattle.ar_space.specs.Accesses.{Accesses}
use Rattle.aml_path.specs.declared.segment.Seg.{Seg}
use Rattle.aml_grammar.specs.Tree.{Tree}
use Rattle.aml_objects.specs.declared.object.Element.{Element}
use Rattle.aml_objects.specs.declared.object.Element.TheVariants as element
use Rattle.aml_objects.specs.declared.value.Value.{Value}
use Rattle.aml_objects.specs.declared.value.Value.TheVariants as value
use Rattle.aml_world.specs.declared.values.searches.Search.{Search}
use Rattle.aml_world.specs.declared.values.store_target.Held.{Held}
use Rattle.aml_world.specs.state.Run.{Run}
use Rattle.aml_world.specs.values.Searches.{search_begun, name_held, held_by, element_held, meets, value_meets}
use Rattle.aml_meaning.specs.declared.flow.Flow.{Flow}
use Rattle.aml_meaning.specs.Tasks.{Task}
use Rattle.aml_meaning.specs.MatchTerms.{held_meets, if_held, element_meets, found_or, none_matches, searched_last, match_rule}
use Rattle.aml_laws.specs.Counted.{beside_counter}
use Rattle.aml_laws.proofs.CountedChanges.{Counts, RunCounts, direct_counts, give_counts, lift_counts, on_objects_counts, settle_counts, then_counts}
use Rattle.aml_laws.proofs.CountedOperations.{integer_in_counts, integer_kept_counts, size_held_counts}
use Rattle.aml_laws.proofs.CountedCalls.{held_value_counts, value_at_counts}

module _ {S : Type 0} where
  search_begun_counts : (p : Value) (k : ℕ) (a : Value) (l : ℕ) (b start : Value) → Counts {S = S} (search_begun p k a l b start) (search_begun p k a l b start)
  unfolding search_begun
  search_begun_counts p k a l b start = then_counts _ _ _ _ (settle_counts _) (λ o. then_counts _ _ _ _ (settle_counts _) (λ x. then_counts _ _ _ _ (settle_counts _) (λ y. then_counts _ _ _ _ (integer_in_counts start) (λ i. then_counts _ _ _ _ (size_held_counts _) (λ n. settle_counts _)))))

  held_by_counts : (e : Element) → Counts {S = S} (held_by e) (held_by e)
  unfolding name_held
  held_by_counts (element.Value v) = give_counts _
  held_by_counts (element.Name n scope) = direct_counts _ _ (λ w. refl) (λ w. refl)

  element_held_counts : (o i : ℕ) → Counts {S = S} (element_held o i) (element_held o i)
  unfolding element_held
  element_held_counts o i = then_counts _ _ _ _ (on_objects_counts _) (λ e. held_by_counts e)

  meets_counts : (x : Search) (v : Value) → Counts {S = S} (meets x v) (meets x v)
  unfolding meets
  meets_counts x v = direct_counts _ _ (λ w. refl) (λ w. refl)

  value_meets_counts : (x : Search) (v : Value) → Counts {S = S} (value_meets x v) (value_meets x v)
  value_meets_counts x value.Uninitialized = give_counts _
  value_meets_counts x (value.Integer n) = meets_counts x _
  value_meets_counts x (value.String o) = meets_counts x _
  value_meets_counts x (value.Buffer o) = meets_counts x _
  value_meets_counts x (value.Package o) = meets_counts x _
  value_meets_counts x (value.Reference r) = meets_counts x _

-- uncounted: what a part evaluates to without the counter
module _ {S : Type 0} (accesses : Accesses S) (ev : Task → Run (S × ℕ) Flow) (uncounted : Task → Run S Flow) (parts : (t : Task) → RunCounts (ev t) (uncounted t)) where
  if_held_counts : (depth : ℕ) (x : Search) (o : Option Held) → RunCounts {S = S} (if_held (beside_counter accesses) ev depth x o) (if_held accesses uncounted depth x o)
  unfolding held_meets
  if_held_counts depth x None = give_counts _
  if_held_counts depth x (Some h) = then_counts _ _ _ _ (held_value_counts accesses ev uncounted parts depth h) (λ v. lift_counts _ _ (value_meets_counts x v))

  found_or_counts : (met : Bool) (i : ℕ) (m : Run (S × ℕ) Flow) (k : Run S Flow) → RunCounts m k → RunCounts (found_or met i m) (found_or met i k)
  found_or_counts true i m k h = give_counts _
  found_or_counts false i m k h = h

  searched_last_counts : (depth : ℕ) (x : Search) (left : ℕ) → RunCounts {S = S} (searched_last (beside_counter accesses) ev depth x left) (searched_last accesses uncounted depth x left)
  unfolding searched_last none_matches element_meets
  searched_last_counts depth x zero = then_counts _ _ _ _ (lift_counts _ _ (integer_kept_counts _)) (λ v. give_counts _)
  searched_last_counts depth x (suc n) = then_counts _ _ _ _ (then_counts _ _ _ _ (lift_counts _ _ (element_held_counts x.source _)) (λ o. if_held_counts depth x o)) (λ met. found_or_counts met _ _ _ (searched_last_counts depth x n))

  pub match_rule_counts : (scope : List Seg) (depth : ℕ) (t : Tree) → RunCounts {S = S} (match_rule (beside_counter accesses) ev scope depth t) (match_rule accesses uncounted scope depth t)
  unfolding match_rule
  match_rule_counts scope depth t =
      then_counts _ _ _ _ (value_at_counts accesses ev uncounted parts scope depth t 0) (λ p. then_counts _ _ _ _ (settle_counts _) (λ k. then_counts _ _ _ _ (value_at_counts accesses ev uncounted parts scope depth t 2) (λ a. then_counts _ _ _ _ (settle_counts _) (λ l. then_counts _ _ _ _ (value_at_counts accesses ev uncounted parts scope depth t 4) (λ b.
      then_counts _ _ _ _ (value_at_counts accesses ev uncounted parts scope depth t 5) (λ i. then_counts _ _ _ _ (lift_counts _ _ (search_begun_counts p k a l b i)) (λ x. searched_last_counts depth x.search x.left)))))))
