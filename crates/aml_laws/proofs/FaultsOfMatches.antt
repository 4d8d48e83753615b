-- Where a Match refuses by a fault of the register space, its last access answered with it, where its operands do so.
use Rattle.std.specs.Prelude.{Bool, List, None, Ok, Err, Option, Some, false, nat_lt, suc, true, zero, refl, ℕ}
use Rattle.ar_space.specs.Accesses.{Accesses}
use Rattle.ar_space.specs.Outcome.{Outcome, seen}
use Rattle.ar_space.specs.declared.refusal.NamespaceFault.TheVariants.{NotFound}
use Rattle.ar_space.specs.declared.refusal.Refusal.TheVariants as refusal
use Rattle.aml_objects.specs.declared.entry.Entry.{Entry}
use Rattle.aml_convert.specs.Matching.{match_operator}
use Rattle.aml_convert.specs.declared.matching.MatchOperator.{MatchOperator}
use Rattle.aml_namespace.specs.Search.{found}
use Rattle.aml_world.specs.values.Searches.{is_comparable, package_of, searching_from, test_with, where_named, search_begun, name_held, held_by, element_held, meets, value_meets}
use Rattle.aml_path.specs.declared.segment.Seg.{Seg}
use Rattle.aml_path.specs.Paths.{Name}
use Rattle.aml_grammar.specs.Tree.{Tree}
use Rattle.aml_objects.specs.declared.object.Element.{Element}
use Rattle.aml_objects.specs.declared.object.Element.TheVariants as element
use Rattle.aml_objects.specs.declared.value.Value.{Value}
use Rattle.aml_objects.specs.declared.value.Value.TheVariants as value
use Rattle.aml_world.specs.declared.values.searches.Search.{Search}
use Rattle.aml_world.specs.declared.values.store_target.Held.{Held}
use Rattle.aml_world.specs.state.Run.{Run}
use Rattle.aml_meaning.specs.declared.flow.Flow.{Flow}
use Rattle.aml_meaning.specs.Tasks.{Task}
use Rattle.aml_meaning.specs.MatchTerms.{held_meets, if_held, element_meets, found_or, none_matches, searched_last, match_rule}
use Rattle.aml_laws.proofs.CleanNames.{found_clean}
use Rattle.aml_laws.proofs.CleanObjects.{element_at_clean}
use Rattle.aml_laws.proofs.CleanOutcomes.{Clean, if_clean, seen_clean}
use Rattle.aml_laws.proofs.CleanWorlds.{number_of_clean}
use Rattle.aml_laws.proofs.FaultsOfCalls.{held_value_explains, value_at_explains}
use Rattle.aml_laws.proofs.FaultsOfChanges.{RunExplains, WorldExplains, direct_explains, give_explains, lift_explains, on_objects_explains, settle_explains, then_explains}
use Rattle.aml_laws.proofs.FaultsOfOperations.{integer_in_explains, integer_kept_explains, size_held_explains}

package_of_clean : (v : Value) → Clean (package_of v)
package_of_clean (value.Package o) = tt
package_of_clean value.Uninitialized = tt
package_of_clean (value.Integer n) = tt
package_of_clean (value.String o) = tt
package_of_clean (value.Buffer o) = tt
package_of_clean (value.Reference r) = tt

test_with_clean : (o : Option MatchOperator) (v : Value) → Clean (test_with o v)
test_with_clean None v = tt
test_with_clean (Some k) v = if_clean (is_comparable v) _ _ tt tt

searching_from_clean : (x : Search) (i : ℕ) → Clean (searching_from x i)
searching_from_clean x i = if_clean (nat_lt i x.count) _ _ tt tt

where_named_clean : (x : Outcome Entry) → Clean x → Clean (where_named x)
where_named_clean (Ok e) c = tt
where_named_clean (Err (refusal.Namespace NotFound)) c = tt
where_named_clean (Err e) c = c

module _ {S : Type 0} {accesses : Accesses S} where
  search_begun_explains : (p : Value) (k : ℕ) (a : Value) (l : ℕ) (b start : Value) → WorldExplains accesses (search_begun p k a l b start)
  unfolding search_begun
  search_begun_explains p k a l b start =
      then_explains _ _ (settle_explains _ (package_of_clean p)) (λ o. then_explains _ _ (settle_explains _ (test_with_clean (match_operator k) a)) (λ x. then_explains _ _ (settle_explains _ (test_with_clean (match_operator l) b)) (λ y. then_explains _ _ (integer_in_explains start) (λ i. then_explains _ _ (size_held_explains _) (λ n. settle_explains _ (searching_from_clean _ i))))))

  name_held_explains : (n : Name) (scope : List Seg) → WorldExplains accesses (name_held n scope)
  unfolding name_held
  name_held_explains n scope = direct_explains _ (λ w. where_named_clean (seen (λ f. f.1) (found w.names.map scope n)) (seen_clean (λ f. f.1) (found w.names.map scope n) (found_clean w.names.map scope n))) (λ w. refl)

  held_by_explains : (e : Element) → WorldExplains accesses (held_by e)
  held_by_explains (element.Value v) = give_explains _
  held_by_explains (element.Name n scope) = name_held_explains n scope

  element_held_explains : (o i : ℕ) → WorldExplains accesses (element_held o i)
  unfolding element_held
  element_held_explains o i = then_explains _ _ (on_objects_explains _ (element_at_clean _ _)) (λ e. held_by_explains e)

  meets_explains : (x : Search) (v : Value) → WorldExplains accesses (meets x v)
  unfolding meets
  meets_explains x v = direct_explains _ (λ w. tt) (λ w. refl)

  value_meets_explains : (x : Search) (v : Value) → WorldExplains accesses (value_meets x v)
  value_meets_explains x value.Uninitialized = give_explains _
  value_meets_explains x (value.Integer n) = meets_explains x _
  value_meets_explains x (value.String o) = meets_explains x _
  value_meets_explains x (value.Buffer o) = meets_explains x _
  value_meets_explains x (value.Package o) = meets_explains x _
  value_meets_explains x (value.Reference r) = meets_explains x _

module _ {S : Type 0} (accesses : Accesses S) (ev : Task → Run S Flow) (parts : (t : Task) → RunExplains accesses (ev t)) where
  if_held_explains : (depth : ℕ) (x : Search) (o : Option Held) → RunExplains accesses (if_held accesses ev depth x o)
  unfolding held_meets
  if_held_explains depth x None = give_explains _
  if_held_explains depth x (Some h) = then_explains _ _ (held_value_explains accesses ev parts depth h) (λ v. lift_explains _ (value_meets_explains x v))

  found_or_explains : (met : Bool) (i : ℕ) (m : Run S Flow) → RunExplains accesses m → RunExplains accesses (found_or met i m)
  found_or_explains true i m h = give_explains _
  found_or_explains false i m h = h

  searched_last_explains : (depth : ℕ) (x : Search) (left : ℕ) → RunExplains accesses (searched_last accesses ev depth x left)
  unfolding searched_last none_matches element_meets
  searched_last_explains depth x zero = then_explains _ _ (lift_explains _ (integer_kept_explains _)) (λ v. give_explains _)
  searched_last_explains depth x (suc n) = then_explains _ _ (then_explains _ _ (lift_explains _ (element_held_explains x.source _)) (λ o. if_held_explains depth x o)) (λ met. found_or_explains met _ _ (searched_last_explains depth x n))

  pub match_rule_explains : (scope : List Seg) (depth : ℕ) (t : Tree) → RunExplains accesses (match_rule accesses ev scope depth t)
  unfolding match_rule
  match_rule_explains scope depth t =
      then_explains _ _ (value_at_explains accesses ev parts scope depth t 0) (λ p. then_explains _ _ (settle_explains _ (number_of_clean _)) (λ k. then_explains _ _ (value_at_explains accesses ev parts scope depth t 2) (λ a. then_explains _ _ (settle_explains _ (number_of_clean _)) (λ l. then_explains _ _ (value_at_explains accesses ev parts scope depth t 4) (λ b.
      then_explains _ _ (value_at_explains accesses ev parts scope depth t 5) (λ i. then_explains _ _ (lift_explains _ (search_begun_explains p k a l b i)) (λ x. searched_last_explains depth x.search x.left)))))))
