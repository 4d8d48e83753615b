-- Match preserves each relation of worlds, where its operands do so.
use Rattle.std.specs.Prelude.{Bool, List, [], ◌++◌, None, Option, Some, false, refl, suc, true, zero, ℕ}
use Rattle.ar_space.specs.Accesses.{Accesses}
use Rattle.aml_path.specs.declared.segment.Seg.{Seg}
use Rattle.aml_grammar.specs.Tree.{Tree}
use Rattle.aml_objects.specs.declared.object.Element.{Element}
use Rattle.aml_objects.specs.declared.object.Element.TheVariants as element
use Rattle.aml_objects.specs.declared.value.Value.{Value}
use Rattle.aml_objects.specs.declared.value.Value.TheVariants as value
use Rattle.aml_world.specs.declared.values.searches.Search.{Search}
use Rattle.aml_world.specs.declared.values.store_target.Held.{Held}
use Rattle.aml_world.specs.state.Run.{Run}
use Rattle.aml_world.specs.values.Searches.{search_begun, name_held, held_by, element_held, meets, value_meets}
use Rattle.aml_meaning.specs.declared.flow.Flow.{Flow}
use Rattle.aml_meaning.specs.Tasks.{Task}
use Rattle.aml_meaning.specs.MatchTerms.{held_meets, if_held, element_meets, found_or, none_matches, searched_last, match_rule}
use Rattle.aml_laws.proofs.FieldUnitsFound.{units_held_if, lift_finds, element_held_finds}
use Rattle.aml_laws.proofs.KnownFieldUnits.{by_any, give_by, then_by, found_then}
use Rattle.aml_laws.proofs.ObjectKinds.{element_at_keeps_kinds}
use Rattle.aml_laws.proofs.WorldRelations.{PartsLead, Levels, WorldRelationOf, Preserves, RunPreserves, RunPreservesBy, give_preserves, lift_preserves, on_objects_preserves, run_give_preserves, run_settle_preserves, run_then_preserves, settle_preserves, then_preserves, unchanged_preserves}
use Rattle.aml_laws.proofs.ChangesPreserve.{integer_in_preserves, integer_kept_preserves, size_held_preserves}
use Rattle.aml_laws.proofs.OperandsAndCallsPreserve.{held_value_preserves, value_at_leads}

module _ {S : Type 0} {listed : Bool} {accesses : Accesses S} {relation : WorldRelationOf listed accesses} where
  pub search_begun_preserves : (p : Value) (k : ℕ) (a : Value) (l : ℕ) (b start : Value) → Preserves relation (search_begun p k a l b start)
  unfolding search_begun
  search_begun_preserves p k a l b start = then_preserves _ _ (settle_preserves _) (λ o. then_preserves _ _ (settle_preserves _) (λ x. then_preserves _ _ (settle_preserves _) (λ y. then_preserves _ _ (integer_in_preserves start) (λ i. then_preserves _ _ (size_held_preserves _) (λ n. settle_preserves _)))))

  held_by_preserves : (e : Element) → Preserves relation (held_by e)
  unfolding name_held
  held_by_preserves (element.Value v) = give_preserves _
  held_by_preserves (element.Name n scope) = unchanged_preserves _ (λ w. refl)

  pub element_held_preserves : (o i : ℕ) → Preserves relation (element_held o i)
  unfolding element_held
  element_held_preserves o i = then_preserves _ _ (on_objects_preserves _ (element_at_keeps_kinds o i)) (λ e. held_by_preserves e)

  meets_preserves : (x : Search) (v : Value) → Preserves relation (meets x v)
  unfolding meets
  meets_preserves x v = unchanged_preserves _ (λ w. refl)

  pub value_meets_preserves : (x : Search) (v : Value) → Preserves relation (value_meets x v)
  value_meets_preserves x value.Uninitialized = give_preserves _
  value_meets_preserves x (value.Integer n) = meets_preserves x _
  value_meets_preserves x (value.String o) = meets_preserves x _
  value_meets_preserves x (value.Buffer o) = meets_preserves x _
  value_meets_preserves x (value.Package o) = meets_preserves x _
  value_meets_preserves x (value.Reference r) = meets_preserves x _

module _ {S : Type 0} {accesses : Accesses S} {levels : Levels accesses} (ev : Task → Run S Flow) (parts : PartsLead levels ev) where
  if_held_preserves : (depth : ℕ) (x : Search) (o : Option Held) → RunPreservesBy (levels.at depth) (units_held_if o ++ []) (if_held accesses ev depth x o)
  unfolding held_meets
  if_held_preserves depth x None = give_by _
  if_held_preserves depth x (Some h) = then_by _ _ (held_value_preserves ev parts [] depth h) (λ v. by_any _ _ (lift_preserves _ (value_meets_preserves x v)))

  found_or_preserves : {depth : ℕ} (met : Bool) (i : ℕ) (m : Run S Flow) → RunPreserves (levels.at depth) m → RunPreserves (levels.at depth) (found_or met i m)
  found_or_preserves true i m h = run_give_preserves _
  found_or_preserves false i m h = h

  searched_last_preserves : (depth : ℕ) (x : Search) (left : ℕ) → RunPreserves (levels.at depth) (searched_last accesses ev depth x left)
  unfolding searched_last none_matches element_meets
  searched_last_preserves depth x zero = run_then_preserves _ _ (lift_preserves _ (integer_kept_preserves _)) (λ v. run_give_preserves _)
  searched_last_preserves depth x (suc n) = run_then_preserves _ _ (found_then _ _ (lift_preserves _ (element_held_preserves x.source _)) (lift_finds _ (element_held_finds x.source _)) (λ o. if_held_preserves depth x o)) (λ met. found_or_preserves met _ _ (searched_last_preserves depth x n))

  pub match_rule_preserves : (scope : List Seg) (depth : ℕ) (t : Tree) → RunPreserves (levels.at depth) (match_rule accesses ev scope depth t)
  unfolding match_rule
  match_rule_preserves scope depth t =
      run_then_preserves _ _ (value_at_leads ev parts scope depth t 0) (λ p. run_then_preserves _ _ (run_settle_preserves _) (λ k. run_then_preserves _ _ (value_at_leads ev parts scope depth t 2) (λ a. run_then_preserves _ _ (run_settle_preserves _) (λ l. run_then_preserves _ _ (value_at_leads ev parts scope depth t 4) (λ b.
      run_then_preserves _ _ (value_at_leads ev parts scope depth t 5) (λ i. run_then_preserves _ _ (lift_preserves _ (search_begun_preserves p k a l b i)) (λ x. searched_last_preserves depth x.search x.left)))))))
