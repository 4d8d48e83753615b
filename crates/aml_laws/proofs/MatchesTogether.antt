-- Match over two register spaces side by side goes the same way until they part, where its operands do so.
use Rattle.std.specs.Prelude.{Bool, List, None, Option, Some, false, refl, suc, true, zero, ℕ}
use Rattle.ar_space.specs.Accesses.{Accesses}
use Rattle.aml_path.specs.declared.segment.Seg.{Seg}
use Rattle.aml_grammar.specs.Tree.{Tree}
use Rattle.aml_objects.specs.declared.object.Element.{Element}
use Rattle.aml_objects.specs.declared.object.Element.TheVariants as element
use Rattle.aml_objects.specs.declared.value.Value.{Value}
use Rattle.aml_objects.specs.declared.value.Value.TheVariants as value
use Rattle.aml_world.specs.declared.values.searches.Search.{Search}
use Rattle.aml_world.specs.declared.values.store_target.Held.{Held}
use Rattle.aml_world.specs.state.Run.{Run}
use Rattle.aml_world.specs.values.Searches.{search_begun, name_held, held_by, element_held, meets, value_meets}
use Rattle.aml_meaning.specs.declared.flow.Flow.{Flow}
use Rattle.aml_meaning.specs.Tasks.{Task}
use Rattle.aml_meaning.specs.MatchTerms.{held_meets, if_held, element_meets, found_or, none_matches, searched_last, match_rule}
use Rattle.aml_laws.proofs.Together.{Sides, Together, give_together, plain, settle_together, then_together}
use Rattle.aml_laws.proofs.WorldsTogether.{lift_together, objects_together, runs, worlds}
use Rattle.aml_laws.proofs.ChangesTogether.{integer_in_together, integer_kept_together, size_held_together}
use Rattle.aml_laws.proofs.Levels.{level}
use Rattle.aml_laws.proofs.OperandsTogether.{PartsTogether, held_value_together, value_at_together}

module _ {S T : Type 0} {accesses : Accesses S} {accesses2 : Accesses T} {side : Sides accesses accesses2} where
  search_begun_together : (p : Value) (k : ℕ) (a : Value) (l : ℕ) (b start : Value) → Together side worlds (search_begun p k a l b start) (search_begun p k a l b start)
  unfolding search_begun
  search_begun_together p k a l b start = then_together (settle_together _) (λ o. then_together (settle_together _) (λ x. then_together (settle_together _) (λ y. then_together (integer_in_together start) (λ i. then_together (size_held_together _) (λ n. settle_together _)))))

  held_by_together : (e : Element) → Together side worlds (held_by e) (held_by e)
  unfolding name_held
  held_by_together (element.Value v) = give_together _
  held_by_together (element.Name n scope) = plain (λ w. refl) (λ w. refl) (λ w t. refl)

  element_held_together : (o i : ℕ) → Together side worlds (element_held o i) (element_held o i)
  unfolding element_held
  element_held_together o i = then_together (objects_together _) (λ e. held_by_together e)

  meets_together : (x : Search) (v : Value) → Together side worlds (meets x v) (meets x v)
  unfolding meets
  meets_together x v = plain (λ w. refl) (λ w. refl) (λ w t. refl)

  value_meets_together : (x : Search) (v : Value) → Together side worlds (value_meets x v) (value_meets x v)
  value_meets_together x value.Uninitialized = give_together _
  value_meets_together x (value.Integer n) = meets_together x _
  value_meets_together x (value.String o) = meets_together x _
  value_meets_together x (value.Buffer o) = meets_together x _
  value_meets_together x (value.Package o) = meets_together x _
  value_meets_together x (value.Reference r) = meets_together x _

module _ {S T : Type 0} {accesses : Accesses S} {accesses2 : Accesses T} {side : Sides accesses accesses2} {ev : Task → Run S Flow} {ev2 : Task → Run T Flow} (parts : PartsTogether side ev ev2) where
  if_held_together : (depth : ℕ) (x : Search) (o : Option Held) → Together (level side depth) runs (if_held accesses ev depth x o) (if_held accesses2 ev2 depth x o)
  unfolding held_meets
  if_held_together depth x None = give_together _
  if_held_together depth x (Some h) = then_together (held_value_together parts depth h) (λ v. lift_together (value_meets_together x v))

  found_or_together : (depth : ℕ) (met : Bool) (i : ℕ) {m : Run S Flow} {n : Run T Flow} → Together (level side depth) runs m n → Together (level side depth) runs (found_or met i m) (found_or met i n)
  found_or_together depth true i h = give_together _
  found_or_together depth false i h = h

  searched_last_together : (depth : ℕ) (x : Search) (left : ℕ) → Together (level side depth) runs (searched_last accesses ev depth x left) (searched_last accesses2 ev2 depth x left)
  unfolding searched_last none_matches element_meets
  searched_last_together depth x zero = then_together (lift_together (integer_kept_together _)) (λ v. give_together _)
  searched_last_together depth x (suc n) = then_together (then_together (lift_together (element_held_together x.source _)) (λ o. if_held_together depth x o)) (λ met. found_or_together depth met _ (searched_last_together depth x n))

  pub match_rule_together : (scope : List Seg) (depth : ℕ) (t : Tree) → Together (level side depth) runs (match_rule accesses ev scope depth t) (match_rule accesses2 ev2 scope depth t)
  unfolding match_rule
  match_rule_together scope depth t =
      then_together (value_at_together parts scope depth t 0) (λ p. then_together (settle_together _) (λ k. then_together (value_at_together parts scope depth t 2) (λ a. then_together (settle_together _) (λ l. then_together (value_at_together parts scope depth t 4) (λ b.
      then_together (value_at_together parts scope depth t 5) (λ i. then_together (lift_together (search_begun_together p k a l b i)) (λ x. searched_last_together depth x.search x.left)))))))
