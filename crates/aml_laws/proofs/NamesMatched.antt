-- Match compares what a name in a package finds.
use Rattle.std.specs.Prelude.{◌≡◌, ◌-◌, ◌^◌, ℕ, suc, List, Bool, true, false, Ok, refl, if◌then◌else◌}
use Rattle.std.proofs.Common.{ap, ◌∙◌}
use Rattle.ar_space.specs.Accesses.{Accesses}
use Rattle.ar_space.specs.Change.{give, settle, go_on, ◌>>=◌}
use Rattle.aml_path.specs.declared.segment.Seg.{Seg}
use Rattle.aml_path.specs.Paths.{Name}
use Rattle.aml_grammar.specs.declared.opcode.Opcode.TheVariants as opcodes
use Rattle.aml_grammar.specs.Tree.{Tree}
use Rattle.aml_objects.specs.Contents.{Integer}
use Rattle.aml_objects.specs.Objects.{element_at}
use Rattle.aml_objects.specs.declared.entry.Entry.{Entry}
use Rattle.aml_objects.specs.declared.entry.NamedObject.TheVariants as named
use Rattle.aml_objects.specs.declared.value.Value.TheVariants as value
use Rattle.aml_convert.specs.Integers.{bits_of}
use Rattle.aml_convert.specs.Matching.{is_match}
use Rattle.aml_convert.specs.declared.matching.MatchOperator.{MatchOperator}
use Rattle.aml_namespace.specs.Search.{found}
use Rattle.aml_world.specs.declared.values.searches.Search.{Search}
use Rattle.aml_world.specs.state.State.{State, on_objects}
use Rattle.aml_world.specs.state.Run.{Run, lift}
use Rattle.aml_world.specs.state.Readings.{integer_kept}
use Rattle.aml_world.specs.values.Operations.{size_held}
use Rattle.aml_world.specs.values.Searches.{search_begun, name_held, element_held, meets}
use Rattle.aml_meaning.specs.declared.flow.Flow.{Flow}
use Rattle.aml_meaning.specs.declared.flow.Flow.TheVariants as flow
use Rattle.aml_meaning.specs.Tasks.{task, operand_value, value_at}
use Rattle.aml_meaning.specs.MatchTerms.{found_or, none_matches, held_meets, element_meets, searched_last, match_rule}
use Rattle.aml_meaning.specs.Evaluation.{rule}
use Rattle.aml_meaning.specs.Meaning.{meaning}
use Rattle.aml_laws.specs.OperatorTerms.{Gives}
use Rattle.aml_laws.specs.MatchedTerms.{match, IsNumberOf, IsMet}
use Rattle.aml_laws.specs.MatchedNames.{MatchesName}
use Rattle.aml_laws.proofs.ConstantsGiven.{all_kept}
use Rattle.aml_laws.proofs.MatchesFound.{IsTold, told, numbered}
use Rattle.aml_laws.proofs.TreesCost.{term_begins}
use Rattle.aml_laws.proofs.WideAsked.{asked_in_wide}

pub both_met : (p q : Bool) (A B : Type 0) → IsTold p A → IsTold q B → A → B → (if p then q else false) ≡ true
both_met true true A B f g x y = refl
both_met true false A B f g x y = absurd (g.1 refl y)
both_met false q A B f g x y = absurd (f.1 refl x)

pub one_missed : (p q : Bool) (A B : Type 0) → IsTold p A → IsTold q B → (A × B → ⊥) → (if p then q else false) ≡ false
one_missed true true A B f g not = absurd (not (f.0 refl, g.0 refl))
one_missed true false A B f g not = refl
one_missed false q A B f g not = refl

module _ {S : Type 0} (after : State S × ℕ) where
  found_here : (b : Bool) (others : Run S Flow) → b ≡ true → found_or b 0 others after ≡ (Ok (flow.Value (value.Integer 0)), after)
  unfolding give
  found_here true others e = refl
  found_here false others e = absurd (cc e)

  found_later : (b : Bool) (others : Run S Flow) → b ≡ false → found_or b 0 others after ≡ others after
  found_later true others e = absurd (cc e)
  found_later false others e = refl

module _ {S : Type 0} (accesses : Accesses S) (scope : List Seg) (depth : ℕ) (p x y i : Tree) (w : State S) (steps : ℕ) (n : Name) (home : List Seg) (a b : ℕ) (after : State S × ℕ) (h : MatchesName accesses scope depth p x y i (w, steps) n home a b after)
    (path : List Seg) (e : Entry) (q : ℕ) (finds : found after.0.names.map home n ≡ Ok (path, e)) (is : e.object ≡ named.Data (value.Integer q)) (j m : ℕ) (k l : MatchOperator) (one : IsNumberOf j k) (other : IsNumberOf m l) where
  abbrev sought : Search
  sought = record { source = h.source; count = 1; first = record { operator = k; object = value.Integer a }; second = record { operator = l; object = value.Integer b } }

  abbrev both : Bool
  both = if is_match after.0.width k (Integer a) (Integer q) then is_match after.0.width l (Integer b) (Integer q) else false

  element_told : element_meets accesses (meaning accesses) depth sought 0 after ≡ (Ok both, after)
  unfolding element_meets element_held name_held held_meets meets on_objects element_at lift give go_on ◌>>=◌
  element_told = rw (h.holds, finds, is) refl

  searched : searched_last accesses (meaning accesses) depth sought 1 after ≡ found_or both 0 (searched_last accesses (meaning accesses) depth sought 0) after
  unfolding searched_last go_on ◌>>=◌
  searched = rw element_told refl

  none_left : searched_last accesses (meaning accesses) depth sought 0 after ≡ (Ok (flow.Value (value.Integer (2 ^ bits_of after.0.width - 1))), after)
  unfolding searched_last none_matches integer_kept lift give go_on ◌>>=◌
  none_left = ap (λ (n : ℕ). (Ok (flow.Value (value.Integer n)), after)) (all_kept after.0.width)

  searched_by : match_rule accesses (meaning accesses) scope depth (match p j x m y i) (w, steps) ≡ searched_last accesses (meaning accesses) depth sought 1 after
  unfolding match_rule search_begun size_held value_at operand_value settle lift give go_on ◌>>=◌
  searched_by = rw (h.gives_package, h.gives_first, h.gives_second, h.gives_start, numbered j k one, numbered m l other, h.converts, h.holds) refl

  ruled : rule accesses (meaning accesses) (task scope depth (match p j x m y i)) (w, steps) ≡ match_rule accesses (meaning accesses) scope depth (match p j x m y i) (w, steps)
  unfolding rule
  ruled = asked_in_wide opcodes.Match w steps h.wide (match_rule accesses (meaning accesses) scope depth (match p j x m y i))

  begins : meaning accesses (task scope depth (match p j x m y i)) (w, suc steps) ≡ found_or both 0 (searched_last accesses (meaning accesses) depth sought 0) after
  begins = (term_begins accesses (task scope depth (match p j x m y i))).paid w steps ∙ (ruled ∙ (searched_by ∙ searched))

  pub name_met : IsMet k q a → IsMet l q b → Gives accesses scope depth (match p j x m y i) (w, suc steps) 0 after
  name_met f g = begins ∙ found_here after both (searched_last accesses (meaning accesses) depth sought 0) (both_met (is_match after.0.width k (Integer a) (Integer q)) (is_match after.0.width l (Integer b) (Integer q)) (IsMet k q a) (IsMet l q b) (told after.0.width k q a) (told after.0.width l q b) f g)

  pub name_unmet : (IsMet k q a × IsMet l q b → ⊥) → Gives accesses scope depth (match p j x m y i) (w, suc steps) (2 ^ bits_of after.0.width - 1) after
  name_unmet not =
      begins
      ∙ (found_later after both (searched_last accesses (meaning accesses) depth sought 0) (one_missed (is_match after.0.width k (Integer a) (Integer q)) (is_match after.0.width l (Integer b) (Integer q)) (IsMet k q a) (IsMet l q b) (told after.0.width k q a) (told after.0.width l q b) not) ∙ none_left)
