-- The end of a call takes its frame and the names below its control method away, and nothing else.
use Rattle.std.specs.Prelude.{◌≡◌, ◌+◌, ◌++◌, ◌∷◌, [], ℕ, List, true, false, not, Option, None, Ok, refl, cond}
use Rattle.std.specs.FinMap.{get, get-retain_keys}
use Rattle.std.proofs.Common.{ap, sym, subst, ◌∙◌}
use Rattle.ar_space.specs.Accesses.{Accesses}
use Rattle.ar_space.specs.Outcome.{Outcome}
use Rattle.aml_path.specs.declared.segment.Seg.{Seg}
use Rattle.aml_path.specs.Paths.{is_below}
use Rattle.aml_grammar.specs.Tree.{Trees}
use Rattle.aml_objects.specs.declared.value.Value.{Value}
use Rattle.aml_namespace.specs.Namespace.{without_below}
use Rattle.aml_world.specs.state.Invocations.{body_terms, left}
use Rattle.aml_world.specs.state.State.{State}
use Rattle.aml_meaning.specs.declared.flow.Flow.{Flow}
use Rattle.aml_meaning.specs.Calls.{leaving, invoked}
use Rattle.aml_meaning.specs.Meaning.{meaning}
use Rattle.aml_meaning.specs.Tasks.{in_turn}
use Rattle.aml_laws.specs.Calls.{body_frame}
use Rattle.aml_laws.specs.Ends.{IsCallLeft}
use Rattle.aml_laws.specs.Numbers.{numbers_of}
use Rattle.aml_laws.proofs.EndOfCalls.{below_alike, other_names_stay}
use Rattle.aml_laws.proofs.FrameNumbers.{numbers_pushed, list_is_balanced}
use Rattle.aml_laws.proofs.FramesOpened.{frame_opened, body_evaluated}
use Rattle.aml_laws.proofs.FramesTaken.{latest_is_taken}

module _ {S : Type 0} where
  no_name_below : (w : State S) (p q : List Seg) → is_below p q ≡ true → get (left p w).names.map q ≡ None
  unfolding without_below
  no_name_below w p q below = get-retain_keys w.names.map (λ x. not (is_below p x)) q (below_alike p q) ∙ ap (λ b. cond (not b) (get w.names.map q) None) below

  is_left : (w : State S) (p : List Seg) (ns : List ℕ) (n : ℕ) → numbers_of w.frames ≡ ns ++ n ∷ [] → IsCallLeft p n w (left p w)
  unfolding without_below
  is_left w p ns n is = record {
    frame = latest_is_taken w.frames ns n is;
    rest = refl;
    gone = no_name_below w p;
    others = other_names_stay w p;
  }

  module _ (accesses : Accesses S) (depth : ℕ) (p : List Seg) (body : List ℕ) (arguments : List Value) (before inside : State S) (steps n : ℕ) (begun : body_frame depth p body arguments before ≡ (Ok n, inside)) (ts : Trees) (read : body_terms p body before ≡ (Ok ts, before)) where
    numbers : numbers_of (in_turn (meaning accesses) p (depth + 1) ts (inside, steps)).1.0.frames ≡ numbers_of before.frames ++ n ∷ []
    numbers =
        let opened = frame_opened depth p body arguments before inside n begun in
        list_is_balanced accesses p (depth + 1) ts (inside, steps) ∙ ap (λ (u : State S). numbers_of u.frames) opened.is ∙ numbers_pushed before.frames opened.frame ∙ ap (λ k. numbers_of before.frames ++ k ∷ []) opened.numbered

    pub call_is_left : IsCallLeft p n (in_turn (meaning accesses) p (depth + 1) ts (inside, steps)).1.0 (invoked (meaning accesses) depth p body arguments (before, steps)).1.0
    unfolding leaving
    call_is_left =
        let end = (in_turn (meaning accesses) p (depth + 1) ts (inside, steps)).1.0 in
        let after : (invoked (meaning accesses) depth p body arguments (before, steps)).1.0 ≡ left p end = ap (λ (r : Outcome Flow × (State S × ℕ)). r.1.0) (body_evaluated (meaning accesses) depth p body arguments before inside steps n begun ts read) in
        subst (λ (u : State S). IsCallLeft p n end u) (sym after) (is_left end p (numbers_of before.frames) n numbers)
