-- A name that isn't found where a value stands is refused as the search for it is.
use Rattle.std.specs.Prelude.{◌≡◌, ℕ, suc, List, [], length, Err, refl}
use Rattle.std.proofs.Common.{◌∙◌}
use Rattle.ar_space.specs.declared.refusal.Refusal.{Refusal}
use Rattle.ar_space.specs.Accesses.{Accesses}
use Rattle.ar_space.specs.Change.{settle, go_on, ◌>>=◌}
use Rattle.aml_path.specs.declared.segment.Seg.{Seg}
use Rattle.aml_path.specs.Paths.{Name}
use Rattle.aml_grammar.specs.Tree.{Tree}
use Rattle.aml_objects.specs.declared.value.Value.{Value}
use Rattle.aml_namespace.specs.Search.{found}
use Rattle.aml_world.specs.state.Given.{Given}
use Rattle.aml_world.specs.state.Invocations.{invocation_found}
use Rattle.aml_world.specs.state.Readings.{entry_found, arguments_found}
use Rattle.aml_world.specs.state.Run.{lift}
use Rattle.aml_world.specs.state.State.{State}
use Rattle.aml_meaning.specs.Calling.{called, answer_exported, answered}
use Rattle.aml_meaning.specs.Evaluation.{rule}
use Rattle.aml_meaning.specs.InvocationTerms.{name_value}
use Rattle.aml_meaning.specs.Tasks.{task}
use Rattle.aml_laws.specs.CallTerms.{call_of}
use Rattle.aml_laws.specs.Ends.{EndsAs}
use Rattle.aml_laws.specs.NamesWritten.{from_root}
use Rattle.aml_laws.specs.OperatorTerms.{IsRefused}
use Rattle.aml_laws.proofs.AnswersEnded.{ends_so}
use Rattle.aml_laws.proofs.TreesCost.{term_begins}

module _ {S : Type 0} (accesses : Accesses S) where
  pub term_not_found : (scope : List Seg) (depth : ℕ) (w : State S) (steps : ℕ) (n : Name) (xs : List Tree) (e : Refusal) → found w.names.map scope n ≡ Err e → IsRefused accesses scope depth (call_of n xs) (w, suc steps) e (w, steps)
  unfolding rule name_value invocation_found arguments_found entry_found settle lift go_on ◌>>=◌
  term_not_found scope depth w steps n xs e none = (term_begins accesses (task scope depth (call_of n xs))).paid w steps ∙ rw none refl

  pub value_not_found : (p : List Seg) (vs : List Value) (w : State S) (steps : ℕ) (e : Refusal) → found w.names.map [] (from_root p) ≡ Err e → called accesses p vs (w, steps) ≡ (Err e, (w, steps))
  unfolding called invocation_found arguments_found entry_found lift go_on ◌>>=◌
  value_not_found p vs w steps e none = rw none refl

  nothing_handed_out : (p : List Seg) (gs : List Given) (w : State S) (steps : ℕ) (e : Refusal) → found w.names.map [] (from_root p) ≡ Err e → answer_exported accesses p (length gs) gs (w, steps) ≡ (Err e, (w, steps))
  unfolding answer_exported invocation_found arguments_found entry_found lift go_on ◌>>=◌
  nothing_handed_out p gs w steps e none = rw none refl

  pub answer_not_found : (p : List Seg) (gs : List Given) (w : State S) (steps : ℕ) (e : Refusal) → found w.names.map [] (from_root p) ≡ Err e → EndsAs (Err e, (w, steps)) (answered accesses p gs steps w)
  answer_not_found p gs w steps e none = ends_so accesses p gs w steps (Err e, (w, steps)) (nothing_handed_out p gs w steps e none)
