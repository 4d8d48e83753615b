-- The arguments that a caller hands in are those of the call, in their order.
use Rattle.std.specs.Prelude.{◌≡◌, ◌%◌, ◌++◌, ℕ, List, [], ◌∷◌, length, Ok, Err, refl}
use Rattle.std.proofs.Common.{ap, sym, ◌∙◌}
use Rattle.std.proofs.lemmas.List.{append-nil, append_assoc}
use Rattle.ar_space.specs.declared.refusal.Refusal.TheVariants as refusal
use Rattle.ar_space.specs.declared.refusal.EvaluationFault.TheVariants.{ArityChanged}
use Rattle.ar_space.specs.Accesses.{Accesses}
use Rattle.ar_space.specs.Change.{give, settle, go_on, ◌>>=◌}
use Rattle.aml_path.specs.declared.segment.Seg.{Seg}
use Rattle.aml_objects.specs.declared.value.Value.{Value}
use Rattle.aml_namespace.specs.Search.{found}
use Rattle.aml_world.specs.state.Given.{Given}
use Rattle.aml_world.specs.state.Importing.{imported, all_imported}
use Rattle.aml_world.specs.state.Invocations.{named_use, invocation_found}
use Rattle.aml_world.specs.state.Readings.{entry_found, arguments_found}
use Rattle.aml_world.specs.state.Run.{lift}
use Rattle.aml_world.specs.state.State.{State}
use Rattle.aml_meaning.specs.Calling.{ending, with_steps, answer_exported, answered}
use Rattle.aml_meaning.specs.Exporting.{exported}
use Rattle.aml_meaning.specs.Calls.{method_value}
use Rattle.aml_meaning.specs.Meaning.{meaning}
use Rattle.aml_laws.specs.CallTerms.{method_entry, HandedInTurn, no_data, first_data}
use Rattle.aml_laws.specs.NamesWritten.{from_root}
use Rattle.aml_laws.proofs.ArgumentsInTurn.{as_many_as, not_as_many}

module _ {S : Type 0} where
  pub one_more : (g : Given) (gs : List Given) (v : Value) (done : List Value) (w between : State S) → imported g w ≡ (Ok v, between) → all_imported (g ∷ gs) done w ≡ all_imported gs (done ++ v ∷ []) between
  unfolding all_imported go_on ◌>>=◌
  one_more g gs v done w between is = rw is refl

  behind_done : (gs : List Given) (w after : State S) (vs done : List Value) → HandedInTurn gs w vs after → all_imported gs done w ≡ (Ok (done ++ vs), after)
  unfolding all_imported give
  behind_done _ _ _ _ done (no_data w) = ap (λ (l : List Value). (Ok l, w)) (sym (append-nil done))
  behind_done _ _ _ _ done (first_data g gs v vs w between after is others) =
      one_more g gs v done w between is ∙ behind_done gs between after vs (done ++ v ∷ []) others ∙ ap (λ (l : List Value). (Ok l, after)) (append_assoc done (v ∷ []) vs)

  pub handed_in_turn : (gs : List Given) (w after : State S) (vs : List Value) → HandedInTurn gs w vs after → all_imported gs [] w ≡ (Ok vs, after)
  handed_in_turn gs w after vs h = behind_done gs w after vs [] h

  module _ (accesses : Accesses S) (p path : List Seg) (gs : List Given) (w : State S) (number flags : ℕ) (body : List ℕ) (steps : ℕ) (finds : found w.names.map [] (from_root p) ≡ Ok (path, method_entry number flags body)) where
    pub answered_with : (vs : List Value) (inside : State S) (v : Value) (after end : State S × ℕ) (g : Given) → flags % 8 ≡ length gs → HandedInTurn gs w vs inside → method_value (meaning accesses) 0 path body vs (inside, steps) ≡ (Ok v, after) → exported accesses v after ≡ (Ok g, end)
        → (answered accesses p gs steps w).0 ≡ Ok g
    unfolding answered ending with_steps answer_exported invocation_found arguments_found entry_found named_use settle lift give go_on ◌>>=◌
    answered_with vs inside v after end g many given gives out = rw (finds, as_many_as (flags % 8) (length gs) many, finds, handed_in_turn gs w inside vs given, gives, out) refl

    pub other_number_answered : (flags % 8 ≡ length gs → ⊥) → (answered accesses p gs steps w).0 ≡ Err (refusal.Evaluation ArityChanged)
    unfolding answered ending with_steps answer_exported invocation_found arguments_found entry_found settle lift give go_on ◌>>=◌
    other_number_answered other = rw (finds, not_as_many (flags % 8) (length gs) other) refl
