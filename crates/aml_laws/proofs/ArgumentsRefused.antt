-- The first argument that is refused ends a call before it begins.
use Rattle.std.specs.Prelude.{◌≡◌, ◌%◌, ◌++◌, ℕ, List, [], ◌∷◌, length, Ok, Err, refl}
use Rattle.std.proofs.Common.{ap, ◌∙◌}
use Rattle.ar_space.specs.declared.refusal.Refusal.{Refusal}
use Rattle.ar_space.specs.Accesses.{Accesses}
use Rattle.ar_space.specs.Change.{give, settle, go_on, ◌>>=◌}
use Rattle.aml_path.specs.declared.segment.Seg.{Seg}
use Rattle.aml_objects.specs.declared.entry.Entry.{Entry}
use Rattle.aml_objects.specs.declared.entry.Method.{Method}
use Rattle.aml_objects.specs.declared.entry.MethodBody.{MethodBody}
use Rattle.aml_objects.specs.declared.entry.MethodBody.TheVariants.{Osi, Aml}
use Rattle.aml_objects.specs.declared.entry.NamedObject.{NamedObject}
use Rattle.aml_objects.specs.declared.entry.NamedObject.TheVariants as named
use Rattle.aml_objects.specs.declared.value.Value.{Value}
use Rattle.aml_namespace.specs.Search.{found}
use Rattle.aml_world.specs.state.Given.{Given}
use Rattle.aml_world.specs.state.Importing.{imported, all_imported}
use Rattle.aml_world.specs.state.Invocations.{named_use, invocation_found}
use Rattle.aml_world.specs.state.Readings.{entry_found, arguments_found}
use Rattle.aml_world.specs.state.Run.{lift}
use Rattle.aml_world.specs.state.State.{State}
use Rattle.aml_meaning.specs.Calling.{answer_exported, answered}
use Rattle.aml_laws.specs.CallTerms.{HandedInTurn, no_data, first_data}
use Rattle.aml_laws.specs.Ends.{EndsAs}
use Rattle.aml_laws.specs.NamesWritten.{from_root}
use Rattle.aml_laws.proofs.AnswersEnded.{ends_so}
use Rattle.aml_laws.proofs.ArgumentsHanded.{one_more}
use Rattle.aml_laws.proofs.ArgumentsInTurn.{as_many_as}

module _ {S : Type 0} (others : List Given) (g : Given) (e : Refusal) where
  stops_at : (done : List Value) (w after : State S) → imported g w ≡ (Err e, after) → all_imported (g ∷ others) done w ≡ (Err e, after)
  unfolding all_imported go_on ◌>>=◌
  stops_at done w after is = rw is refl

  stops_behind : (front : List Given) (vs done : List Value) (w between after : State S) → HandedInTurn front w vs between → imported g between ≡ (Err e, after) → all_imported (front ++ g ∷ others) done w ≡ (Err e, after)
  stops_behind _ _ done _ _ after (no_data w) is = stops_at done w after is
  stops_behind _ _ done _ between after (first_data x xs v vs w next last one more) is =
      one_more x (xs ++ g ∷ others) v done w next one ∙ stops_behind xs vs (done ++ v ∷ []) next between after more is

module _ {S : Type 0} (accesses : Accesses S) (p path : List Seg) (front others : List Given) (g : Given) (w : State S) (entry : Entry) (m : Method) (steps : ℕ) where
  by_body : (body : MethodBody) (flags : ℕ) → found w.names.map [] (from_root p) ≡ Ok (path, record { number = entry.number; object = named.Method (record { flags = record { byte = flags }; body = body }) }) → flags % 8 ≡ length (front ++ g ∷ others)
      → (vs : List Value) (between after : State S) (e : Refusal) → HandedInTurn front w vs between → imported g between ≡ (Err e, after)
      → answer_exported accesses p (length (front ++ g ∷ others)) (front ++ g ∷ others) (w, steps) ≡ (Err e, (after, steps))
  unfolding answer_exported invocation_found arguments_found entry_found named_use settle lift give go_on ◌>>=◌
  by_body Osi flags finds many vs between after e given is = rw (finds, as_many_as (flags % 8) (length (front ++ g ∷ others)) many, finds, stops_behind others g e front vs [] w between after given is) refl
  by_body (Aml body) flags finds many vs between after e given is = rw (finds, as_many_as (flags % 8) (length (front ++ g ∷ others)) many, finds, stops_behind others g e front vs [] w between after given is) refl

  pub argument_refuses_call : found w.names.map [] (from_root p) ≡ Ok (path, entry) → entry.object ≡ named.Method m → m.flags.byte % 8 ≡ length (front ++ g ∷ others) → (vs : List Value) (between after : State S) (e : Refusal) → HandedInTurn front w vs between
      → imported g between ≡ (Err e, after) → EndsAs (Err e, (after, steps)) (answered accesses p (front ++ g ∷ others) steps w)
  argument_refuses_call finds is many vs between after e given refused =
      let found_so = finds ∙ ap (λ (o : NamedObject). Ok (path, record { number = entry.number; object = o })) is in
      ends_so accesses p (front ++ g ∷ others) w steps (Err e, (after, steps)) (by_body m.body m.flags.byte found_so many vs between after e given refused)
