-- A name that holds an integer tells it where an address is asked for.
use Rattle.std.specs.Prelude.{◌≡◌, ◌<◌, ◌-◌, ℕ, suc, List, [], Some, None, Ok, refl}
use Rattle.std.specs.FinMap.{get}
use Rattle.std.proofs.Common.{ap, ◌∙◌, arith}
use Rattle.ar_space.specs.Accesses.{Accesses}
use Rattle.ar_space.specs.Change.{give, settle, go_on, ◌>>=◌}
use Rattle.ar_space.specs.Outcome.{Outcome, seen}
use Rattle.aml_path.specs.declared.segment.Seg.{Seg}
use Rattle.aml_path.specs.Paths.{resolved}
use Rattle.aml_objects.specs.declared.value.Value.TheVariants as value
use Rattle.aml_objects.specs.declared.entry.Entry.{Entry}
use Rattle.aml_objects.specs.declared.entry.NamedObject.{NamedObject}
use Rattle.aml_objects.specs.declared.entry.NamedObject.TheVariants as object
use Rattle.aml_namespace.specs.Search.{Found, found}
use Rattle.aml_world.specs.declared.state.invocation.Invocation.TheVariants as invocation
use Rattle.aml_world.specs.state.Invocations.{invocation_of, invocation_of_object, named_use, invocation_found}
use Rattle.aml_world.specs.state.Readings.{absolute, arguments_of, entry_found, arguments_found}
use Rattle.aml_world.specs.state.Run.{Run, lift}
use Rattle.aml_world.specs.state.State.{State}
use Rattle.aml_meaning.specs.declared.flow.Flow.{Flow}
use Rattle.aml_meaning.specs.FieldCalls.{asked, answer_within, called_at}
use Rattle.aml_meaning.specs.Tasks.{Task}
use Rattle.aml_laws.proofs.LimitsRefused.{call_is_allowed}
use Rattle.aml_laws.specs.BusesFound.{TellsNumber}
use Rattle.aml_laws.specs.NamesFound.{alias_path, itself}
use Rattle.aml_laws.proofs.NamesSearched.{one_path_found}

module _ {S : Type 0} (accesses : Accesses S) (ev : Task → Run S Flow) (p : List Seg) (e : Entry) (n : ℕ) (is : e.object ≡ object.Data (value.Integer n)) where
  found_at : (w : State S) → get w.names.map p ≡ Some e → found w.names.map [] (absolute p) ≡ Ok (p, e)
  unfolding resolved
  found_at w at = one_path_found w.names.map [] (absolute p) p e (Ok (p, e)) refl refl at (itself (ap alias_path is))

  arguments_so : (w : State S) → get w.names.map p ≡ Some e → arguments_found [] (absolute p) w ≡ (Ok 0, w)
  unfolding arguments_found entry_found give go_on ◌>>=◌
  arguments_so w at =
      ap (λ (f : Outcome Found). go_on (seen (λ (x : Found). x.1) f) w (λ (x : Entry). give {S = State S} (arguments_of x.object))) (found_at w at) ∙ ap (λ (o : NamedObject). (Ok (arguments_of o), w)) is

  use_so : (w : State S) → get w.names.map p ≡ Some e → named_use [] (absolute p) w ≡ (Ok (invocation.Value (value.Integer n)), w)
  unfolding named_use
  use_so w at = ap (λ (f : Outcome Found). (invocation_of f, w)) (found_at w at) ∙ ap (λ (o : NamedObject). (invocation_of_object p e.number o, w)) is

  invocation_told : (w : State S) → get w.names.map p ≡ Some e → invocation_found [] (absolute p) 0 w ≡ (Ok (invocation.Value (value.Integer n)), w)
  unfolding invocation_found settle go_on ◌>>=◌
  invocation_told w at = rw (arguments_so w at) (use_so w at)

  answered_so : (k : ℕ) (w : State S) (steps : ℕ) → 31 - k < w.nesting.calls → get w.names.map p ≡ Some e → asked (answer_within accesses ev (suc k)) p (w, steps) ≡ (Ok n, (w, steps))
  unfolding asked answer_within lift settle go_on ◌>>=◌
  answered_so k w steps few at = rw (invocation_told w at, call_is_allowed (31 - k) w (omega arith) few) refl

  pub integer_told : (depth : ℕ) → depth < 32 → (w : State S) → depth < w.nesting.calls → (steps : ℕ) → get w.names.map p ≡ Some e → TellsNumber (called_at accesses ev depth) w steps p n
  integer_told depth less w few steps at t =
      let one : 32 - depth ≡ suc (31 - depth) = omega arith in
      let here : 31 - (31 - depth) < w.nesting.calls = omega arith in
      ap (λ k. asked (answer_within accesses ev k) p (record w { space = t }, steps)) one ∙ answered_so (31 - depth) (record w { space = t }) steps here at
