-- What an object gives, and what it answers, is what its evaluation comes to, and leaves its world.
use Rattle.std.specs.Prelude.{◌≡◌, ◌%◌, ℕ, List, [], length, Ok, Err, refl}
use Rattle.std.proofs.Common.{sym, subst}
use Rattle.ar_space.specs.declared.refusal.Refusal.{Refusal}
use Rattle.ar_space.specs.Accesses.{Accesses}
use Rattle.ar_space.specs.Outcome.{Outcome}
use Rattle.ar_space.specs.Change.{give, settle, go_on, ◌>>=◌}
use Rattle.aml_path.specs.declared.segment.Seg.{Seg}
use Rattle.aml_objects.specs.declared.value.Value.{Value}
use Rattle.aml_namespace.specs.Search.{found}
use Rattle.aml_world.specs.state.Given.{Given}
use Rattle.aml_world.specs.state.Invocations.{named_use, invocation_found}
use Rattle.aml_world.specs.state.Readings.{entry_found, arguments_found}
use Rattle.aml_world.specs.state.Run.{lift}
use Rattle.aml_world.specs.state.State.{State}
use Rattle.aml_meaning.specs.Calling.{called, counted, evaluated, answer_exported, answered}
use Rattle.aml_meaning.specs.Exporting.{exported}
use Rattle.aml_meaning.specs.Calls.{method_value}
use Rattle.aml_meaning.specs.Meaning.{meaning}
use Rattle.aml_laws.specs.CallTerms.{method_entry, HandedInTurn}
use Rattle.aml_laws.specs.Ends.{EndsAs}
use Rattle.aml_laws.specs.NamesWritten.{from_root}
use Rattle.aml_laws.proofs.ArgumentsHanded.{handed_in_turn}
use Rattle.aml_laws.proofs.ArgumentsInTurn.{as_many_as}
use Rattle.aml_laws.proofs.WorldsReleased.{ends_as}

module _ {S : Type 0} (accesses : Accesses S) (p : List Seg) where
  -- ---- the value of an object

  pub value_told : (vs : List Value) (w after : State S) (steps rest : ℕ) (v : Value) → called accesses p vs (w, steps) ≡ (Ok v, (after, rest)) → evaluated accesses p vs steps w ≡ (Ok (v, rest), after)
  unfolding evaluated counted
  value_told vs w after steps rest v is = rw is refl

  pub value_refused : (vs : List Value) (w after : State S) (steps rest : ℕ) (e : Refusal) → called accesses p vs (w, steps) ≡ (Err e, (after, rest)) → evaluated accesses p vs steps w ≡ (Err e, after)
  unfolding evaluated counted
  value_refused vs w after steps rest e is = rw is refl

  pub method_called : (path : List Seg) (vs : List Value) (s : State S × ℕ) (number flags : ℕ) (body : List ℕ) → found s.0.names.map [] (from_root p) ≡ Ok (path, method_entry number flags body) → flags % 8 ≡ length vs
      → called accesses p vs s ≡ method_value (meaning accesses) 0 path body vs s
  unfolding called invocation_found arguments_found entry_found named_use settle lift give go_on ◌>>=◌
  method_called path vs s number flags body finds many = rw (finds, as_many_as (flags % 8) (length vs) many, finds) refl

  -- ---- what it answers

  pub answer_ends : (gs : List Given) (w : State S) (steps : ℕ) → EndsAs (answer_exported accesses p (length gs) gs (w, steps)) (answered accesses p gs steps w)
  unfolding answered
  answer_ends gs w steps = ends_as steps (answer_exported accesses p (length gs) gs) w

  pub ends_so : (gs : List Given) (w : State S) (steps : ℕ) (r : Outcome Given × (State S × ℕ)) → answer_exported accesses p (length gs) gs (w, steps) ≡ r → EndsAs r (answered accesses p gs steps w)
  ends_so gs w steps r is = subst (λ (x : Outcome Given × (State S × ℕ)). EndsAs x (answered accesses p gs steps w)) is (answer_ends gs w steps)

  module _ (path : List Seg) (gs : List Given) (w : State S) (number flags : ℕ) (body : List ℕ) (steps : ℕ) (finds : found w.names.map [] (from_root p) ≡ Ok (path, method_entry number flags body)) (many : flags % 8 ≡ length gs) (vs : List Value) (inside : State S) where
    handed_out_is : (v : Value) (after end : State S × ℕ) (out : Outcome Given) → HandedInTurn gs w vs inside → method_value (meaning accesses) 0 path body vs (inside, steps) ≡ (Ok v, after) → exported accesses v after ≡ (out, end)
        → answer_exported accesses p (length gs) gs (w, steps) ≡ (out, end)
    unfolding answer_exported invocation_found arguments_found entry_found named_use settle lift give go_on ◌>>=◌
    handed_out_is v after end out given gives is = rw (finds, as_many_as (flags % 8) (length gs) many, finds, handed_in_turn gs w inside vs given, gives) is

    pub value_handed_out : (v : Value) (after end : State S × ℕ) (out : Outcome Given) → HandedInTurn gs w vs inside → method_value (meaning accesses) 0 path body vs (inside, steps) ≡ (Ok v, after) → exported accesses v after ≡ (out, end)
        → EndsAs (out, end) (answered accesses p gs steps w)
    value_handed_out v after end out given gives is = ends_so gs w steps (out, end) (handed_out_is v after end out given gives is)

    call_refused_is : (end : State S × ℕ) (e : Refusal) → HandedInTurn gs w vs inside → method_value (meaning accesses) 0 path body vs (inside, steps) ≡ (Err e, end) → answer_exported accesses p (length gs) gs (w, steps) ≡ (Err e, end)
    unfolding answer_exported invocation_found arguments_found entry_found named_use settle lift give go_on ◌>>=◌
    call_refused_is end e given is = rw (finds, as_many_as (flags % 8) (length gs) many, finds, handed_in_turn gs w inside vs given, is) refl

    pub call_refused : (end : State S × ℕ) (e : Refusal) → HandedInTurn gs w vs inside → method_value (meaning accesses) 0 path body vs (inside, steps) ≡ (Err e, end) → EndsAs (Err e, end) (answered accesses p gs steps w)
    call_refused end e given is = ends_so gs w steps (Err e, end) (call_refused_is end e given is)
