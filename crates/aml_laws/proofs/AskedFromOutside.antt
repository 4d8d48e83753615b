-- What objects that hold no value answer to a caller, and how control methods are refused that are asked with another number of arguments.
use Rattle.std.specs.Prelude.{◌≡◌, ◌==◌, ◌%◌, ℕ, List, [], length, Some, Ok, Err, false, refl}
use Rattle.std.proofs.Common.{ap}
use Rattle.ar_space.specs.Accesses.{Accesses}
use Rattle.ar_space.specs.Change.{give, settle, go_on, ◌>>=◌}
use Rattle.ar_space.specs.declared.refusal.Refusal.TheVariants as refusal
use Rattle.ar_space.specs.declared.refusal.EvaluationFault.TheVariants.{ArityChanged}
use Rattle.aml_path.specs.declared.segment.Seg.{Seg}
use Rattle.aml_objects.specs.declared.entry.Entry.{Entry}
use Rattle.aml_objects.specs.declared.entry.Method.{Method}
use Rattle.aml_objects.specs.declared.entry.NamedObject.TheVariants as named
use Rattle.aml_objects.specs.declared.value.Reference.TheVariants as reference
use Rattle.aml_objects.specs.declared.value.Value.{Value}
use Rattle.aml_objects.specs.declared.value.Value.TheVariants as value
use Rattle.aml_namespace.specs.Namespace.{numbered}
use Rattle.aml_namespace.specs.Numbering.{Numbered}
use Rattle.aml_namespace.specs.Search.{found}
use Rattle.aml_world.specs.state.NameUses.{path_of}
use Rattle.aml_world.specs.state.Given as given
use Rattle.aml_world.specs.state.Given.{Given}
use Rattle.aml_world.specs.state.Importing.{all_imported}
use Rattle.aml_world.specs.state.Invocations.{named_use, invocation_found}
use Rattle.aml_world.specs.state.Readings.{arguments_of, entry_found, arguments_found}
use Rattle.aml_world.specs.state.Run.{lift}
use Rattle.aml_world.specs.state.State.{State}
use Rattle.aml_meaning.specs.Calling.{called, evaluated, answer_exported, answered}
use Rattle.aml_meaning.specs.Exporting.{exported, value_exported, reference_exported}
use Rattle.aml_laws.specs.CallTerms.{IsNoMethod}
use Rattle.aml_laws.specs.Ends.{EndsAs}
use Rattle.aml_laws.specs.NamesWritten.{from_root}
use Rattle.aml_laws.specs.StoredParts.{HoldsNothing}
use Rattle.aml_laws.proofs.AnswersEnded.{value_told, value_refused, ends_so}
use Rattle.aml_laws.proofs.ArgumentsInTurn.{takes_none, not_as_many}
use Rattle.aml_laws.proofs.FoundNamesStand.{found_stands}
use Rattle.aml_laws.proofs.NamesGiven.{itself_used}
use Rattle.aml_laws.proofs.ReferencesToNames.{numbered_finds}

module _ {S : Type 0} (accesses : Accesses S) (p : List Seg) (w : State S) (steps : ℕ) (path : List Seg) (e : Entry) where
  -- ---- what holds no value

  itself_called : found w.names.map [] (from_root p) ≡ Ok (path, e) → HoldsNothing e.object → IsNoMethod e.object → called accesses p [] (w, steps) ≡ (Ok (value.Reference (reference.Name e.number)), (w, steps))
  unfolding called invocation_found arguments_found entry_found named_use settle lift give go_on ◌>>=◌
  itself_called finds nothing no_method = rw (finds, takes_none e.object no_method, finds, itself_used path e.number e.object nothing no_method) refl

  pub itself_is_value : found w.names.map [] (from_root p) ≡ Ok (path, e) → HoldsNothing e.object → IsNoMethod e.object
      → (called accesses p [] (w, steps) ≡ (Ok (value.Reference (reference.Name e.number)), (w, steps))) × (evaluated accesses p [] steps w ≡ (Ok (value.Reference (reference.Name e.number), steps), w))
  itself_is_value finds nothing no_method =
      let is = itself_called finds nothing no_method in
      (is, value_told accesses p [] w w steps steps (value.Reference (reference.Name e.number)) is)

  path_handed_out : numbered e.number w.names.map ≡ Some (path, e) → exported accesses (value.Reference (reference.Name e.number)) (w, steps) ≡ (Ok (given.Named path), (w, steps))
  unfolding exported value_exported reference_exported path_of lift
  path_handed_out at = rw at refl

  path_exported : found w.names.map [] (from_root p) ≡ Ok (path, e) → HoldsNothing e.object → IsNoMethod e.object → numbered e.number w.names.map ≡ Some (path, e) → answer_exported accesses p 0 [] (w, steps) ≡ (Ok (given.Named path), (w, steps))
  unfolding answer_exported invocation_found arguments_found entry_found named_use all_imported settle lift give go_on ◌>>=◌
  path_exported finds nothing no_method at = rw (finds, takes_none e.object no_method, finds, itself_used path e.number e.object nothing no_method) (path_handed_out at)

  pub path_is_answer : found w.names.map [] (from_root p) ≡ Ok (path, e) → HoldsNothing e.object → IsNoMethod e.object → Numbered w.names → EndsAs (Ok (given.Named path), (w, steps)) (answered accesses p [] steps w)
  path_is_answer finds nothing no_method apart =
      let stands = found_stands w.names.map [] (from_root p) (path, e) finds in
      ends_so accesses p [] w steps (Ok (given.Named path), (w, steps)) (path_exported finds nothing no_method (numbered_finds w.names path e apart stands.there))

  -- ---- another number of arguments

  value_refused_so : (vs : List Value) (wanted : ℕ) → found w.names.map [] (from_root p) ≡ Ok (path, e) → arguments_of e.object ≡ wanted → (wanted == length vs) ≡ false → called accesses p vs (w, steps) ≡ (Err (refusal.Evaluation ArityChanged), (w, steps))
  unfolding called invocation_found arguments_found entry_found settle lift give go_on ◌>>=◌
  value_refused_so vs wanted finds takes other = rw (finds, takes, other) refl

  answer_refused_so : (gs : List Given) (wanted : ℕ) → found w.names.map [] (from_root p) ≡ Ok (path, e) → arguments_of e.object ≡ wanted → (wanted == length gs) ≡ false → answer_exported accesses p (length gs) gs (w, steps) ≡ (Err (refusal.Evaluation ArityChanged), (w, steps))
  unfolding answer_exported invocation_found arguments_found entry_found settle lift give go_on ◌>>=◌
  answer_refused_so gs wanted finds takes other = rw (finds, takes, other) refl

  module _ (m : Method) (finds : found w.names.map [] (from_root p) ≡ Ok (path, e)) (is : e.object ≡ named.Method m) where
    pub value_of_other_number : (vs : List Value) → (m.flags.byte % 8 ≡ length vs → ⊥) → (called accesses p vs (w, steps) ≡ (Err (refusal.Evaluation ArityChanged), (w, steps))) × (evaluated accesses p vs steps w ≡ (Err (refusal.Evaluation ArityChanged), w))
    value_of_other_number vs other =
        let stops = value_refused_so vs (m.flags.byte % 8) finds (ap arguments_of is) (not_as_many (m.flags.byte % 8) (length vs) other) in
        (stops, value_refused accesses p vs w w steps steps (refusal.Evaluation ArityChanged) stops)

    pub answer_of_other_number : (gs : List Given) → (m.flags.byte % 8 ≡ length gs → ⊥) → EndsAs (Err (refusal.Evaluation ArityChanged), (w, steps)) (answered accesses p gs steps w)
    answer_of_other_number gs other =
        ends_so accesses p gs w steps (Err (refusal.Evaluation ArityChanged), (w, steps)) (answer_refused_so gs (m.flags.byte % 8) finds (ap arguments_of is) (not_as_many (m.flags.byte % 8) (length gs) other))
