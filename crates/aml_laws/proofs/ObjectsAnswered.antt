-- What an object gives and answers that is no control method.
use Rattle.std.specs.Prelude.{◌≡◌, ◌==◌, ◌<◌, ◌≤◌, ◌∷◌, ℕ, suc, nat_lt, true, false, List, [], length, take, Ok, Err, refl}
use Rattle.std.proofs.Common.{arith, ap, ◌∙◌}
use Rattle.std.proofs.lemmas.Bool.Decides.{nat_tests}
use Rattle.ar_space.specs.Accesses.{Accesses}
use Rattle.ar_space.specs.Outcome.{Outcome}
use Rattle.ar_space.specs.Change.{give, settle, go_on, ◌>>=◌}
use Rattle.ar_space.specs.declared.refusal.Refusal.{Refusal}
use Rattle.ar_space.specs.declared.refusal.Refusal.TheVariants as refusal
use Rattle.ar_space.specs.declared.refusal.EvaluationFault.TheVariants.{ArityChanged}
use Rattle.aml_path.specs.declared.segment.Seg.{Seg}
use Rattle.aml_objects.specs.Fields.{bits_of_field}
use Rattle.aml_objects.specs.declared.entry.Entry.{Entry}
use Rattle.aml_objects.specs.declared.entry.Field.{Field}
use Rattle.aml_objects.specs.declared.entry.NamedObject.{NamedObject}
use Rattle.aml_objects.specs.declared.object.Object.TheVariants as object
use Rattle.aml_objects.specs.declared.value.Value.{Value}
use Rattle.aml_objects.specs.declared.value.Value.TheVariants as value
use Rattle.aml_convert.specs.Integers.{bits_of, bytes_of}
use Rattle.aml_namespace.specs.Search.{found}
use Rattle.aml_world.specs.fields.Fields.{field_value, field_given}
use Rattle.aml_world.specs.state.Given as given
use Rattle.aml_world.specs.state.Given.{Given}
use Rattle.aml_world.specs.state.Importing.{all_imported}
use Rattle.aml_world.specs.state.Invocations.{named_use, invocation_found}
use Rattle.aml_world.specs.state.Readings.{arguments_of, entry_found, arguments_found}
use Rattle.aml_world.specs.fields.Regions.{given_of_bits, value_of_bits}
use Rattle.aml_world.specs.state.Run.{lift}
use Rattle.aml_world.specs.state.State.{State}
use Rattle.aml_meaning.specs.Calling.{called, answer_exported, answered}
use Rattle.aml_meaning.specs.Exporting.{exported, field_exported}
use Rattle.aml_meaning.specs.FieldCalls.{field_read}
use Rattle.aml_meaning.specs.Meaning.{meaning}
use Rattle.aml_laws.specs.CallTerms.{IsNoMethod}
use Rattle.aml_laws.specs.Ends.{EndsAs}
use Rattle.aml_laws.specs.FieldNames.{IsField, of_unit, of_buffer, NamesField, bits_read_at}
use Rattle.aml_laws.specs.IntegersOfValues.{lowest_first}
use Rattle.aml_laws.specs.JoinedTerms.{with_object, Fits}
use Rattle.aml_laws.specs.NamesUsed.{IsGivenBy}
use Rattle.aml_laws.specs.NamesWritten.{from_root}
use Rattle.aml_laws.specs.StoredNames.{data_entry}
use Rattle.aml_laws.proofs.AnswersEnded.{ends_so}
use Rattle.aml_laws.proofs.ArgumentsInTurn.{takes_none}
use Rattle.aml_laws.proofs.FieldNamesUsed.{bits_are, number_of_bits, buffer_of_bits}
use Rattle.aml_laws.proofs.IntegersOfValues.{little_is}
use Rattle.aml_laws.proofs.NamesGiven.{given_as}

-- ---- bits as they are handed out

module _ {S : Type 0} (w : State S) (bits : ℕ) where
  number_handed_out : (b : ℕ) (bytes : List ℕ) → bits ≤ bits_of w.width → given_of_bits bits (b ∷ bytes) w ≡ (Ok (given.Integer (lowest_first (take (bytes_of w.width) (b ∷ bytes)))), w)
  unfolding given_of_bits
  number_handed_out b bytes few = let short : nat_lt (bits_of w.width) bits ≡ false = grind (arith, nat_tests) in rw short (ap (λ (n : ℕ). (Ok (given.Integer n), w)) (little_is (bytes_of w.width) (b ∷ bytes)))

  bytes_handed_out : (bytes : List ℕ) → bits_of w.width < bits → given_of_bits bits bytes w ≡ (Ok (given.Bytes bytes), w)
  unfolding given_of_bits
  bytes_handed_out bytes many = let long : nat_lt (bits_of w.width) bits ≡ true = grind (arith, nat_tests) in rw long refl

module _ {S : Type 0} (accesses : Accesses S) (p : List Seg) (w : State S) (steps : ℕ) where
  -- ---- a name that holds a value

  pub value_held : (path : List Seg) (number : ℕ) (v r : Value) → found w.names.map [] (from_root p) ≡ Ok (path, data_entry number v) → IsGivenBy number v r → called accesses p [] (w, steps) ≡ (Ok r, (w, steps))
  unfolding called invocation_found arguments_found entry_found named_use settle lift give go_on ◌>>=◌
  value_held path number v r finds given_so = rw (finds, finds, given_as number v r given_so) refl

  value_given_out : (path : List Seg) (number : ℕ) (v r : Value) (out : Outcome Given) (end : State S × ℕ) → found w.names.map [] (from_root p) ≡ Ok (path, data_entry number v) → IsGivenBy number v r → exported accesses r (w, steps) ≡ (out, end)
      → answer_exported accesses p 0 [] (w, steps) ≡ (out, end)
  unfolding answer_exported invocation_found arguments_found entry_found named_use all_imported settle lift give go_on ◌>>=◌
  value_given_out path number v r out end finds given_so is = rw (finds, finds, given_as number v r given_so) is

  pub value_answered : (path : List Seg) (number : ℕ) (v r : Value) (out : Outcome Given) (end : State S × ℕ) → found w.names.map [] (from_root p) ≡ Ok (path, data_entry number v) → IsGivenBy number v r → exported accesses r (w, steps) ≡ (out, end)
      → EndsAs (out, end) (answered accesses p [] steps w)
  value_answered path number v r out end finds given_so is = ends_so accesses p [] w steps (out, end) (value_given_out path number v r out end finds given_so is)

  -- ---- a field, read inside one call

  field_called : (path : List Seg) (number : ℕ) (o : NamedObject) (f : Field) (bits : ℕ) → found w.names.map [] (from_root p) ≡ Ok (path, record { number = number; object = o }) → IsField o f bits → called accesses p [] (w, steps) ≡ field_read accesses (meaning accesses) 1 f (w, steps)
  unfolding called invocation_found arguments_found entry_found named_use settle lift give go_on ◌>>=◌
  field_called path number _ _ _ finds (of_unit u) = rw (finds, finds) refl
  field_called path number _ _ _ finds (of_buffer b) = rw (finds, finds) refl

  field_given_out : (path : List Seg) (number : ℕ) (o : NamedObject) (f : Field) (bits : ℕ) → found w.names.map [] (from_root p) ≡ Ok (path, record { number = number; object = o }) → IsField o f bits → answer_exported accesses p 0 [] (w, steps) ≡ field_exported accesses f (w, steps)
  unfolding answer_exported invocation_found arguments_found entry_found named_use all_imported settle lift give go_on ◌>>=◌
  field_given_out path number _ _ _ finds (of_unit u) = rw (finds, finds) refl
  field_given_out path number _ _ _ finds (of_buffer b) = rw (finds, finds) refl

  module _ (f : Field) (bits : ℕ) (h : NamesField w [] (from_root p) f bits) where
    value_formed : (bytes : List ℕ) (r : Outcome Value) (after : State S × ℕ) (end : State S) → bits_read_at accesses 1 f (w, steps) ≡ (Ok bytes, after) → value_of_bits (bits_of_field f) bytes after.0 ≡ (r, end) → called accesses p [] (w, steps) ≡ (r, (end, after.1))
    unfolding field_value lift go_on ◌>>=◌
    value_formed bytes r after end is makes = field_called h.path h.number h.object f bits h.finds h.is ∙ rw (is, makes) refl

    answer_formed : (bytes : List ℕ) (r : Outcome Given) (after : State S × ℕ) → bits_read_at accesses 1 f (w, steps) ≡ (Ok bytes, after) → given_of_bits (bits_of_field f) bytes after.0 ≡ (r, after.0) → EndsAs (r, after) (answered accesses p [] steps w)
    unfolding field_given lift go_on ◌>>=◌
    answer_formed bytes r after is makes = ends_so accesses p [] w steps (r, after) (field_given_out h.path h.number h.object f bits h.finds h.is ∙ rw (is, makes) refl)

    pub integer_answered : (b : ℕ) (bytes : List ℕ) (after : State S × ℕ) → bits_read_at accesses 1 f (w, steps) ≡ (Ok (b ∷ bytes), after) → bits ≤ bits_of after.0.width
        → (called accesses p [] (w, steps) ≡ (Ok (value.Integer (lowest_first (take (bytes_of after.0.width) (b ∷ bytes)))), after)) × EndsAs (Ok (given.Integer (lowest_first (take (bytes_of after.0.width) (b ∷ bytes)))), after) (answered accesses p [] steps w)
    integer_answered b bytes after is few = (
      value_formed (b ∷ bytes) (Ok (value.Integer (lowest_first (take (bytes_of after.0.width) (b ∷ bytes))))) after after.0 is (rw (bits_are h.object f bits h.is) (number_of_bits after.0 bits b bytes few)),
      answer_formed (b ∷ bytes) (Ok (given.Integer (lowest_first (take (bytes_of after.0.width) (b ∷ bytes))))) after is (rw (bits_are h.object f bits h.is) (number_handed_out after.0 bits b bytes few)),
    )

    pub buffer_formed : (bytes : List ℕ) (after : State S × ℕ) → bits_read_at accesses 1 f (w, steps) ≡ (Ok bytes, after) → bits_of after.0.width < bits → Fits after.0 bytes
        → called accesses p [] (w, steps) ≡ (Ok (value.Buffer (length after.0.objects)), (with_object after.0 (object.Buffer bytes), after.1))
    buffer_formed bytes after is many fits =
        value_formed bytes (Ok (value.Buffer (length after.0.objects))) after (with_object after.0 (object.Buffer bytes)) is (rw (bits_are h.object f bits h.is) (buffer_of_bits after.0 bits bytes many fits))

    pub bytes_answered : (bytes : List ℕ) (after : State S × ℕ) → bits_read_at accesses 1 f (w, steps) ≡ (Ok bytes, after) → bits_of after.0.width < bits → EndsAs (Ok (given.Bytes bytes), after) (answered accesses p [] steps w)
    bytes_answered bytes after is many = answer_formed bytes (Ok (given.Bytes bytes)) after is (rw (bits_are h.object f bits h.is) (bytes_handed_out after.0 bits bytes many))

    unread_value : (e : Refusal) (after : State S × ℕ) → bits_read_at accesses 1 f (w, steps) ≡ (Err e, after) → called accesses p [] (w, steps) ≡ (Err e, after)
    unfolding field_value lift go_on ◌>>=◌
    unread_value e after is = field_called h.path h.number h.object f bits h.finds h.is ∙ rw is refl

    unread_answer : (e : Refusal) (after : State S × ℕ) → bits_read_at accesses 1 f (w, steps) ≡ (Err e, after) → EndsAs (Err e, after) (answered accesses p [] steps w)
    unfolding field_given lift go_on ◌>>=◌
    unread_answer e after is = ends_so accesses p [] w steps (Err e, after) (field_given_out h.path h.number h.object f bits h.finds h.is ∙ rw is refl)

    pub unread : (e : Refusal) (after : State S × ℕ) → bits_read_at accesses 1 f (w, steps) ≡ (Err e, after) → (called accesses p [] (w, steps) ≡ (Err e, after)) × EndsAs (Err e, after) (answered accesses p [] steps w)
    unread e after is = (unread_value e after is, unread_answer e after is)

  -- ---- arguments that it doesn't take

  some_are_not_none : (k : ℕ) → (0 == suc k) ≡ false
  some_are_not_none k = grind (arith, nat_tests)

  no_value : (path : List Seg) (e : Entry) (v : Value) (vs : List Value) → found w.names.map [] (from_root p) ≡ Ok (path, e) → arguments_of e.object ≡ 0 → called accesses p (v ∷ vs) (w, steps) ≡ (Err (refusal.Evaluation ArityChanged), (w, steps))
  unfolding called invocation_found arguments_found entry_found settle lift give go_on ◌>>=◌
  no_value path e v vs finds none = rw (finds, none, some_are_not_none (length vs)) refl

  no_answer : (path : List Seg) (e : Entry) (g : Given) (gs : List Given) → found w.names.map [] (from_root p) ≡ Ok (path, e) → arguments_of e.object ≡ 0 → answer_exported accesses p (length (g ∷ gs)) (g ∷ gs) (w, steps) ≡ (Err (refusal.Evaluation ArityChanged), (w, steps))
  unfolding answer_exported invocation_found arguments_found entry_found settle lift give go_on ◌>>=◌
  no_answer path e g gs finds none = rw (finds, none, some_are_not_none (length gs)) refl

  pub takes_no_arguments : (path : List Seg) (e : Entry) → found w.names.map [] (from_root p) ≡ Ok (path, e) → IsNoMethod e.object → (v : Value) (vs : List Value) (g : Given) (gs : List Given)
      → (called accesses p (v ∷ vs) (w, steps) ≡ (Err (refusal.Evaluation ArityChanged), (w, steps))) × EndsAs (Err (refusal.Evaluation ArityChanged), (w, steps)) (answered accesses p (g ∷ gs) steps w)
  takes_no_arguments path e finds none v vs g gs = (
    no_value path e v vs finds (takes_none e.object none),
    ends_so accesses p (g ∷ gs) w steps (Err (refusal.Evaluation ArityChanged), (w, steps)) (no_answer path e g gs finds (takes_none e.object none)),
  )
