-- What \_OSI answers to callers.
use Rattle.std.specs.Prelude.{◌≡◌, ℕ, zero, suc, List, [], ◌∷◌, ◌++◌, length, slice_get, Some, Ok, Err, refl}
use Rattle.std.proofs.Common.{inl, inr, ap, sym, subst, ◌∙◌}
use Rattle.ar_space.specs.Accesses.{Accesses}
use Rattle.ar_space.specs.Change.{give, stop, settle, go_on, ◌>>=◌}
use Rattle.ar_space.specs.Outcome.{Outcome, seen}
use Rattle.ar_space.specs.declared.refusal.Refusal.TheVariants as refusal
use Rattle.ar_space.specs.declared.refusal.EvaluationFault.TheVariants.{ArityChanged}
use Rattle.ar_space.specs.declared.refusal.ValueFault.TheVariants.{WrongType}
use Rattle.aml_path.specs.declared.segment.Seg.{Seg}
use Rattle.aml_objects.specs.Methods.{arguments_taken}
use Rattle.aml_objects.specs.Objects.{Objects, make_string, make_buffer, make_package}
use Rattle.aml_objects.specs.declared.entry.Entry.{Entry}
use Rattle.aml_objects.specs.declared.object.Element.{Element}
use Rattle.aml_objects.specs.declared.object.Object.{Object}
use Rattle.aml_objects.specs.declared.object.Object.TheVariants as object
use Rattle.aml_objects.specs.declared.value.Value.{Value}
use Rattle.aml_objects.specs.declared.value.Value.TheVariants as value
use Rattle.aml_objects.specs.declared.value.Reference.TheVariants as reference
use Rattle.aml_convert.specs.Integers.{truth}
use Rattle.aml_namespace.specs.Search.{found}
use Rattle.aml_world.specs.state.Given as given
use Rattle.aml_world.specs.state.Given.{Given, Givens}
use Rattle.aml_world.specs.state.Importing.{reference_to, imported_by, each_imported, elements_imported, package_imported, taken_back, imported, all_imported}
use Rattle.aml_world.specs.state.Invocations.{named_use, invocation_found}
use Rattle.aml_world.specs.state.Osi.{is_known, osi_answered}
use Rattle.aml_world.specs.state.Readings.{absolute, integer_kept, entry_found, arguments_found}
use Rattle.aml_world.specs.state.Run.{lift}
use Rattle.aml_world.specs.state.State.{State, on_objects}
use Rattle.aml_meaning.specs.Calling.{called, answer_exported, answered}
use Rattle.aml_meaning.specs.Exporting.{value_exported, exported}
use Rattle.aml_laws.specs.CallTerms.{HandedInTurn, no_data, first_data}
use Rattle.aml_laws.specs.Ends.{EndsAs}
use Rattle.aml_laws.specs.JoinedTerms.{with_object, Fits}
use Rattle.aml_laws.specs.NamesUsed.{IsAmong, FindsOsi}
use Rattle.aml_laws.specs.NamesWritten.{from_root}
use Rattle.aml_laws.specs.TestTerms.{IsTruth}
use Rattle.aml_laws.proofs.AnswersEnded.{ends_so}
use Rattle.aml_laws.proofs.ArgumentsHanded.{handed_in_turn}
use Rattle.aml_laws.proofs.ArgumentsInTurn.{not_as_many}
use Rattle.aml_laws.proofs.CopiesApart.{there_now}
use Rattle.aml_laws.proofs.LimitsTaken as limits
use Rattle.aml_laws.proofs.ObjectsMade.{MadeOrNot, buffer_made, package_made}
use Rattle.aml_laws.proofs.OsiAsked.{among_so, not_among, refused_by}
use Rattle.aml_laws.proofs.TestsTold.{truth_by}

-- ---- what is handed in and is no text is no string

abbrev IsNoString : Outcome Value → Type 0
IsNoString (Ok v) = (o : ℕ) → v ≡ value.String o → ⊥
IsNoString (Err e) = Unit {0}

no_string_made : (kind : ℕ → Value) (x : Object) (h : Objects) (p : Outcome Value × Objects) → ((n o : ℕ) → kind n ≡ value.String o → ⊥) → MadeOrNot kind x h p → IsNoString p.0
no_string_made kind x h p apart (inl (e, is)) = subst (λ (q : Outcome Value × Objects). IsNoString q.0) (sym is) tt
no_string_made kind x h p apart (inr is) = subst (λ (q : Outcome Value × Objects). IsNoString q.0) (sym is) (apart (length h))

module _ {S : Type 0} where
  bytes_no_string : (bytes : List ℕ) (w : State S) → IsNoString (on_objects (make_buffer bytes) w).0
  unfolding on_objects
  bytes_no_string bytes w = no_string_made value.Buffer (object.Buffer bytes) w.objects (make_buffer bytes w.objects) (λ n o is. absurd (cc is)) (buffer_made bytes w.objects)

  elements_no_string : (r : Outcome (List Element)) (w : State S) → IsNoString (go_on r w (λ es. on_objects (make_package es))).0
  unfolding go_on on_objects
  elements_no_string (Ok es) w = no_string_made value.Package (object.Package es) w.objects (make_package es w.objects) (λ n o is. absurd (cc is)) (package_made es w.objects)
  elements_no_string (Err e) w = tt

  package_no_string : (deep : ℕ) (gs : Givens) (w : State S) → IsNoString (package_imported deep gs w).0
  unfolding package_imported elements_imported stop ◌>>=◌
  package_no_string zero gs w = tt
  package_no_string (suc deep) gs w = elements_no_string (each_imported (package_imported deep) gs [] w).0 (each_imported (package_imported deep) gs [] w).1

  found_no_string : (r : Outcome Entry) (w : State S) → IsNoString (go_on r w (λ (e : Entry). give (value.Reference (reference.Name e.number)))).0
  unfolding go_on give
  found_no_string (Ok e) w = λ o is. absurd (cc is)
  found_no_string (Err e) w = tt

  path_no_string : (p : List Seg) (w : State S) → IsNoString (reference_to p w).0
  unfolding reference_to entry_found ◌>>=◌
  path_no_string p w = found_no_string (seen (λ f. f.1) (found w.names.map [] (absolute p))) w

  given_no_string : (deep : ℕ) (g : Given) (w : State S) → ((text : List ℕ) → g ≡ given.Text text → ⊥) → IsNoString (imported_by (package_imported deep) g w).0
  unfolding give stop integer_kept
  given_no_string deep given.Nothing w other = λ o is. absurd (cc is)
  given_no_string deep (given.Integer n) w other = λ o is. absurd (cc is)
  given_no_string deep (given.Text text) w other = absurd (other text refl)
  given_no_string deep (given.Bytes bytes) w other = bytes_no_string bytes w
  given_no_string deep (given.Package gs) w other = package_no_string deep gs w
  given_no_string deep (given.Named p) w other = path_no_string p w
  given_no_string deep given.Reference w other = tt

  still_no_string : (n : ℕ) (r : Outcome Value) (w : State S) (v : Value) (after : State S) → IsNoString r → taken_back n (r, w) ≡ (Ok v, after) → (o : ℕ) → v ≡ value.String o → ⊥
  still_no_string n (Ok x) w v after none is o same = none o (so (ap (λ (p : Outcome Value × State S). p.0) is) ∙ same)
    where
      so : ◌≡◌ {A = Outcome Value} (Ok x) (Ok v) → x ≡ v
      so e = cc e
  still_no_string n (Err e) w v after none is o same = absurd (cc (ap (λ (p : Outcome Value × State S). p.0) is))

  no_string_handed_in : (g : Given) (w : State S) (v : Value) (after : State S) → ((text : List ℕ) → g ≡ given.Text text → ⊥) → imported g w ≡ (Ok v, after) → (o : ℕ) → v ≡ value.String o → ⊥
  unfolding imported
  no_string_handed_in g w v after other is = still_no_string (length w.objects) (imported_by (package_imported 64) g w).0 (imported_by (package_imported 64) g w).1 v after (given_no_string 64 g w other) is

  text_in : (w : State S) (text : List ℕ) → Fits w text → imported (given.Text text) w ≡ (Ok (value.String (length w.objects)), with_object w (object.String text))
  unfolding imported on_objects
  text_in w text fits = ap (λ (p : Outcome Value × Objects). taken_back (length w.objects) (p.0, record w { objects = p.1 })) (limits.string_made text w.objects fits.0 fits.1)

-- ---- what it answers

module _ {S : Type 0} (accesses : Accesses S) (p : List Seg) (w : State S) (steps : ℕ) (osi : FindsOsi w [] (from_root p)) where
  other_than_taken : (count : ℕ) → (count ≡ 1 → ⊥) → arguments_taken osi.flags ≡ count → ⊥
  other_than_taken count other same = other (sym same ∙ osi.takes_one)

  -- values

  told_so : (o : ℕ) (text : List ℕ) → slice_get w.objects o ≡ Some (object.String text) → called accesses p (value.String o ∷ []) (w, steps) ≡ (Ok (value.Integer (truth w.width (is_known w.osi text))), (w, steps))
  unfolding called invocation_found arguments_found entry_found named_use osi_answered settle lift give go_on ◌>>=◌
  told_so o text holds = rw (osi.finds, osi.takes_one, osi.finds, holds) refl

  pub text_told : (o : ℕ) (text : List ℕ) → slice_get w.objects o ≡ Some (object.String text) → (k : ℕ) × IsTruth w.width (IsAmong text w.osi) k × (called accesses p (value.String o ∷ []) (w, steps) ≡ (Ok (value.Integer k), (w, steps)))
  text_told o text holds = (truth w.width (is_known w.osi text), truth_by w.width (is_known w.osi text) (IsAmong text w.osi) (among_so w.osi text) (not_among w.osi text), told_so o text holds)

  pub no_string_refused : (v : Value) → ((o : ℕ) → v ≡ value.String o → ⊥) → called accesses p (v ∷ []) (w, steps) ≡ (Err (refusal.Value WrongType), (w, steps))
  unfolding called invocation_found arguments_found entry_found named_use osi_answered settle lift give go_on ◌>>=◌
  no_string_refused v other = rw (osi.finds, osi.takes_one, osi.finds, refused_by w.width w.osi w.objects v other) refl

  pub other_number_refused : (vs : List Value) → (length vs ≡ 1 → ⊥) → called accesses p vs (w, steps) ≡ (Err (refusal.Evaluation ArityChanged), (w, steps))
  unfolding called invocation_found arguments_found entry_found settle lift give go_on ◌>>=◌
  other_number_refused vs other = rw (osi.finds, not_as_many (arguments_taken osi.flags) (length vs) (other_than_taken (length vs) other)) refl

  -- what is handed in

  only : (g : Given) (v : Value) (after : State S) → imported g w ≡ (Ok v, after) → all_imported (g ∷ []) [] w ≡ (Ok (v ∷ []), after)
  only g v after is = handed_in_turn (g ∷ []) w after (v ∷ []) (first_data g [] v [] w after after is (no_data after))

  answered_so : (text : List ℕ) → Fits w text → answer_exported accesses p 1 (given.Text text ∷ []) (w, steps) ≡ (Ok (given.Integer (truth w.width (is_known w.osi text))), (with_object w (object.String text), steps))
  unfolding answer_exported invocation_found arguments_found entry_found named_use osi_answered exported value_exported settle lift give go_on ◌>>=◌
  answered_so text fits = rw (osi.finds, osi.takes_one, osi.finds, only (given.Text text) (value.String (length w.objects)) (with_object w (object.String text)) (text_in w text fits), there_now w.objects (object.String text)) refl

  pub text_answered : (text : List ℕ) → Fits w text → (k : ℕ) × IsTruth w.width (IsAmong text w.osi) k × EndsAs (Ok (given.Integer k), (with_object w (object.String text), steps)) (answered accesses p (given.Text text ∷ []) steps w)
  text_answered text fits = (
    truth w.width (is_known w.osi text),
    truth_by w.width (is_known w.osi text) (IsAmong text w.osi) (among_so w.osi text) (not_among w.osi text),
    ends_so accesses p (given.Text text ∷ []) w steps (Ok (given.Integer (truth w.width (is_known w.osi text))), (with_object w (object.String text), steps)) (answered_so text fits),
  )

  refused_so : (g : Given) (v : Value) (after : State S) → imported g w ≡ (Ok v, after) → ((o : ℕ) → v ≡ value.String o → ⊥) → answer_exported accesses p 1 (g ∷ []) (w, steps) ≡ (Err (refusal.Value WrongType), (after, steps))
  unfolding answer_exported invocation_found arguments_found entry_found named_use osi_answered settle lift give go_on ◌>>=◌
  refused_so g v after is other = rw (osi.finds, osi.takes_one, osi.finds, only g v after is, refused_by after.width after.osi after.objects v other) refl

  pub no_text_answered : (g : Given) → ((text : List ℕ) → g ≡ given.Text text → ⊥) → (v : Value) (after : State S) → imported g w ≡ (Ok v, after) → EndsAs (Err (refusal.Value WrongType), (after, steps)) (answered accesses p (g ∷ []) steps w)
  no_text_answered g other v after is = ends_so accesses p (g ∷ []) w steps (Err (refusal.Value WrongType), (after, steps)) (refused_so g v after is (no_string_handed_in g w v after other is))

  number_so : (gs : List Given) → (length gs ≡ 1 → ⊥) → answer_exported accesses p (length gs) gs (w, steps) ≡ (Err (refusal.Evaluation ArityChanged), (w, steps))
  unfolding answer_exported invocation_found arguments_found entry_found settle lift give go_on ◌>>=◌
  number_so gs other = rw (osi.finds, not_as_many (arguments_taken osi.flags) (length gs) (other_than_taken (length gs) other)) refl

  pub other_number_answered : (gs : List Given) → (length gs ≡ 1 → ⊥) → EndsAs (Err (refusal.Evaluation ArityChanged), (w, steps)) (answered accesses p gs steps w)
  other_number_answered gs other = ends_so accesses p gs w steps (Err (refusal.Evaluation ArityChanged), (w, steps)) (number_so gs other)
