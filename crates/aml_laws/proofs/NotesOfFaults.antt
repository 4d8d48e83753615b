-- Over a space with notes, a refusal that is explained by its last access is told by the notes.
use Rattle.std.specs.Prelude.{◌≡◌, List, [], ◌∷◌, ◌++◌, Some, None, Ok, Err, refl}
use Rattle.std.proofs.Common.{append-nil, append_assoc, sym, ap, ◌∙◌}
use Rattle.std.proofs.lemmas.List.Elements.{All-nil, All-push}
use Rattle.ar_space.specs.declared.refusal.SpaceFault.{SpaceFault}
use Rattle.ar_space.specs.declared.refusal.Refusal.{Refusal}
use Rattle.ar_space.specs.declared.refusal.Refusal.TheVariants as refusal
use Rattle.ar_space.specs.Accesses.{Accesses}
use Rattle.ar_space.specs.Outcome.{Outcome}
use Rattle.recorded_space.specs.declared.exchange.Exchange.{Exchange}
use Rattle.recorded_space.specs.declared.exchange.Exchange.TheVariants as note
use Rattle.aml_laws.specs.Answered.{Answered}
use Rattle.aml_laws.specs.Answered as by
use Rattle.aml_laws.specs.SpaceFaults.{Faults, read, written}
use Rattle.aml_laws.specs.Noted.{WithNotes, noted, fault_in, fault_of, AllAnswered, TellsNotes}
use Rattle.aml_laws.proofs.FaultsOfChanges.{Explained, RefusalExplained}

-- one note more
one_more : (start made notes after : List Exchange) (note : Exchange) → notes ≡ start ++ made → after ≡ notes ++ note ∷ [] → after ≡ start ++ (made ++ note ∷ [])
one_more start made notes after note is more = more ∙ ap (λ list. list ++ note ∷ []) is ∙ append_assoc start made (note ∷ [])

module _ {S : Type 0} (accesses : Accesses S) where
  abbrev pub NotesAnswered : WithNotes S → WithNotes S → Type 0
  NotesAnswered s t = (made : List Exchange) × (t.1 ≡ s.1 ++ made) × AllAnswered made

  more_answered : (s t u : WithNotes S) (note : Exchange) → u.1 ≡ t.1 ++ note ∷ [] → fault_of note ≡ None → NotesAnswered s t → NotesAnswered s u
  more_answered s t u note more fine (made, are, all) = (made ++ note ∷ [], one_more s.1 made t.1 u.1 note are more, All-push (λ x. fault_of x ≡ None) made note all fine)

  answered_notes : (s t : WithNotes S) → Answered (noted accesses) s t → NotesAnswered s t
  answered_notes s t by.none = ([], sym (append-nil s.1), All-nil _)
  answered_notes s t (by.read u place width value h is) = more_answered s u ((noted accesses).reads u place width).1 (note.Read place width (accesses.reads u.0 place width).0) refl (ap fault_in is) (answered_notes s u h)
  answered_notes s t (by.written u place width value h is) = more_answered s u ((noted accesses).writes u place width value).1 (note.Write place width value (accesses.writes u.0 place width value).0) refl (ap fault_in is) (answered_notes s u h)

  -- an access that is answered with a fault is noted with it
  fault_noted : (fault : SpaceFault) (t u : WithNotes S) → Faults (noted accesses) fault t u → (note : Exchange) × (u.1 ≡ t.1 ++ note ∷ []) × (fault_of note ≡ Some fault)
  fault_noted fault t u (read place width is) = (note.Read place width (accesses.reads t.0 place width).0, ap (λ x. x.1.1) (sym is), ap (λ x. fault_in x.0) is)
  fault_noted fault t u (written place width value is) = (note.Write place width value (accesses.writes t.0 place width value).0, ap (λ x. x.1.1) (sym is), ap (λ x. fault_in x.0) is)

  ending_told : {A : Type 0} (fault : SpaceFault) (s t u : WithNotes S) → NotesAnswered s t → (note : Exchange) × (u.1 ≡ t.1 ++ note ∷ []) × (fault_of note ≡ Some fault) → TellsNotes {A = A} (Err (refusal.Space fault)) s u
  ending_told fault s t u (made, are, all) (note, more, faults) = record {
    made = made ++ note ∷ [];
    are = one_more s.1 made t.1 u.1 note are more;
    told = record { earlier = made; last = note; are = refl; answered = all; faults = faults };
  }

  refusal_told : {A : Type 0} (e : Refusal) (s t : WithNotes S) → RefusalExplained (noted accesses) e s t → TellsNotes {A = A} (Err e) s t
  refusal_told (refusal.Space fault) s t h = ending_told fault s h.last t (answered_notes s h.last h.reached) (fault_noted fault h.last t h.faults)
  refusal_told (refusal.Input fault) s t h = let notes = answered_notes s t h.1 in record { made = notes.0; are = notes.1; told = notes.2 }
  refusal_told _ s t h = let notes = answered_notes s t h in record { made = notes.0; are = notes.1; told = notes.2 }

  pub explained_told : {A : Type 0} (x : Outcome A) (s t : WithNotes S) → Explained (noted accesses) x s t → TellsNotes x s t
  explained_told (Ok a) s t h = let notes = answered_notes s t h in record { made = notes.0; are = notes.1; told = notes.2 }
  explained_told (Err e) s t h = refusal_told e s t h
