-- A run over a record, and one over a register space that gives its answers.
use Rattle.std.specs.Prelude.{◌≡◌, ℕ, ◌+◌, List, [], ◌∷◌, ◌++◌, length, drop, Option, Some, None, Result, Err, slice_get, refl}
use Rattle.std.proofs.Common.{◌∙◌, sym, subst, ap, append_assoc}
use Rattle.std.proofs.lemmas.List.{length_push}
use Rattle.ar_space.specs.declared.refusal.SpaceFault.{SpaceFault}
use Rattle.ar_space.specs.declared.refusal.SpaceFault.TheVariants.{Device}
use Rattle.ar_space.specs.declared.space.Width.{Width}
use Rattle.ar_space.specs.declared.space.Place.{Place}
use Rattle.ar_space.specs.Accesses.{Accesses}
use Rattle.space_trace.specs.declared.access.Access.{Access}
use Rattle.space_trace.specs.declared.access.Access.TheVariants.{Read, Write}
use Rattle.recorded_space.specs.declared.exchange.Exchange.{Exchange}
use Rattle.recorded_space.specs.Exchanges.{read_answer, write_answer}
use Rattle.recorded_space.specs.Recordings.{Recording, begun, recorded, said_by}
use Rattle.recorded_space.specs.Deciding.{Deciding, ends, reads, writes, outcome, made, Gives}
use Rattle.recorded_space.proofs.Entries.{got_behind, found_read, found_write}

abbrev pub standing : List Exchange → ℕ → Recording
standing entries used = record { entries = entries; used = used; missing = None }

abbrev stopped : List Exchange → ℕ → Access → Recording
stopped entries used access = record { entries = entries; used = used; missing = Some access }

-- once an access is missing nothing changes
stays : {A : Type 0} (what : Deciding A) (entries : List Exchange) (used : ℕ) (access : Access) → (outcome recorded what (stopped entries used access)).1 ≡ stopped entries used access
unfolding outcome
stays (ends a) entries used access = refl
stays (reads place width next) entries used access = stays (next (Err Device)) entries used access
stays (writes place width value next) entries used access = stays (next (Err Device)) entries used access

pub stands : {A : Type 0} (now : Recording) (what : Deciding A) (access : Access) → now.missing ≡ Some access → (outcome recorded what now).1 ≡ now
stands now what access is =
    let same : now ≡ stopped now.entries now.used access = ap (λ (m : Option Access). record now { missing = m }) is in
    subst (λ (r : Recording). (outcome recorded what r).1 ≡ r) (sym same) (stays what now.entries now.used access)

module _ {A : Type 0} (entries : List Exchange) (used : ℕ) where
  pub read_stops : (place : Place) (width : Width) (next : Result ℕ SpaceFault → Deciding A) → said_by (slice_get entries used) (read_answer place width) ≡ None
      → (outcome recorded (reads place width next) (standing entries used)).1 ≡ stopped entries used (Read place width)
  unfolding outcome
  read_stops place width next is = rw (outcome, is) (stays (next (Err Device)) entries used (Read place width))

  pub write_stops : (place : Place) (width : Width) (value : ℕ) (next : Result (Unit {0}) SpaceFault → Deciding A) → said_by (slice_get entries used) (write_answer place width value) ≡ None
      → (outcome recorded (writes place width value next) (standing entries used)).1 ≡ stopped entries used (Write place width value)
  unfolding outcome
  write_stops place width value next is = rw (outcome, is) (stays (next (Err Device)) entries used (Write place width value))

  pub read_goes : (place : Place) (width : Width) (next : Result ℕ SpaceFault → Deciding A) (answer : Result ℕ SpaceFault) → said_by (slice_get entries used) (read_answer place width) ≡ Some answer
      → outcome recorded (reads place width next) (standing entries used) ≡ outcome recorded (next answer) (standing entries (used + 1))
  unfolding outcome
  read_goes place width next answer is = rw (outcome, is) refl

  pub write_goes : (place : Place) (width : Width) (value : ℕ) (next : Result (Unit {0}) SpaceFault → Deciding A) (answer : Result (Unit {0}) SpaceFault) → said_by (slice_get entries used) (write_answer place width value) ≡ Some answer
      → outcome recorded (writes place width value next) (standing entries used) ≡ outcome recorded (next answer) (standing entries (used + 1))
  unfolding outcome
  write_goes place width value next answer is = rw (outcome, is) refl

module _ {S : Type 0} (accesses : Accesses S) (entries : List Exchange) where
  -- ---- what the answers of a record say of the space

  pub read_given : (used : ℕ) (s : S) (place : Place) (width : Width) (answer : Result ℕ SpaceFault) → said_by (slice_get entries used) (read_answer place width) ≡ Some answer
      → Gives accesses (drop used entries) s → ((accesses.reads s place width).0 ≡ answer) × Gives accesses (drop (used + 1) entries) (accesses.reads s place width).1
  unfolding Gives
  read_given used s place width answer is gives = rw (found_read entries used place width answer is) at gives

  pub write_given : (used : ℕ) (s : S) (place : Place) (width : Width) (value : ℕ) (answer : Result (Unit {0}) SpaceFault) → said_by (slice_get entries used) (write_answer place width value) ≡ Some answer
      → Gives accesses (drop used entries) s → ((accesses.writes s place width value).0 ≡ answer) × Gives accesses (drop (used + 1) entries) (accesses.writes s place width value).1
  unfolding Gives
  write_given used s place width value answer is gives = rw (found_write entries used place width value answer is) at gives

module _ {S A : Type 0} (accesses : Accesses S) (s : S) where
  -- ---- the same step over the space

  read_over : (place : Place) (width : Width) (next : Result ℕ SpaceFault → Deciding A) (answer : Result ℕ SpaceFault) → (accesses.reads s place width).0 ≡ answer
      → outcome accesses (reads place width next) s ≡ outcome accesses (next answer) (accesses.reads s place width).1
  unfolding outcome
  read_over place width next answer is = ap (λ given. outcome accesses (next given) (accesses.reads s place width).1) is

  write_over : (place : Place) (width : Width) (value : ℕ) (next : Result (Unit {0}) SpaceFault → Deciding A) (answer : Result (Unit {0}) SpaceFault) → (accesses.writes s place width value).0 ≡ answer
      → outcome accesses (writes place width value next) s ≡ outcome accesses (next answer) (accesses.writes s place width value).1
  unfolding outcome
  write_over place width value next answer is = ap (λ given. outcome accesses (next given) (accesses.writes s place width value).1) is

  pub read_made : (place : Place) (width : Width) (next : Result ℕ SpaceFault → Deciding A) (answer : Result ℕ SpaceFault) → (accesses.reads s place width).0 ≡ answer
      → made accesses (reads place width next) s ≡ Read place width ∷ made accesses (next answer) (accesses.reads s place width).1
  unfolding made
  read_made place width next answer is = ap (λ given. Read place width ∷ made accesses (next given) (accesses.reads s place width).1) is

  pub write_made : (place : Place) (width : Width) (value : ℕ) (next : Result (Unit {0}) SpaceFault → Deciding A) (answer : Result (Unit {0}) SpaceFault) → (accesses.writes s place width value).0 ≡ answer
      → made accesses (writes place width value next) s ≡ Write place width value ∷ made accesses (next answer) (accesses.writes s place width value).1
  unfolding made
  write_made place width value next answer is = ap (λ given. Write place width value ∷ made accesses (next given) (accesses.writes s place width value).1) is

module _ {S A : Type 0} (accesses : Accesses S) (entries : List Exchange) where
  -- ---- no access is missing

  Agrees : Deciding A → Type 0
  Agrees what = (used : ℕ) (s : S) → Gives accesses (drop used entries) s → (outcome recorded what (standing entries used)).1.missing ≡ None
      → (outcome recorded what (standing entries used)).0 ≡ (outcome accesses what s).0

  read_agrees : (place : Place) (width : Width) (next : Result ℕ SpaceFault → Deciding A) → ((answer : Result ℕ SpaceFault) → Agrees (next answer)) → (used : ℕ) (s : S) (said : Option (Result ℕ SpaceFault))
      → said_by (slice_get entries used) (read_answer place width) ≡ said → Gives accesses (drop used entries) s → (outcome recorded (reads place width next) (standing entries used)).1.missing ≡ None
      → (outcome recorded (reads place width next) (standing entries used)).0 ≡ (outcome accesses (reads place width next) s).0
  unfolding Agrees
  read_agrees place width next then used s None is gives none = absurd (cc (ap (λ (r : Recording). r.missing) (read_stops entries used place width next is), none))
  read_agrees place width next then used s (Some answer) is gives none =
      let given = read_given accesses entries used s place width answer is gives in
      let goes = read_goes entries used place width next answer is in
      let rest = then answer (used + 1) (accesses.reads s place width).1 given.1 (rw goes at none) in
      ap (λ x. x.0) goes ∙ rest ∙ sym (ap (λ x. x.0) (read_over accesses s place width next answer given.0))

  write_agrees : (place : Place) (width : Width) (value : ℕ) (next : Result (Unit {0}) SpaceFault → Deciding A) → ((answer : Result (Unit {0}) SpaceFault) → Agrees (next answer)) → (used : ℕ) (s : S) (said : Option (Result (Unit {0}) SpaceFault))
      → said_by (slice_get entries used) (write_answer place width value) ≡ said → Gives accesses (drop used entries) s → (outcome recorded (writes place width value next) (standing entries used)).1.missing ≡ None
      → (outcome recorded (writes place width value next) (standing entries used)).0 ≡ (outcome accesses (writes place width value next) s).0
  unfolding Agrees
  write_agrees place width value next then used s None is gives none = absurd (cc (ap (λ (r : Recording). r.missing) (write_stops entries used place width value next is), none))
  write_agrees place width value next then used s (Some answer) is gives none =
      let given = write_given accesses entries used s place width value answer is gives in
      let goes = write_goes entries used place width value next answer is in
      let rest = then answer (used + 1) (accesses.writes s place width value).1 given.1 (rw goes at none) in
      ap (λ x. x.0) goes ∙ rest ∙ sym (ap (λ x. x.0) (write_over accesses s place width value next answer given.0))

  whole_from : (what : Deciding A) → Agrees what
  unfolding Agrees outcome
  whole_from (ends a) used s gives none = refl
  whole_from (reads place width next) used s gives none = read_agrees place width next (λ answer. whole_from (next answer)) used s (said_by (slice_get entries used) (read_answer place width)) refl gives none
  whole_from (writes place width value next) used s gives none = write_agrees place width value next (λ answer. whole_from (next answer)) used s (said_by (slice_get entries used) (write_answer place width value)) refl gives none

  pub whole : (s : S) (what : Deciding A) → Gives accesses entries s → (outcome recorded what (begun entries)).1.missing ≡ None → (outcome recorded what (begun entries)).0 ≡ (outcome accesses what s).0
  unfolding Agrees
  whole s what gives none = whole_from what 0 s gives none

  -- ---- the access that is missing, where these were made

  Tells : Deciding A → Type 0
  Tells what = (used : ℕ) (s : S) (done : List Access) (access : Access) → Gives accesses (drop used entries) s → length done ≡ used
      → (outcome recorded what (standing entries used)).1.missing ≡ Some access → slice_get (done ++ made accesses what s) (outcome recorded what (standing entries used)).1.used ≡ Some access

  read_tells : (place : Place) (width : Width) (next : Result ℕ SpaceFault → Deciding A) → ((answer : Result ℕ SpaceFault) → Tells (next answer)) → (used : ℕ) (s : S) (said : Option (Result ℕ SpaceFault)) (done : List Access) (access : Access)
      → said_by (slice_get entries used) (read_answer place width) ≡ said → Gives accesses (drop used entries) s → length done ≡ used
      → (outcome recorded (reads place width next) (standing entries used)).1.missing ≡ Some access → slice_get (done ++ made accesses (reads place width next) s) (outcome recorded (reads place width next) (standing entries used)).1.used ≡ Some access
  unfolding Tells
  read_tells place width next then used s None done access is gives count some =
      let stops = read_stops entries used place width next is in
      let same : Read place width ≡ access = cc (ap (λ (r : Recording). r.missing) stops, some) in
      let number : (outcome recorded (reads place width next) (standing entries used)).1.used ≡ length done = ap (λ (r : Recording). r.used) stops ∙ sym count in
      rw (number, read_made accesses s place width next (accesses.reads s place width).0 refl) (got_behind done (made accesses (next (accesses.reads s place width).0) (accesses.reads s place width).1) (Read place width) ∙ ap Some same)
  read_tells place width next then used s (Some answer) done access is gives count some =
      let given = read_given accesses entries used s place width answer is gives in
      let goes = read_goes entries used place width next answer is in
      let rest = then answer (used + 1) (accesses.reads s place width).1 (done ++ Read place width ∷ []) access given.1 (length_push done (Read place width) ∙ ap (λ n. n + 1) count) (rw goes at some) in
      rw (goes, read_made accesses s place width next answer given.0) (rw (append_assoc done (Read place width ∷ []) (made accesses (next answer) (accesses.reads s place width).1)) at rest)

  write_tells : (place : Place) (width : Width) (value : ℕ) (next : Result (Unit {0}) SpaceFault → Deciding A) → ((answer : Result (Unit {0}) SpaceFault) → Tells (next answer)) → (used : ℕ) (s : S) (said : Option (Result (Unit {0}) SpaceFault)) (done : List Access) (access : Access)
      → said_by (slice_get entries used) (write_answer place width value) ≡ said → Gives accesses (drop used entries) s → length done ≡ used
      → (outcome recorded (writes place width value next) (standing entries used)).1.missing ≡ Some access → slice_get (done ++ made accesses (writes place width value next) s) (outcome recorded (writes place width value next) (standing entries used)).1.used ≡ Some access
  unfolding Tells
  write_tells place width value next then used s None done access is gives count some =
      let stops = write_stops entries used place width value next is in
      let same : Write place width value ≡ access = cc (ap (λ (r : Recording). r.missing) stops, some) in
      let number : (outcome recorded (writes place width value next) (standing entries used)).1.used ≡ length done = ap (λ (r : Recording). r.used) stops ∙ sym count in
      rw (number, write_made accesses s place width value next (accesses.writes s place width value).0 refl) (got_behind done (made accesses (next (accesses.writes s place width value).0) (accesses.writes s place width value).1) (Write place width value) ∙ ap Some same)
  write_tells place width value next then used s (Some answer) done access is gives count some =
      let given = write_given accesses entries used s place width value answer is gives in
      let goes = write_goes entries used place width value next answer is in
      let rest = then answer (used + 1) (accesses.writes s place width value).1 (done ++ Write place width value ∷ []) access given.1 (length_push done (Write place width value) ∙ ap (λ n. n + 1) count) (rw goes at some) in
      rw (goes, write_made accesses s place width value next answer given.0) (rw (append_assoc done (Write place width value ∷ []) (made accesses (next answer) (accesses.writes s place width value).1)) at rest)

  next_from : (what : Deciding A) → Tells what
  unfolding Tells outcome
  next_from (ends a) used s done access gives count some = absurd (cc some)
  next_from (reads place width next) used s done access gives count some = read_tells place width next (λ answer. next_from (next answer)) used s (said_by (slice_get entries used) (read_answer place width)) done access refl gives count some
  next_from (writes place width value next) used s done access gives count some = write_tells place width value next (λ answer. next_from (next answer)) used s (said_by (slice_get entries used) (write_answer place width value)) done access refl gives count some

  pub next_one : (s : S) (what : Deciding A) (access : Access) → Gives accesses entries s → (outcome recorded what (begun entries)).1.missing ≡ Some access → slice_get (made accesses what s) (outcome recorded what (begun entries)).1.used ≡ Some access
  unfolding Tells
  next_one s what access gives some = next_from what 0 s [] access gives refl some
