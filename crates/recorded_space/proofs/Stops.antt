-- Where a run over a record stops.
use Rattle.std.specs.Prelude.{◌≡◌, ◌≢◌, ◌==◌, ◌≤◌, ℕ, zero, suc, ◌+◌, [], ◌∷◌, length, drop, Bool, true, List, Option, Some, None, Result, slice_get, if◌then◌else◌, refl}
use Rattle.std.proofs.Common.{◌∙◌, sym, subst, ap, arith}
use Rattle.ar_space.specs.Accesses.{Accesses}
use Rattle.ar_space.specs.declared.refusal.SpaceFault.{SpaceFault}
use Rattle.ar_space.specs.declared.space.Width.{Width}
use Rattle.ar_space.specs.declared.space.Width.TheVariants.{W8, W16, W32, W64}
use Rattle.ar_space.specs.declared.space.Place.{Place}
use Rattle.ar_space.specs.declared.space.Place.TheVariants.{Memory, Io, Pci}
use Rattle.space_trace.specs.declared.access.Access.{Access}
use Rattle.space_trace.specs.declared.access.Access.TheVariants.{Read, Write}
use Rattle.recorded_space.specs.declared.exchange.Exchange.{Exchange}
use Rattle.recorded_space.specs.declared.exchange.Exchange.TheVariants as entry
use Rattle.recorded_space.specs.Exchanges.{access_of, is_same_place, is_same_width, is_same_register, kept, IsKept, read_answer, write_answer}
use Rattle.recorded_space.specs.Recordings.{Recording, begun, recorded, said_by}
use Rattle.recorded_space.specs.Deciding.{Deciding, ends, reads, writes, outcome, made, Gives, IsRecordOf}
use Rattle.recorded_space.proofs.Runs.{standing, read_stops, write_stops, read_goes, write_goes, read_given, write_given, read_made, write_made, next_one}

-- ---- an entry that is the access answers it

width_itself : (w : Width) → is_same_width w w ≡ true
width_itself W8 = refl
width_itself W16 = refl
width_itself W32 = refl
width_itself W64 = refl

place_itself : (p : Place) → is_same_place p p ≡ true
place_itself (Memory a) = grind arith
place_itself (Io a) = grind arith
place_itself (Pci seg bus dev func reg) = grind arith

register_itself : (p : Place) (w : Width) → is_same_register p w p w ≡ true
register_itself p w = rw (place_itself p) (width_itself w)

same_number : (n : ℕ) → (n == n) ≡ true
same_number n = grind arith

-- what an entry says of an access, or of none: that it is another
Silent : Access → Option Exchange → Type 0
Silent (Read place width) e = said_by e (read_answer place width) ≡ None
Silent (Write place width value) e = said_by e (write_answer place width value) ≡ None

silent_other : (access : Access) (e : Exchange) → Silent access (Some e) → IsKept e → access_of e ≢ access
unfolding Silent
silent_other (Read place width) (entry.Read at wide answer) none fits same =
    let here : Read at wide ≡ Read place width = same in
    let p : at ≡ place = cc here in
    let w : wide ≡ width = cc here in
    let is : is_same_register at wide place width ≡ true = rw (sym p, sym w) (register_itself at wide) in
    let k : kept wide answer ≡ None = rw (w) (sym (ap (λ (b : Bool). if b then kept width answer else None) is) ∙ none) in
    fits k
silent_other (Read place width) (entry.Write at wide value answer) none fits same = cc same
silent_other (Write place width value) (entry.Read at wide answer) none fits same = cc same
silent_other (Write place width value) (entry.Write at wide written answer) none fits same =
    let p : at ≡ place = cc same in
    let w : wide ≡ width = cc same in
    let v : written ≡ value = cc same in
    let is : is_same_register at wide place width ≡ true = rw (sym p, sym w) (register_itself at wide) in
    let n : (written == value) ≡ true = rw (sym v) (same_number written) in
    cc (sym none ∙ ap (λ (b : Bool). if b then (if written == value then Some answer else None) else None) is ∙ ap (λ (b : Bool). if b then Some answer else None) n)

module _ {A : Type 0} (entries : List Exchange) where
  Stops : Deciding A → Type 0
  Stops what = (used : ℕ) (access : Access) → (outcome recorded what (standing entries used)).1.missing ≡ Some access → Silent access (slice_get entries (outcome recorded what (standing entries used)).1.used)

  read_silent : (place : Place) (width : Width) (next : Result ℕ SpaceFault → Deciding A) → ((answer : Result ℕ SpaceFault) → Stops (next answer)) → (used : ℕ) (said : Option (Result ℕ SpaceFault)) (access : Access)
      → said_by (slice_get entries used) (read_answer place width) ≡ said → (outcome recorded (reads place width next) (standing entries used)).1.missing ≡ Some access
      → Silent access (slice_get entries (outcome recorded (reads place width next) (standing entries used)).1.used)
  unfolding Stops Silent
  read_silent place width next after used None access is some =
      let stops = read_stops entries used place width next is in
      let same : Read place width ≡ access = cc (ap (λ (r : Recording). r.missing) stops, some) in
      let number : (outcome recorded (reads place width next) (standing entries used)).1.used ≡ used = ap (λ (r : Recording). r.used) stops in
      subst (λ (a : Access). Silent a (slice_get entries (outcome recorded (reads place width next) (standing entries used)).1.used)) same
      (subst (λ (n : ℕ). said_by (slice_get entries n) (read_answer place width) ≡ None) (sym number) is)
  read_silent place width next after used (Some answer) access is some =
      let goes = read_goes entries used place width next answer is in
      let rest = after answer (used + 1) access (rw goes at some) in
      rw goes rest

  write_silent : (place : Place) (width : Width) (value : ℕ) (next : Result (Unit {0}) SpaceFault → Deciding A) → ((answer : Result (Unit {0}) SpaceFault) → Stops (next answer)) → (used : ℕ) (said : Option (Result (Unit {0}) SpaceFault)) (access : Access)
      → said_by (slice_get entries used) (write_answer place width value) ≡ said → (outcome recorded (writes place width value next) (standing entries used)).1.missing ≡ Some access
      → Silent access (slice_get entries (outcome recorded (writes place width value next) (standing entries used)).1.used)
  unfolding Stops Silent
  write_silent place width value next after used None access is some =
      let stops = write_stops entries used place width value next is in
      let same : Write place width value ≡ access = cc (ap (λ (r : Recording). r.missing) stops, some) in
      let number : (outcome recorded (writes place width value next) (standing entries used)).1.used ≡ used = ap (λ (r : Recording). r.used) stops in
      subst (λ (a : Access). Silent a (slice_get entries (outcome recorded (writes place width value next) (standing entries used)).1.used)) same
      (subst (λ (n : ℕ). said_by (slice_get entries n) (write_answer place width value) ≡ None) (sym number) is)
  write_silent place width value next after used (Some answer) access is some =
      let goes = write_goes entries used place width value next answer is in
      let rest = after answer (used + 1) access (rw goes at some) in
      rw goes rest

  stops_from : (what : Deciding A) → Stops what
  unfolding Stops outcome
  stops_from (ends a) used access some = absurd (cc some)
  stops_from (reads place width next) used access some = read_silent place width next (λ answer. stops_from (next answer)) used (said_by (slice_get entries used) (read_answer place width)) access refl some
  stops_from (writes place width value next) used access some = write_silent place width value next (λ answer. stops_from (next answer)) used (said_by (slice_get entries used) (write_answer place width value)) access refl some

  pub other_there : (what : Deciding A) (access : Access) (e : Exchange) → (outcome recorded what (begun entries)).1.missing ≡ Some access → slice_get entries (outcome recorded what (begun entries)).1.used ≡ Some e → IsKept e → access_of e ≢ access
  unfolding Stops
  other_there what access e some there fits = silent_other access e (subst (Silent access) there (stops_from what 0 access some)) fits

next_count : (used n : ℕ) → used + 1 + n ≡ used + suc n
next_count used n = omega arith

add_none : (used : ℕ) → used + 0 ≡ used
add_none used = omega arith

none_beyond : {X : Type 0} (xs : List X) (i : ℕ) → length xs ≤ i → slice_get xs i ≡ None
none_beyond [] i le = refl
none_beyond (x ∷ xs) zero le = absurd (omega arith)
none_beyond (x ∷ xs) (suc i) le = none_beyond xs i (omega arith)

none_unless : (o : Option Exchange) → ((e : Exchange) → o ≡ Some e → ⊥) → o ≡ None
none_unless None not = refl
none_unless (Some e) not = absurd (not e refl)

module _ {S A : Type 0} (accesses : Accesses S) (entries : List Exchange) where
  -- ---- where no access is missing, all that were made were answered

  Counts : Deciding A → Type 0
  Counts what = (used : ℕ) (s : S) → Gives accesses (drop used entries) s → (outcome recorded what (standing entries used)).1.missing ≡ None
      → (outcome recorded what (standing entries used)).1.used ≡ used + length (made accesses what s)

  read_counts : (place : Place) (width : Width) (next : Result ℕ SpaceFault → Deciding A) → ((answer : Result ℕ SpaceFault) → Counts (next answer)) → (used : ℕ) (s : S) (said : Option (Result ℕ SpaceFault))
      → said_by (slice_get entries used) (read_answer place width) ≡ said → Gives accesses (drop used entries) s → (outcome recorded (reads place width next) (standing entries used)).1.missing ≡ None
      → (outcome recorded (reads place width next) (standing entries used)).1.used ≡ used + length (made accesses (reads place width next) s)
  unfolding Counts
  read_counts place width next after used s None is gives none = absurd (cc (ap (λ (r : Recording). r.missing) (read_stops entries used place width next is), none))
  read_counts place width next after used s (Some answer) is gives none =
      let given = read_given accesses entries used s place width answer is gives in
      let goes = read_goes entries used place width next answer is in
      let rest = after answer (used + 1) (accesses.reads s place width).1 given.1 (rw goes at none) in
      rw (goes, read_made accesses s place width next answer given.0) (rest ∙ next_count used (length (made accesses (next answer) (accesses.reads s place width).1)))

  write_counts : (place : Place) (width : Width) (value : ℕ) (next : Result (Unit {0}) SpaceFault → Deciding A) → ((answer : Result (Unit {0}) SpaceFault) → Counts (next answer)) → (used : ℕ) (s : S) (said : Option (Result (Unit {0}) SpaceFault))
      → said_by (slice_get entries used) (write_answer place width value) ≡ said → Gives accesses (drop used entries) s → (outcome recorded (writes place width value next) (standing entries used)).1.missing ≡ None
      → (outcome recorded (writes place width value next) (standing entries used)).1.used ≡ used + length (made accesses (writes place width value next) s)
  unfolding Counts
  write_counts place width value next after used s None is gives none = absurd (cc (ap (λ (r : Recording). r.missing) (write_stops entries used place width value next is), none))
  write_counts place width value next after used s (Some answer) is gives none =
      let given = write_given accesses entries used s place width value answer is gives in
      let goes = write_goes entries used place width value next answer is in
      let rest = after answer (used + 1) (accesses.writes s place width value).1 given.1 (rw goes at none) in
      rw (goes, write_made accesses s place width value next answer given.0) (rest ∙ next_count used (length (made accesses (next answer) (accesses.writes s place width value).1)))

  counts_from : (what : Deciding A) → Counts what
  unfolding Counts outcome made
  counts_from (ends a) used s gives none = sym (add_none used)
  counts_from (reads place width next) used s gives none = read_counts place width next (λ answer. counts_from (next answer)) used s (said_by (slice_get entries used) (read_answer place width)) refl gives none
  counts_from (writes place width value next) used s gives none = write_counts place width value next (λ answer. counts_from (next answer)) used s (said_by (slice_get entries used) (write_answer place width value)) refl gives none

  -- ---- so a record of the run is used to its end

  stopped_at : (s : S) (what : Deciding A) (missing : Option Access) → Gives accesses entries s → IsRecordOf accesses what s entries → (outcome recorded what (begun entries)).1.missing ≡ missing → (e : Exchange)
      → slice_get entries (outcome recorded what (begun entries)).1.used ≡ Some e → ⊥
  unfolding Counts
  stopped_at s what (Some access) gives is some e there =
      let entry_is = is (outcome recorded what (begun entries)).1.used e there in
      let made_is = next_one accesses entries s what access gives some in
      let same : access_of e ≡ access = cc (entry_is.1, made_is) in
      other_there entries what access e some there entry_is.0 same
  stopped_at s what None gives is none e there =
      let number = counts_from what 0 s gives none in
      let entry_is = is (outcome recorded what (begun entries)).1.used e there in
      let beyond = none_beyond (made accesses what s) (outcome recorded what (begun entries)).1.used (omega (arith, number)) in
      cc (entry_is.1, beyond)

  pub used_up : (s : S) (what : Deciding A) → Gives accesses entries s → IsRecordOf accesses what s entries → slice_get entries (outcome recorded what (begun entries)).1.used ≡ None
  used_up s what gives is =
      none_unless (slice_get entries (outcome recorded what (begun entries)).1.used) (stopped_at s what (outcome recorded what (begun entries)).1.missing gives is refl)
