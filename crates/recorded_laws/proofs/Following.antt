-- A record beside a register space that gives its answers: they are in step until an access is missing.
use Rattle.std.specs.Prelude.{◌≡◌, ◌⊎◌, ℕ, suc, zero, ◌+◌, List, [], ◌∷◌, ◌++◌, length, drop, Option, Some, None, Result, slice_get, refl}
use Rattle.std.proofs.Common.{inl, inr, sym, subst, ap, ◌∙◌}
use Rattle.std.proofs.lemmas.List.{length_push}
use Rattle.ar_space.specs.declared.refusal.SpaceFault.{SpaceFault}
use Rattle.ar_space.specs.declared.space.Width.{Width}
use Rattle.ar_space.specs.declared.space.Place.{Place}
use Rattle.ar_space.specs.Accesses.{Accesses}
use Rattle.space_trace.specs.declared.access.Access.{Access}
use Rattle.space_trace.specs.declared.access.Access.TheVariants.{Read, Write}
use Rattle.recorded_space.specs.declared.exchange.Exchange.{Exchange}
use Rattle.recorded_space.specs.Exchanges.{read_answer, write_answer}
use Rattle.recorded_space.specs.Recordings.{Recording, recorded, said_by, answered}
use Rattle.recorded_space.specs.Deciding.{Gives}
use Rattle.recorded_space.proofs.Entries.{got_behind, found_read, found_write}
use Rattle.recorded_laws.specs.Listed.{listed}
use Rattle.aml_laws.proofs.Together.{SideBySide}

abbrev pub standing : List Exchange → ℕ → Recording
standing entries used = record { entries = entries; used = used; missing = None }

pub stands_so : (r : Recording) → r.missing ≡ None → r ≡ standing r.entries r.used
stands_so r is = ap (λ (m : Option Access). record r { missing = m }) is

got_before : {X : Type 0} (xs rest : List X) (i : ℕ) (x : X) → slice_get xs i ≡ Some x → slice_get (xs ++ rest) i ≡ Some x
got_before [] rest i x is = absurd (cc is)
got_before (y ∷ ys) rest zero x is = is
got_before (y ∷ ys) rest (suc i) x is = got_before ys rest i x is

got_last : {X : Type 0} (xs : List X) (n : ℕ) (x : X) → length xs ≡ n → slice_get (xs ++ x ∷ []) n ≡ Some x
got_last xs n x is = subst (λ k. slice_get (xs ++ x ∷ []) k ≡ Some x) is (got_behind xs [] x)

one_more : {X : Type 0} (xs : List X) (n : ℕ) (x : X) → length xs ≡ n → length (xs ++ x ∷ []) ≡ n + 1
one_more xs n x is = length_push xs x ∙ ap (λ k. k + 1) is

stopped : (r : Recording) (first : Access) → r.missing ≡ Some first → r ≡ record { entries = r.entries; used = r.used; missing = Some first }
stopped r first is = ap (λ (m : Option Access). record r { missing = m }) is

module _ {S : Type 0} (accesses : Accesses S) where
  -- ---- what the answers of a record say of the space

  read_given : (entries : List Exchange) (used : ℕ) (s : S) (place : Place) (width : Width) (answer : Result ℕ SpaceFault) → said_by (slice_get entries used) (read_answer place width) ≡ Some answer
      → Gives accesses (drop used entries) s → ((accesses.reads s place width).0 ≡ answer) × Gives accesses (drop (used + 1) entries) (accesses.reads s place width).1
  unfolding Gives
  read_given entries used s place width answer is gives = rw (found_read entries used place width answer is) at gives

  write_given : (entries : List Exchange) (used : ℕ) (s : S) (place : Place) (width : Width) (value : ℕ) (answer : Result (Unit {0}) SpaceFault) → said_by (slice_get entries used) (write_answer place width value) ≡ Some answer
      → Gives accesses (drop used entries) s → ((accesses.writes s place width value).0 ≡ answer) × Gives accesses (drop (used + 1) entries) (accesses.writes s place width value).1
  unfolding Gives
  write_given entries used s place width value answer is gives = rw (found_write entries used place width value answer is) at gives

-- ---- a record, and a space that gives its answers

abbrev pub HasMissed : Recording → Type 0
HasMissed r = (first : Access) × (r.missing ≡ Some first)

pub read_misses : (r : Recording) (place : Place) (width : Width) → HasMissed r → HasMissed (recorded.reads r place width).1
read_misses r place width (first, is) = subst (λ (x : Recording). HasMissed (recorded.reads x place width).1) (sym (stopped r first is)) (first, refl)

pub write_misses : (r : Recording) (place : Place) (width : Width) (value : ℕ) → HasMissed r → HasMissed (recorded.writes r place width value).1
write_misses r place width value (first, is) = subst (λ (x : Recording). HasMissed (recorded.writes x place width value).1) (sym (stopped r first is)) (first, refl)

module _ {S : Type 0} (accesses : Accesses S) where
  abbrev pub Follows : Recording → S → Type 0
  Follows r s = (r.missing ≡ None) × Gives accesses (drop r.used r.entries) s

  -- what an access came to over the record and over the space
  abbrev pub CameTo : {A : Type 0} → Result A SpaceFault × Recording → Result A SpaceFault × S → Type 0
  CameTo p q = HasMissed p.1 ⊎ ((q.0 ≡ p.0) × Follows p.1 q.1)

  pub read_steps : (entries : List Exchange) (used : ℕ) (s : S) (place : Place) (width : Width) (said : Option (Result ℕ SpaceFault)) → said_by (slice_get entries used) (read_answer place width) ≡ said → Gives accesses (drop used entries) s
      → CameTo (answered (standing entries used) (Read place width) said) (accesses.reads s place width)
  read_steps entries used s place width None is gives = inl (Read place width, refl)
  read_steps entries used s place width (Some answer) is gives = let given = read_given accesses entries used s place width answer is gives in inr (given.0, (refl, given.1))

  pub write_steps : (entries : List Exchange) (used : ℕ) (s : S) (place : Place) (width : Width) (value : ℕ) (said : Option (Result (Unit {0}) SpaceFault)) → said_by (slice_get entries used) (write_answer place width value) ≡ said
      → Gives accesses (drop used entries) s → CameTo (answered (standing entries used) (Write place width value) said) (accesses.writes s place width value)
  write_steps entries used s place width value None is gives = inl (Write place width value, refl)
  write_steps entries used s place width value (Some answer) is gives = let given = write_given accesses entries used s place width value answer is gives in inr (given.0, (refl, given.1))

  unfoldable pub following : SideBySide recorded accesses
  following = record {
    InStep = Follows;
    Parted = λ r s. HasMissed r;
    reads = λ r s place width i. subst (λ (x : Recording). CameTo (recorded.reads x place width) (accesses.reads s place width)) (sym (stands_so r i.0)) (read_steps r.entries r.used s place width _ refl i.1);
    writes = λ r s place width value i. subst (λ (x : Recording). CameTo (recorded.writes x place width value) (accesses.writes s place width value)) (sym (stands_so r i.0)) (write_steps r.entries r.used s place width value _ refl i.1);
    left_reads = λ r s place width p. read_misses r place width p;
    left_writes = λ r s place width value p. write_misses r place width value p;
    right_reads = λ r s place width p. p;
    right_writes = λ r s place width value p. p;
  }

-- ---- a record, and such a space with the list of its accesses

-- the access that is missing stands in the list behind as many as entries were used
abbrev pub HasMissedNext : Recording → List Access → Type 0
HasMissedNext r list = (first : Access) × (r.missing ≡ Some first) × (slice_get list r.used ≡ Some first)

pub read_misses_next : (r : Recording) (list : List Access) (place : Place) (width : Width) → HasMissedNext r list → HasMissedNext (recorded.reads r place width).1 list
read_misses_next r list place width (first, is, at) = subst (λ (x : Recording). HasMissedNext (recorded.reads x place width).1 list) (sym (stopped r first is)) (first, refl, at)

pub write_misses_next : (r : Recording) (list : List Access) (place : Place) (width : Width) (value : ℕ) → HasMissedNext r list → HasMissedNext (recorded.writes r place width value).1 list
write_misses_next r list place width value (first, is, at) = subst (λ (x : Recording). HasMissedNext (recorded.writes x place width value).1 list) (sym (stopped r first is)) (first, refl, at)

pub behind_more : (r : Recording) (list : List Access) (access : Access) → HasMissedNext r list → HasMissedNext r (list ++ access ∷ [])
behind_more r list access (first, is, at) = (first, is, got_before list (access ∷ []) r.used first at)

module _ {S : Type 0} (accesses : Accesses S) where
  abbrev pub FollowsListed : Recording → S × List Access → Type 0
  FollowsListed r s = (r.missing ≡ None) × Gives accesses (drop r.used r.entries) s.0 × (length s.1 ≡ r.used)

  abbrev pub CameToListed : {A : Type 0} → Result A SpaceFault × Recording → Result A SpaceFault × (S × List Access) → Type 0
  CameToListed p q = HasMissedNext p.1 q.1.1 ⊎ ((q.0 ≡ p.0) × FollowsListed p.1 q.1)

  pub read_steps_listed : (entries : List Exchange) (used : ℕ) (s : S × List Access) (place : Place) (width : Width) (said : Option (Result ℕ SpaceFault)) → said_by (slice_get entries used) (read_answer place width) ≡ said
      → Gives accesses (drop used entries) s.0 → length s.1 ≡ used → CameToListed (answered (standing entries used) (Read place width) said) ((listed accesses).reads s place width)
  read_steps_listed entries used s place width None is gives at = inl (Read place width, refl, got_last s.1 used (Read place width) at)
  read_steps_listed entries used s place width (Some answer) is gives at = let given = read_given accesses entries used s.0 place width answer is gives in inr (given.0, (refl, given.1, one_more s.1 used (Read place width) at))

  pub write_steps_listed : (entries : List Exchange) (used : ℕ) (s : S × List Access) (place : Place) (width : Width) (value : ℕ) (said : Option (Result (Unit {0}) SpaceFault)) → said_by (slice_get entries used) (write_answer place width value) ≡ said
      → Gives accesses (drop used entries) s.0 → length s.1 ≡ used → CameToListed (answered (standing entries used) (Write place width value) said) ((listed accesses).writes s place width value)
  write_steps_listed entries used s place width value None is gives at = inl (Write place width value, refl, got_last s.1 used (Write place width value) at)
  write_steps_listed entries used s place width value (Some answer) is gives at =
      let given = write_given accesses entries used s.0 place width value answer is gives in inr (given.0, (refl, given.1, one_more s.1 used (Write place width value) at))

  unfoldable pub following_listed : SideBySide recorded (listed accesses)
  following_listed = record {
    InStep = FollowsListed;
    Parted = λ r s. HasMissedNext r s.1;
    reads = λ r s place width i. subst (λ (x : Recording). CameToListed (recorded.reads x place width) ((listed accesses).reads s place width)) (sym (stands_so r i.0)) (read_steps_listed r.entries r.used s place width _ refl i.1 i.2);
    writes = λ r s place width value i.
        subst (λ (x : Recording). CameToListed (recorded.writes x place width value) ((listed accesses).writes s place width value)) (sym (stands_so r i.0)) (write_steps_listed r.entries r.used s place width value _ refl i.1 i.2);
    left_reads = λ r s place width p. read_misses_next r s.1 place width p;
    left_writes = λ r s place width value p. write_misses_next r s.1 place width value p;
    right_reads = λ r s place width p. behind_more r s.1 (Read place width) p;
    right_writes = λ r s place width value p. behind_more r s.1 (Write place width value) p;
  }
