-- How calls make the steps of an access to a space that is filled.
use Rattle.std.specs.Prelude.{◌≡◌, ℕ, ◌+◌, ◌-◌, ◌*◌, ◌/◌, ◌%◌, Bool, true, false, Option, Some, None, Result, Ok, Err, IsErr, IsErrAnd, refl}
use Rattle.std.specs.Coded.{Coded, code_by, coded×}
use Rattle.std.proofs.Common.{◌∙◌, ap, sym}
use Rattle.ar_space.specs.Accesses.{Accesses, byte_count, place_on}
use Rattle.ar_space.specs.declared.refusal.SpaceFault.{SpaceFault}
use Rattle.ar_space.specs.declared.refusal.SpaceFault.TheVariants.{NoRegister, Device}
use Rattle.ar_space.specs.declared.space.Place.{Place}
use Rattle.ar_space.specs.declared.space.Width.{Width}
use Rattle.ar_space.specs.declared.space.Width.TheVariants.{W8, W16, W32, W64}
use Rattle.watched_space.specs.MissingPlaces.{Missing, missing_code, missing_read, missing_written}
use Rattle.watched_space.specs.Filling.{Makes, Step, give, go_on, ◌>>=◌}

pub makes_give : {S A : Type 0} {a : A} {s : S} → Makes (Ok a) s (give a) s
unfolding give
makes_give = record { is = refl }

pub makes_ok : {S A B : Type 0} {a : A} {r : Result B SpaceFault} {s s1 s2 : S} (m : Step S A) (k : A → Step S B) → Makes (Ok a) s1 m s → Makes r s2 (k a) s1 → Makes r s2 (m >>= k) s
unfolding ◌>>=◌ go_on
makes_ok m k h i = record { is = rw h.is i.is }

-- the fault that `?` hands on
pub makes_err : {S A B : Type 0} {e : SpaceFault} {r : Result B SpaceFault} {s s1 : S} (m : Step S A) (k : A → Step S B) → Makes {A = A} (Err e) s1 m s → IsErr r × IsErrAnd r (λ x. x ≡ e) → Makes r s1 (m >>= k) s
unfolding ◌>>=◌ go_on
makes_err {r = Ok x} m k h i = absurd (cc i.0)
makes_err {r = Err x} m k h i = record { is = rw (h.is, i.1) refl }

pub ruleset making = (makes_give, makes_ok, makes_err)

-- the answer, and the space after it
pub answer_made : {S A : Type 0} {r : Result A SpaceFault} {s s1 : S} (m : Step S A) → Makes r s1 m s → r ≡ (m s).0
answer_made m h = sym (ap (λ p. p.0) h.is)

pub state_made : {S A : Type 0} {r : Result A SpaceFault} {s s1 : S} (m : Step S A) → Makes r s1 m s → s1 ≡ (m s).1
state_made m h = sym (ap (λ p. p.1) h.is)

pub ruleset made = (answer_made, state_made)
