-- What closes functions that follow definitions over a world and the steps that are left: a chain of `?`, a change of the world alone,
-- and what is done however an evaluation ended.
use Rattle.std.specs.Prelude.{◌≡◌, ℕ, Ok, Err, IsErr, IsErrAnd, refl}
use Rattle.ar_space.specs.declared.refusal.Refusal.{Refusal}
use Rattle.ar_space.specs.Outcome.{Outcome, NotMemory, seen}
use Rattle.ar_space.specs.Change.{Change, Does, ◌>>=◌}
use Rattle.ar_space.proofs.Changes.{does_ok, does_err, does_seen_err, changing}
use Rattle.aml_objects.specs.declared.value.Value.{Value}
use Rattle.aml_world.specs.state.State.{State}
use Rattle.aml_world.specs.state.Run.{Run, lift}
use Rattle.aml_world.specs.state.Slots.{closed}
use Rattle.aml_world.specs.state.Mutexes.{released}
use Rattle.aml_meaning.specs.Calling.{ending, framed, with_steps, with_rest, counted}

pub does_lift : {S A : Type 0} {r : Outcome A} {w w1 : State S} (b : ℕ) (m : Change (State S) A) → Does r w1 m w → Does r (w1, b) (lift m) (w, b)
unfolding lift
does_lift b m i = record { is = λ ne. rw (i.is ne) refl }

pub lift_ok : {S A B : Type 0} {a : A} {r : Outcome B} {w w1 : State S} {s : State S × ℕ} (b : ℕ) (m : Change (State S) A) (k : A → Run S B) → Does (Ok a) w1 m w → Does r s (k a) (w1, b) → Does r s (lift m >>= k) (w, b)
lift_ok b m k h i = does_ok (lift m) k (does_lift b m h) i

pub lift_err : {S A B : Type 0} {e : Refusal} {r : Outcome B} {w w1 : State S} (b : ℕ) (m : Change (State S) A) (k : A → Run S B) → Does {A = A} (Err e) w1 m w → IsErr r × IsErrAnd r (λ x. x ≡ e) → Does r (w1, b) (lift m >>= k) (w, b)
lift_err b m k h i = does_err (lift m) k (does_lift b m h) i

pub lift_seen_err : {S A B C : Type 0} {e : Refusal} {w w1 : State S} (r : Outcome B) (view : B → C) (b : ℕ) (m : Change (State S) A) (k : A → Run S C) → Does {A = A} (Err e) w1 m w → IsErr r × IsErrAnd r (λ x. x ≡ e) → Does (seen view r) (w1, b) (lift m >>= k) (w, b)
lift_seen_err r view b m k h i = does_seen_err r view (lift m) k (does_lift b m h) i

-- these close a chain of `?` over a world and its steps
pub ruleset running = (changing, does_lift, lift_ok, lift_err, lift_seen_err)

-- ---- however the evaluation ended

pub does_ending : {S A : Type 0} {r : Outcome A} {w w1 : State S} (m : Change (State S) A) → Does r w1 m w → Does r (released w1) (ending m) w
unfolding ending
does_ending m h = record { is = λ ne. rw (h.is ne) refl }

pub does_framed : {S A : Type 0} {r : Outcome A} {w w1 : State S} (m : Change (State S) A) → Does r w1 m w → Does r (closed w1) (framed m) w
unfolding framed
does_framed m h = record { is = λ ne. rw (h.is ne) refl }

pub does_steps : {S A : Type 0} {r : Outcome A} {w : State S} {s1 : State S × ℕ} (steps : ℕ) (m : Run S A) → Does r s1 m (w, steps) → Does r s1.0 (with_steps steps m) w
unfolding with_steps
does_steps steps m h = record { is = λ ne. rw (h.is ne) refl }

counts : (r : Outcome Value) (rest : ℕ) → NotMemory (with_rest r rest) → NotMemory r
counts (Ok v) rest ne = tt
counts (Err e) rest ne = ne

pub does_counted : {S : Type 0} {w : State S} {s1 : State S × ℕ} (r : Outcome Value) (steps : ℕ) (m : Run S Value) → Does r s1 m (w, steps) → Does (with_rest r s1.1) s1.0 (counted steps m) w
unfolding counted
does_counted {s1 = s1} r steps m h = record { is = λ ne. rw (h.is (counts r s1.1 ne)) refl }

pub ruleset calling = (running, does_ending, does_framed, does_steps, does_counted)
