-- How a chain of calls with `&mut self` and `?` does what its definition, the same chain, gives.
use Rattle.std.specs.Prelude.{◌≡◌, Ok, Err, IsErr, IsErrAnd, refl}
use Rattle.std.proofs.Common.{◌∙◌, ap}
use Rattle.ar_space.specs.declared.refusal.Refusal.{Refusal}
use Rattle.ar_space.specs.declared.refusal.Refusal.TheVariants.{OutOfMemory}
use Rattle.ar_space.specs.Outcome.{Outcome, Answers, seen}
use Rattle.ar_space.specs.Change.{Change, Does, give, stop, settle, go_on, ◌>>=◌, Same}

pub does_give : {S A : Type 0} {a : A} {s : S} → Does (Ok a) s (give a) s
unfolding give
does_give = record { is = λ _. refl }

pub does_stop : {S A : Type 0} {e : Refusal} {s : S} → Does {A = A} (Err e) s (stop e) s
unfolding stop
does_stop = record { is = λ _. refl }

-- a call that only makes a value
pub does_made : {S A : Type 0} {s : S} (r : Outcome A) (a : A) → Answers r (Ok a) → Does r s (give a) s
unfolding give
does_made {s = s} r a h = record { is = λ ne. ap (λ x. (x, s)) (h.is ne) }

-- a call that leaves the state alone
pub does_settle : {S A : Type 0} {s : S} (r x : Outcome A) → Answers r x → Does r s (settle x) s
unfolding settle
does_settle {s = s} r x h = record { is = λ ne. ap (λ y. (y, s)) (h.is ne) }

pub does_ok : {S A B : Type 0} {a : A} {r : Outcome B} {s s1 s2 : S} (m : Change S A) (k : A → Change S B) → Does (Ok a) s1 m s → Does r s2 (k a) s1 → Does r s2 (m >>= k) s
unfolding ◌>>=◌ go_on
does_ok m k h i = record { is = λ ne. rw (h.is tt) (i.is ne) }

-- the refusal that `?` hands on
pub does_err : {S A B : Type 0} {e : Refusal} {r : Outcome B} {s s1 : S} (m : Change S A) (k : A → Change S B) → Does {A = A} (Err e) s1 m s → IsErr r × IsErrAnd r (λ x. x ≡ e) → Does r s1 (m >>= k) s
unfolding ◌>>=◌ go_on
does_err {r = Ok x} m k h i = absurd (cc i.0)
does_err {r = Err x} m k h i = record { is = λ ne. rw (h.is (λ q. ne (i.1 ∙ q)), i.1) refl }

-- the same two, where the first depends on no state
pub settle_ok : {S A B : Type 0} {a : A} {r : Outcome B} {s s1 : S} (x : Outcome A) (k : A → Change S B) → Answers (Ok a) x → Does r s1 (k a) s → Does r s1 (settle x >>= k) s
unfolding ◌>>=◌ go_on settle
settle_ok x k h i = record { is = λ ne. rw (h.is tt) (i.is ne) }

pub settle_err : {S A B : Type 0} {e : Refusal} {r : Outcome B} {s : S} (x : Outcome A) (k : A → Change S B) → Answers {A = A} (Err e) x → IsErr r × IsErrAnd r (λ z. z ≡ e) → Does r s (settle x >>= k) s
unfolding ◌>>=◌ go_on settle
settle_err {r = Ok y} x k h i = absurd (cc i.0)
settle_err {r = Err y} x k h i = record { is = λ ne. rw (h.is (λ q. ne (i.1 ∙ q)), i.1) refl }

-- the same, where the value is seen by a view
pub does_seen_err : {S A B C : Type 0} {e : Refusal} {s s1 : S} (r : Outcome B) (view : B → C) (m : Change S A) (k : A → Change S C) → Does {A = A} (Err e) s1 m s → IsErr r × IsErrAnd r (λ x. x ≡ e) → Does (seen view r) s1 (m >>= k) s
unfolding ◌>>=◌ go_on
does_seen_err (Ok x) view m k h i = absurd (cc i.0)
does_seen_err (Err x) view m k h i = record { is = λ ne. rw (h.is (λ q. ne (i.1 ∙ q)), i.1) refl }

-- want of memory that `?` hands on
pub does_memory : {S A : Type 0} {s : S} (r : Outcome A) (after : S) (m : Change S A) → IsErr r × IsErrAnd r (λ e. e ≡ OutOfMemory) → Does r after m s
does_memory (Ok a) after m i = absurd (cc i.0)
does_memory (Err e) after m i = record { is = λ ne. absurd (ne i.1) }

pub does_seen_memory : {S A B : Type 0} {s : S} (r : Outcome A) (view : A → B) (after : S) (m : Change S B) → IsErr r × IsErrAnd r (λ e. e ≡ OutOfMemory) → Does (seen view r) after m s
does_seen_memory (Ok a) view after m i = absurd (cc i.0)
does_seen_memory (Err e) view after m i = record { is = λ ne. absurd (ne i.1) }

-- loops: what is left of one does what it all does, and a turn of it goes on
pub does_same : {S A : Type 0} {r : Outcome A} {start here after : S} {m k : Change S A} → Same m start k here → Does r after k here → Does r after m start
does_same h i = record { is = λ ne. h.is ∙ i.is ne }

pub same_ok : {S A B : Type 0} {a : A} {start here after : S} {m : Change S B} (n : Change S A) (k : A → Change S B) → Same m start (n >>= k) here → Does (Ok a) after n here → Same m start (k a) after
unfolding ◌>>=◌ go_on
same_ok n k h i = record { is = h.is ∙ rw (i.is tt) refl }

-- these close a chain of `?` whose definition is the same chain
pub ruleset changing = (does_ok, does_err, does_give, does_stop, does_made, does_settle, settle_ok, settle_err, does_memory, does_seen_err, does_seen_memory)
