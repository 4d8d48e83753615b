-- What follows for a chain of steps, and for a loop of them.
use Rattle.std.specs.Prelude.{◌≡◌, ◌≢◌, Ok, Err, IsErr, IsErrAnd, refl}
use Rattle.std.proofs.Common.{◌∙◌, sym, ap}
use Rattle.ar_space.specs.declared.refusal.Refusal.{Refusal}
use Rattle.ar_space.specs.declared.refusal.Refusal.TheVariants.{OutOfMemory}
use Rattle.ar_space.specs.Outcome.{Outcome, NotMemory, Answers, seen}
use Rattle.ar_space.specs.Change.{Change, Does, Same, give, settle, go_on, ◌>>=◌}
use Rattle.ar_space.proofs.Changes.{changing}
use Rattle.aml_grammar.specs.State.{State, Step, look}

-- what is known of the state is known without a step
pub does_look : {A B : Type 0} {r : Outcome B} {s after : State} (f : State → A) (k : A → Step B) → Does r after (k (f s)) s → Does r after (look f >>= k) s
unfolding ◌>>=◌ go_on look
does_look f k h = record { is = λ ne. h.is ne }

pub looked_ok : {A B : Type 0} {a : A} {r : Outcome B} {s after : State} (f : State → A) (k : A → Step B) → Answers (Ok a) (Ok (f s)) → Does r after (k a) s → Does r after (look f >>= k) s
unfolding ◌>>=◌ go_on look
looked_ok {a = a} {s = s} f k h i = let e : f s ≡ a = cc (h.is tt) in record { is = λ ne. rw e (i.is ne) }

-- a value that is another one
pub does_gave : {S A : Type 0} {a b : A} {s : S} → a ≡ b → Does (Ok a) s (give b) s
unfolding give
does_gave {s = s} e = record { is = λ ne. ap (λ x. (Ok x, s)) (sym e) }

-- an outcome that depends on no state, and then the rest
pub settle_ok : {S A B : Type 0} {a : A} {r : Outcome B} {s s2 : S} (x : Outcome A) (k : A → Change S B) → Answers (Ok a) x → Does r s2 (k a) s → Does r s2 (settle x >>= k) s
unfolding ◌>>=◌ go_on settle
settle_ok x k h i = record { is = λ ne. rw (h.is tt) (i.is ne) }

pub settle_err : {S A B : Type 0} {e : Refusal} {r : Outcome B} {s : S} (x : Outcome A) (k : A → Change S B) → Answers {A = A} (Err e) x → IsErr r × IsErrAnd r (λ y. y ≡ e) → Does r s (settle x >>= k) s
unfolding ◌>>=◌ go_on settle
settle_err {r = Ok y} x k h i = absurd (cc i.0)
settle_err {r = Err y} x k h i = record { is = λ ne. rw (h.is (λ q. ne (i.1 ∙ q)), i.1) refl }

pub settle_seen_err : {S A B C : Type 0} {e : Refusal} {s : S} (r : Outcome B) (view : B → C) (x : Outcome A) (k : A → Change S C) → Answers {A = A} (Err e) x → IsErr r × IsErrAnd r (λ y. y ≡ e) → Does (seen view r) s (settle x >>= k) s
unfolding ◌>>=◌ go_on settle
settle_seen_err (Ok y) view x k h i = absurd (cc i.0)
settle_seen_err (Err y) view x k h i = record { is = λ ne. rw (h.is (λ q. ne (i.1 ∙ q)), i.1) refl }

-- a call that could only run out of memory, and did
pub memory_err : {A B : Type 0} {e : Refusal} {before after : State} {a : A} (r : Outcome B) (m : Step B) → Answers {A = A} (Err e) (Ok a) → IsErr r × IsErrAnd r (λ y. y ≡ e) → Does r after m before
memory_err (Ok y) m h i = absurd (cc i.0)
memory_err (Err y) m h i = record { is = λ ne. absurd (cc (h.is (λ q. ne (i.1 ∙ q)))) }

pub memory_seen_err : {A B C : Type 0} {e : Refusal} {before after : State} {a : A} (r : Outcome B) (view : B → C) (m : Step C) → Answers {A = A} (Err e) (Ok a) → IsErr r × IsErrAnd r (λ y. y ≡ e) → Does (seen view r) after m before
memory_seen_err (Ok y) view m h i = absurd (cc i.0)
memory_seen_err (Err y) view m h i = record { is = λ ne. absurd (cc (h.is (λ q. ne (i.1 ∙ q)))) }

pub memory_answers : {A B C : Type 0} {e : Refusal} {a : A} (r : Outcome B) (view : B → C) (x : Outcome C) → Answers {A = A} (Err e) (Ok a) → IsErr r × IsErrAnd r (λ y. y ≡ e) → Answers (seen view r) x
memory_answers (Ok y) view x h i = absurd (cc i.0)
memory_answers (Err y) view x h i = record { is = λ ne. absurd (cc (h.is (λ q. ne (i.1 ∙ q)))) }

-- a refusal for another reason, handed on
pub no_memory_err : {B : Type 0} {e : Refusal} (r : Outcome B) → IsErr r × IsErrAnd r (λ y. y ≡ e) → e ≢ OutOfMemory → NotMemory r
no_memory_err (Ok y) i ne = tt
no_memory_err (Err y) i ne = λ is. ne (sym i.1 ∙ is)

-- these close a chain of `?` whose definition is the same chain
pub ruleset reading = (changing, does_gave, does_look, looked_ok, settle_ok, settle_err, settle_seen_err, memory_err, memory_seen_err, no_memory_err)

-- what a step answers, without the state that it leaves
pub answers_step : {A : Type 0} {r : Outcome A} {s after : State} (m : Step A) → Does r after m s → Answers r (m s).0
answers_step m h = record { is = λ ne. ap (λ p. p.0) (h.is ne) }

pub ruleset outcomes = (answers_step)
