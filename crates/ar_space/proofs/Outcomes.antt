-- How a chain of calls and `?` answers what its definition, the same chain, gives.
use Rattle.std.specs.Prelude.{◌≡◌, Ok, Err, IsErr, IsErrAnd, refl}
use Rattle.std.proofs.Common.{◌∙◌, sym}
use Rattle.ar_space.specs.declared.refusal.Refusal.{Refusal}
use Rattle.ar_space.specs.declared.refusal.Refusal.TheVariants.{OutOfMemory}
use Rattle.ar_space.specs.Outcome.{Outcome, Answers, seen, ◌>>=◌}

-- what is answered without taking memory
pub answers_is : {A : Type 0} {r x : Outcome A} → r ≡ x → Answers r x
answers_is e = record { is = λ _. sym e }

pub answers_itself : {A : Type 0} {r : Outcome A} → Answers r r
answers_itself = record { is = λ _. refl }

pub answers_ok : {A B : Type 0} {a : A} {r : Outcome B} (m : Outcome A) (k : A → Outcome B) → Answers (Ok a) m → Answers r (k a) → Answers r (m >>= k)
unfolding ◌>>=◌
answers_ok m k h i = record { is = λ ne. rw (h.is tt) (i.is ne) }

-- the refusal that `?` hands on
pub answers_err : {A B : Type 0} {e : Refusal} {r : Outcome B} (m : Outcome A) (k : A → Outcome B) → Answers {A = A} (Err e) m → IsErr r × IsErrAnd r (λ x. x ≡ e) → Answers r (m >>= k)
unfolding ◌>>=◌
answers_err {r = Ok x} m k h i = absurd (cc i.0)
answers_err {r = Err x} m k h i = record { is = λ ne. rw (h.is (λ q. ne (i.1 ∙ q)), i.1) refl }

-- a refusal of the definition, handed on
pub answers_refused : {A : Type 0} {e : Refusal} (r x : Outcome A) → x ≡ Err e → IsErr r × IsErrAnd r (λ z. z ≡ e) → Answers r x
answers_refused (Ok a) x is i = absurd (cc i.0)
answers_refused (Err z) x is i = record { is = λ _. cc (is, i.1) }

-- want of memory that `?` hands on
pub answers_memory : {A : Type 0} (r x : Outcome A) → IsErr r × IsErrAnd r (λ e. e ≡ OutOfMemory) → Answers r x
answers_memory (Ok a) x i = absurd (cc i.0)
answers_memory (Err e) x i = record { is = λ ne. absurd (ne i.1) }

-- the same two, where the value is seen by a view
pub seen_err : {A B C : Type 0} {e : Refusal} (r : Outcome B) (view : B → C) (m : Outcome A) (k : A → Outcome C) → Answers {A = A} (Err e) m → IsErr r × IsErrAnd r (λ x. x ≡ e) → Answers (seen view r) (m >>= k)
unfolding ◌>>=◌
seen_err (Ok x) view m k h i = absurd (cc i.0)
seen_err (Err x) view m k h i = record { is = λ ne. rw (h.is (λ q. ne (i.1 ∙ q)), i.1) refl }

pub seen_memory : {A B : Type 0} (r : Outcome A) (view : A → B) (x : Outcome B) → IsErr r × IsErrAnd r (λ e. e ≡ OutOfMemory) → Answers (seen view r) x
seen_memory (Ok a) view x i = absurd (cc i.0)
seen_memory (Err e) view x i = record { is = λ ne. absurd (ne i.1) }

-- these close a chain of `?` whose definition is the same chain
pub ruleset answering = (answers_itself, answers_is, answers_ok, answers_err, answers_memory, seen_err, seen_memory)
