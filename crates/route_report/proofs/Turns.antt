-- A step of a loop that stops at the first refusal, and what it gave.
use Rattle.std.proofs.Common.{◌≡◌, ◌∙◌, ap, sym, refl, Ok, Err}
use Rattle.std.specs.Prelude.{IsErr, IsErrAnd}
use Rattle.ar_space.specs.declared.refusal.Refusal.{Refusal}
use Rattle.ar_space.specs.Outcome.{Outcome, Answers, seen, ◌>>=◌}

pub taken : {A B : Type 0} {a : A} (m : Outcome A) (k : A → Outcome B) → Answers (Ok a) m → (m >>= k) ≡ k a
unfolding ◌>>=◌
taken m k h = ap (λ x. x >>= k) (h.is tt)

pub stopped : {A B C : Type 0} (m : Outcome A) (k : A → Outcome B) (e : Refusal) (r : Outcome C) (view : C → B) {total : Outcome B} → total ≡ (m >>= k)
    → Answers {A = A} (Err e) m → IsErr r × IsErrAnd r (λ z. z ≡ e) → Answers (seen view r) total
unfolding ◌>>=◌
stopped m k e (Ok a) view is h i = absurd (cc i.0)
stopped m k e (Err z) view is h i = record { is = λ ne. is ∙ ap (λ x. x >>= k) (h.is (λ q. ne (i.1 ∙ q))) ∙ ap Err (sym i.1) }

-- the same, where the value isn't seen by a view
pub halted : {A B : Type 0} (m : Outcome A) (k : A → Outcome B) (e : Refusal) (r : Outcome B) {total : Outcome B} → total ≡ (m >>= k)
    → Answers {A = A} (Err e) m → IsErr r × IsErrAnd r (λ z. z ≡ e) → Answers r total
unfolding ◌>>=◌
halted m k e (Ok a) is h i = absurd (cc i.0)
halted m k e (Err z) is h i = record { is = λ ne. is ∙ ap (λ x. x >>= k) (h.is (λ q. ne (i.1 ∙ q))) ∙ ap Err (sym i.1) }

pub at_last : {A B : Type 0} {a : A} (m : Outcome A) (k : A → Outcome B) (r : Outcome B) {total : Outcome B} → total ≡ (m >>= k) → Answers (Ok a) m → Answers r (k a) → Answers r total
unfolding ◌>>=◌
at_last m k r is h i = record { is = λ ne. is ∙ ap (λ x. x >>= k) (h.is tt) ∙ i.is ne }

-- what a step gave where the whole is no refusal
pub went_on : {A B : Type 0} (m : Outcome A) (k : A → Outcome B) (b : B) → (m >>= k) ≡ Ok b → (a : A) × (m ≡ Ok a) × (k a ≡ Ok b)
unfolding ◌>>=◌
went_on (Ok a) k b e = (a, refl, e)
went_on (Err z) k b e = absurd (cc e)
