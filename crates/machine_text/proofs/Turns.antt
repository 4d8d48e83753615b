-- A step of a loop that stops at the first refusal.
use Rattle.std.proofs.Common.{◌≡◌, ◌∙◌, ap, sym, Ok, Err}
use Rattle.std.specs.Prelude.{IsErr, IsErrAnd}
use Rattle.ar_space.specs.declared.refusal.Refusal.{Refusal}
use Rattle.ar_space.specs.Outcome.{Outcome, Answers, seen, ◌>>=◌}

pub taken : {A B : Type 0} {a : A} (m : Outcome A) (k : A → Outcome B) → Answers (Ok a) m → (m >>= k) ≡ k a
unfolding ◌>>=◌
taken m k h = ap (λ x. x >>= k) (h.is tt)

pub stopped : {A B C : Type 0} (m : Outcome A) (k : A → Outcome B) (e : Refusal) (r : Outcome C) (view : C → B) {total : Outcome B} → total ≡ (m >>= k)
    → Answers {A = A} (Err e) m → IsErr r × IsErrAnd r (λ z. z ≡ e) → Answers (seen view r) total
unfolding ◌>>=◌
stopped m k e (Ok a) view is h i = absurd (cc i.0)
stopped m k e (Err z) view is h i = record { is = λ ne. is ∙ ap (λ x. x >>= k) (h.is (λ q. ne (i.1 ∙ q))) ∙ ap Err (sym i.1) }
