-- A refusal of an outcome that depends on no state, handed on where the value is seen by a view.
use Rattle.std.proofs.Common.{◌≡◌, Err}
use Rattle.std.specs.Prelude.{IsErr, IsErrAnd}
use Rattle.ar_space.specs.declared.refusal.Refusal.{Refusal}
use Rattle.ar_space.specs.Outcome.{Outcome, Answers, seen}
use Rattle.ar_space.specs.Change.{Change, Does, settle, ◌>>=◌}
use Rattle.ar_space.proofs.Changes.{does_settle, does_seen_err}

pub settle_seen_err : {S A B C : Type 0} {e : Refusal} {s : S} (r : Outcome B) (view : B → C) (x : Outcome A) (k : A → Change S C)
    → Answers {A = A} (Err e) x → IsErr r × IsErrAnd r (λ z. z ≡ e) → Does (seen view r) s (settle x >>= k) s
settle_seen_err r view x k h i = does_seen_err r view (settle x) k (does_settle (Err _) x h) i
