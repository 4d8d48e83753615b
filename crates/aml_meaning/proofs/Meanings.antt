-- What holds of the meaning of every term: a step and its rule, and how many steps are left.
use Rattle.std.specs.Prelude.{◌≡◌, ℕ, zero, suc, ◌≤◌, ◌<◌, Ok, refl}
use Rattle.std.proofs.Common.{arith, sym, ◌∙◌, sub-one}
use Rattle.ar_space.specs.Accesses.{Accesses}
use Rattle.ar_space.specs.Outcome.{Outcome}
use Rattle.ar_space.specs.Change.{Does, go_on, ◌>>=◌, ◌>>◌}
use Rattle.aml_world.specs.state.State.{State}
use Rattle.aml_world.specs.state.Run.{charge}
use Rattle.aml_meaning.specs.declared.flow.Flow.{Flow}
use Rattle.aml_meaning.specs.Tasks.{Task}
use Rattle.aml_meaning.specs.Evaluation.{rule}
use Rattle.aml_meaning.specs.Meaning.{evaluated_within, meaning, step_and_rule}
use Rattle.aml_meaning.proofs.Agree.{Agree, not_zero}
use Rattle.aml_meaning.proofs.AgreeTerms.{agree_rule}

-- ---- more steps than are left make no difference

same_within : {S : Type 0} (accesses : Accesses S) (n m : ℕ) (t : Task) (w : State S) (b : ℕ) → b ≤ n → n ≤ m → (evaluated_within accesses n t (w, b) ≡ evaluated_within accesses m t (w, b)) × ((evaluated_within accesses n t (w, b)).1.1 ≤ b)
unfolding evaluated_within
same_within accesses zero zero t w b h l = (refl, omega arith)
same_within accesses zero (suc m) t w zero h l = (refl, omega arith)
same_within accesses zero (suc m) t w (suc b) h l = absurd (omega arith)
same_within accesses (suc n) zero t w b h l = absurd (omega arith)
same_within accesses (suc n) (suc m) t w zero h l = (refl, omega arith)
same_within {S} accesses (suc n) (suc m) t w (suc b) h l =
    let all : (u : Task) → Agree {S = S} n (evaluated_within accesses n u) (evaluated_within accesses m u) = λ u. record { same = λ s le. (same_within accesses n m u s.0 s.1 le (omega arith)).0; less = λ s le. (same_within accesses n m u s.0 s.1 le (omega arith)).1 } in
    let a : Agree n (rule accesses (evaluated_within accesses n) t) (rule accesses (evaluated_within accesses m) t) = agree_rule accesses (evaluated_within accesses n) (evaluated_within accesses m) all t in
    let le : b ≤ n = omega arith in
    (a.same (w, b) le, let d = a.less (w, b) le in omega arith)

bounded : {S : Type 0} (accesses : Accesses S) (n : ℕ) (u : Task) → Agree {S = S} n (evaluated_within accesses n u) (meaning accesses u)
unfolding meaning
bounded accesses n u = record {
  same = λ s le. sym (same_within accesses s.1 n u s.0 s.1 (omega arith) le).0;
  less = λ s le. (same_within accesses n n u s.0 s.1 le (omega arith)).1;
}

is_charged : {S : Type 0} (accesses : Accesses S) (t : Task) (w : State S) (b : ℕ) → meaning accesses t (w, b) ≡ (charge >> rule accesses (meaning accesses) t) (w, b)
unfolding meaning evaluated_within charge ◌>>=◌ go_on
is_charged accesses t w zero = refl
is_charged accesses t w (suc b) = rw (not_zero b, sub-one) ((agree_rule accesses (evaluated_within accesses b) (meaning accesses) (bounded accesses b) t).same (w, b) (omega arith))

pub meaning_is : {S : Type 0} (accesses : Accesses S) (t : Task) (s : State S × ℕ) → meaning accesses t s ≡ step_and_rule accesses t s
meaning_is accesses t s = is_charged accesses t s.0 s.1

-- no term leaves more steps than it got
pub meaning_less : {S : Type 0} (accesses : Accesses S) (t : Task) (s : State S × ℕ) → (meaning accesses t s).1.1 ≤ s.1
unfolding meaning
meaning_less accesses t s = (same_within accesses s.1 s.1 t s.0 s.1 (omega arith) (omega arith)).1

pub does_meaning : {S : Type 0} {r : Outcome Flow} {s s1 : State S × ℕ} (accesses : Accesses S) (t : Task) → Does r s1 (charge >> rule accesses (meaning accesses) t) s → Does r s1 (meaning accesses t) s
does_meaning {s = s} accesses t h = record { is = λ ne. meaning_is accesses t s ∙ h.is ne }

-- a term that begins leaves fewer, however it ends
pub meaning_charged : {S : Type 0} (accesses : Accesses S) (t : Task) (s : State S × ℕ) → 0 < s.1 → (meaning accesses t s).1.1 < s.1
unfolding meaning evaluated_within
meaning_charged accesses t (w, zero) some = absurd (omega arith)
meaning_charged accesses t (w, suc b) some = let l = (agree_rule accesses (evaluated_within accesses b) (meaning accesses) (bounded accesses b) t).less (w, b) (omega arith) in omega arith

-- a term that is not refused began
pub meaning_paid : {S : Type 0} (accesses : Accesses S) (t : Task) (s : State S × ℕ) (f : Flow) → (meaning accesses t s).0 ≡ Ok f → (meaning accesses t s).1.1 < s.1
unfolding meaning evaluated_within
meaning_paid accesses t (w, zero) f e = absurd (cc e)
meaning_paid accesses t (w, suc b) f e = let l = (agree_rule accesses (evaluated_within accesses b) (meaning accesses) (bounded accesses b) t).less (w, b) (omega arith) in omega arith
