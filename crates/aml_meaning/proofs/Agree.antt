-- Two runs that agree where at most n steps are left, and leave no more steps than they got.
use Rattle.std.specs.Prelude.{◌≡◌, ℕ, zero, suc, ◌≤◌, ◌==◌, false, Ok, Err, refl}
use Rattle.std.proofs.Common.{arith, ap, ◌∙◌}
use Rattle.ar_space.specs.declared.refusal.Refusal.{Refusal}
use Rattle.ar_space.specs.Outcome.{Outcome}
use Rattle.ar_space.specs.Change.{Change, give, stop, settle, go_on, ◌>>=◌}
use Rattle.aml_world.specs.state.State.{State}
use Rattle.aml_world.specs.state.Run.{Run, lift, charge}

pub record Agree {S A : Type 0} (n : ℕ) (m k : Run S A) : Type 0 where
  pub same : (s : State S × ℕ) → s.1 ≤ n → m s ≡ k s
  pub less : (s : State S × ℕ) → s.1 ≤ n → (m s).1.1 ≤ s.1

pub agree_give : {S A : Type 0} {n : ℕ} (a : A) → Agree {S = S} n (give a) (give a)
unfolding give
agree_give a = record { same = λ s h. refl; less = λ s h. omega arith }

pub agree_stop : {S A : Type 0} {n : ℕ} (e : Refusal) → Agree {S = S} {A = A} n (stop e) (stop e)
unfolding stop
agree_stop e = record { same = λ s h. refl; less = λ s h. omega arith }

pub agree_settle : {S A : Type 0} {n : ℕ} (x : Outcome A) → Agree {S = S} n (settle x) (settle x)
unfolding settle
agree_settle x = record { same = λ s h. refl; less = λ s h. omega arith }

pub agree_lift : {S A : Type 0} {n : ℕ} (p : Change (State S) A) → Agree n (lift p) (lift p)
unfolding lift
agree_lift p = record { same = λ s h. refl; less = λ s h. omega arith }

pub not_zero : (b : ℕ) → (suc b == 0) ≡ false
not_zero b = grind arith

charge_less : {S : Type 0} (w : State S) (b : ℕ) → (charge (w, b)).1.1 ≤ b
unfolding charge
charge_less w zero = omega arith
charge_less w (suc b) = rw (not_zero b) (omega arith)

pub agree_charge : {S : Type 0} {n : ℕ} → Agree {S = S} n charge charge
agree_charge = record { same = λ s h. refl; less = λ s h. charge_less s.0 s.1 }

go_on_agrees : {S A B : Type 0} {n : ℕ} (r : Outcome A) (s : State S × ℕ) (k l : A → Run S B) → ((a : A) → Agree n (k a) (l a)) → s.1 ≤ n → (go_on r s k ≡ go_on r s l) × ((go_on r s k).1.1 ≤ s.1)
unfolding go_on
go_on_agrees (Ok a) s k l h le = ((h a).same s le, (h a).less s le)
go_on_agrees (Err e) s k l h le = (refl, omega arith)

pub agree_bind : {S A B : Type 0} {n : ℕ} (m m' : Run S A) (k l : A → Run S B) → Agree n m m' → ((a : A) → Agree n (k a) (l a)) → Agree n (m >>= k) (m' >>= l)
unfolding ◌>>=◌
agree_bind m m' k l h i = record {
  same = λ s le. let t = h.less s le in (go_on_agrees (m s).0 (m s).1 k l i (omega arith)).0 ∙ ap (λ a. go_on a.0 a.1 l) (h.same s le);
  less = λ s le. let t = h.less s le in let u = (go_on_agrees (m s).0 (m s).1 k l i (omega arith)).1 in omega arith;
}

pub ruleset agreeing = (agree_give, agree_stop, agree_settle, agree_lift, agree_charge, agree_bind)
