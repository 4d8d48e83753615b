-- Changes that answer with no fault of the register space, whatever the state is. A lemma `x_clean` says so of x.
use Rattle.std.specs.Prelude.{Bool, true, false, Ok, Err, if◌then◌else◌}
use Rattle.ar_space.specs.declared.refusal.Refusal.{Refusal}
use Rattle.ar_space.specs.Outcome.{Outcome}
use Rattle.ar_space.specs.Change.{Change, give, stop, settle, go_on, ◌>>=◌}
use Rattle.aml_laws.proofs.CleanOutcomes.{CleanRefusal, Clean}

pub record AllClean {H A : Type 0} (m : Change H A) : Type 0 where
  pub clean : (h : H) → Clean (m h).0

module _ {H : Type 0} where
  pub give_clean : {A : Type 0} (a : A) → AllClean {H = H} (give a)
  unfolding give
  give_clean a = record { clean = λ h. tt }

  pub stop_clean : {A : Type 0} (e : Refusal) → CleanRefusal e → AllClean {H = H} {A = A} (stop e)
  unfolding stop
  stop_clean e apart = record { clean = λ h. apart }

  pub settle_clean : {A : Type 0} (x : Outcome A) → Clean x → AllClean {H = H} (settle x)
  unfolding settle
  settle_clean x c = record { clean = λ h. c }

  pub direct_clean : {A : Type 0} (m : Change H A) → ((h : H) → Clean (m h).0) → AllClean m
  direct_clean m c = record { clean = c }

  go_on_clean : {A B : Type 0} (r : Outcome A) (h : H) (k : A → Change H B) → Clean r → ((a : A) → AllClean (k a)) → Clean (go_on r h k).0
  unfolding go_on
  go_on_clean (Ok a) h k c all = (all a).clean h
  go_on_clean (Err e) h k c all = c

  pub then_clean : {A B : Type 0} (m : Change H A) (k : A → Change H B) → AllClean m → ((a : A) → AllClean (k a)) → AllClean (m >>= k)
  unfolding ◌>>=◌
  then_clean m k c all = record { clean = λ h. go_on_clean (m h).0 (m h).1 k (c.clean h) all }

  pub if_all_clean : {A : Type 0} (b : Bool) (m k : Change H A) → AllClean m → AllClean k → AllClean (if b then m else k)
  if_all_clean true m k h i = h
  if_all_clean false m k h i = i

  pub branch_clean : {A : Type 0} (b : Bool) (x y : Outcome A × H) → Clean x.0 → Clean y.0 → Clean (if b then x else y).0
  branch_clean true x y h i = h
  branch_clean false x y h i = i
