-- Changes that are refused, if at all, by what is told of terms and names, whatever the state is. A lemma `x_reads` says so of x.
use Rattle.std.specs.Prelude.{Bool, true, false, Ok, Err, if◌then◌else◌}
use Rattle.ar_space.specs.declared.refusal.Refusal.{Refusal}
use Rattle.ar_space.specs.Outcome.{Outcome}
use Rattle.ar_space.specs.Change.{Change, give, stop, settle, go_on, ◌>>=◌}
use Rattle.aml_laws.proofs.TermRefusals.{TellsOfTerms, Reads}

pub record AllReads {H A : Type 0} (m : Change H A) : Type 0 where
  pub reads : (h : H) → Reads (m h).0

module _ {H : Type 0} where
  pub give_reads : {A : Type 0} (a : A) → AllReads {H = H} (give a)
  unfolding give
  give_reads a = record { reads = λ h. tt }

  pub stop_reads : {A : Type 0} (e : Refusal) → TellsOfTerms e → AllReads {H = H} {A = A} (stop e)
  unfolding stop
  stop_reads e apart = record { reads = λ h. apart }

  pub settle_reads : {A : Type 0} (x : Outcome A) → Reads x → AllReads {H = H} (settle x)
  unfolding settle
  settle_reads x c = record { reads = λ h. c }

  pub direct_reads : {A : Type 0} (m : Change H A) → ((h : H) → Reads (m h).0) → AllReads m
  direct_reads m c = record { reads = c }

  go_on_reads : {A B : Type 0} (r : Outcome A) (h : H) (k : A → Change H B) → Reads r → ((a : A) → AllReads (k a)) → Reads (go_on r h k).0
  unfolding go_on
  go_on_reads (Ok a) h k c all = (all a).reads h
  go_on_reads (Err e) h k c all = c

  pub then_reads : {A B : Type 0} (m : Change H A) (k : A → Change H B) → AllReads m → ((a : A) → AllReads (k a)) → AllReads (m >>= k)
  unfolding ◌>>=◌
  then_reads m k c all = record { reads = λ h. go_on_reads (m h).0 (m h).1 k (c.reads h) all }

  pub if_all_reads : {A : Type 0} (b : Bool) (m k : Change H A) → AllReads m → AllReads k → AllReads (if b then m else k)
  if_all_reads true m k h i = h
  if_all_reads false m k h i = i

  pub branch_reads : {A : Type 0} (b : Bool) (x y : Outcome A × H) → Reads x.0 → Reads y.0 → Reads (if b then x else y).0
  branch_reads true x y h i = h
  branch_reads false x y h i = i
