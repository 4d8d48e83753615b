-- Outcomes that are no fault of the register space, none of the reader or the writer of a run, no want of steps, and no depth that the
-- setting doesn't allow. A lemma `x_clean` says so of each outcome of x, whatever the state is.
use Rattle.std.specs.Prelude.{Bool, true, false, Ok, Err, if◌then◌else◌}
use Rattle.ar_space.specs.declared.refusal.EvaluationFault.{EvaluationFault}
use Rattle.ar_space.specs.declared.refusal.EvaluationFault.TheVariants.{OutOfSteps, DepthSetting}
use Rattle.ar_space.specs.declared.refusal.InputFault.{InputFault}
use Rattle.ar_space.specs.declared.refusal.InputFault.TheVariants.{MachineLine}
use Rattle.ar_space.specs.declared.refusal.Refusal.{Refusal}
use Rattle.ar_space.specs.declared.refusal.Refusal.TheVariants as refusals
use Rattle.ar_space.specs.Outcome.{Outcome, seen, ◌>>=◌}

-- a bad line, and no fault of a read, of a write or of the length
abbrev pub IsOfLine : InputFault → Type 0
IsOfLine (MachineLine n) = Unit {0}
IsOfLine _ = ⊥

-- no want of steps, and no depth that the setting doesn't allow
abbrev pub IsUnset : EvaluationFault → Type 0
IsUnset OutOfSteps = ⊥
IsUnset DepthSetting = ⊥
IsUnset _ = Unit {0}

abbrev pub CleanRefusal : Refusal → Type 0
CleanRefusal (refusals.Space fault) = ⊥
CleanRefusal (refusals.Input fault) = IsOfLine fault
CleanRefusal (refusals.Evaluation fault) = IsUnset fault
CleanRefusal _ = Unit {0}

abbrev pub Clean : {A : Type 0} → Outcome A → Type 0
Clean (Ok a) = Unit {0}
Clean (Err e) = CleanRefusal e

pub if_clean : {A : Type 0} (b : Bool) (x y : Outcome A) → Clean x → Clean y → Clean (if b then x else y)
if_clean true x y h i = h
if_clean false x y h i = i

pub seen_clean : {A B : Type 0} (view : A → B) (x : Outcome A) → Clean x → Clean (seen view x)
seen_clean view (Ok a) h = h
seen_clean view (Err e) h = h

pub followed_clean : {A B : Type 0} (x : Outcome A) (k : A → Outcome B) → Clean x → ((a : A) → Clean (k a)) → Clean (x >>= k)
unfolding ◌>>=◌
followed_clean (Ok a) k h all = all a
followed_clean (Err e) k h all = h
