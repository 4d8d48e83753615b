-- Refusals that are told, and halts.
use Rattle.std.proofs.Common.{◌≡◌, ◌≢◌, ◌∙◌, ap, subst, sym}
use Rattle.std.specs.Prelude.{List, Result, Bool, true, false, Ok, Err, IfOk, IfErr, IsErr, IsErrAnd}
use Rattle.ar_space.specs.Accesses.{Accesses}
use Rattle.ar_space.specs.Change.{Change, Does}
use Rattle.ar_space.specs.Outcome.{Outcome, Answers, seen}
use Rattle.ar_space.specs.declared.refusal.Refusal.{Refusal}
use Rattle.ar_space.specs.declared.refusal.Refusal.TheVariants.{OutOfMemory}
use Rattle.aml_path.specs.declared.segment.Seg.{Seg}
use Rattle.aml_world.specs.state.Given.{Given, given_of}
use Rattle.aml_world.specs.declared.state.datum.Datum.{Datum}
use Rattle.acpi_machine.specs.Calls.{evaluated_object}
use Rattle.acpi_machine.specs.MachineStates.{MachineState}
use Rattle.acpi_explain.specs.Refused.{TellsRefused, is_memory}
use Rattle.acpi_explain.specs.Stages.{IsEvaluation}
use Rattle.acpi_explain.specs.Halting.{IsHaltBy, IsHaltOf}
use Rattle.acpi_explain.specs.declared.halt.Halt.{Halt}
use Rattle.acpi_explain.specs.declared.halt.Halt.TheVariants.{Memory, At}
use Rattle.acpi_explain.specs.declared.stage.Stage.{Stage}
use Rattle.acpi_explain.specs.declared.stage.Stage.TheVariants.{Gathering as Together}

pub not_memory : (e : Refusal) → is_memory e ≡ false → e ≢ OutOfMemory
not_memory e h q = let never : true ≡ false = sym (ap is_memory q) ∙ h in cc never

-- ---- whether a call was refused

pub told_refused : {A : Type 0} (x : Outcome A) (e : Refusal) → x ≡ Err e → is_memory e ≡ false → TellsRefused x true
told_refused x e is h = subst (λ y. TellsRefused y true) (sym is) (not_memory e h)

pub told_answered : {A : Type 0} (x : Outcome A) (a : A) → x ≡ Ok a → TellsRefused x false
told_answered x a is = subst (λ y. TellsRefused y false) (sym is) tt

pub refused_by : {S A : Type 0} (m : Change S A) (before after : S) (r : Outcome A) → Does r after m before → TellsRefused r true → (e : Refusal) × (m before ≡ (Err e, after))
refused_by m before after (Ok a) d h = absurd h
refused_by m before after (Err e) d h = (e, d.is h)

pub answered_by : {S A : Type 0} (m : Change S A) (before after : S) (r : Outcome A) → Does r after m before → TellsRefused r false → (a : A) × (m before ≡ (Ok a, after))
answered_by m before after (Ok a) d h = (a, d.is tt)
answered_by m before after (Err e) d h = absurd h

pub refused_if : {S A : Type 0} (m : Change S A) (before after : S) (r : Outcome A) (b : Bool) → Does r after m before → TellsRefused r b → b ≡ true → (e : Refusal) × (m before ≡ (Err e, after))
refused_if m before after r b d h is = refused_by m before after r d (subst (λ x. TellsRefused r x) is h)

pub answered_if : {S A : Type 0} (m : Change S A) (before after : S) (r : Outcome A) (b : Bool) → Does r after m before → TellsRefused r b → b ≡ false → (a : A) × (m before ≡ (Ok a, after))
answered_if m before after r b d h is = answered_by m before after r d (subst (λ x. TellsRefused r x) is h)

-- ---- halts

pub halt_there : (e : Refusal) (stage : Stage) (IsIt : Stage → Type 0) (halt : Halt) → IsHaltBy e (λ s. s ≡ stage) halt → IsIt stage → IsHaltBy e IsIt halt
halt_there e stage IsIt Memory h it = tt
halt_there e stage IsIt (At s) h it = (h.0, subst IsIt (sym h.1) it)

pub halt_told : {A : Type 0} (x : Outcome A) (e : Refusal) (halt : Halt) → x ≡ Err e → IsHaltBy e (λ s. s ≡ Together) halt → IsHaltOf x halt
halt_told x e Memory is h = tt
halt_told x e (At s) is h = (e, h.1, h.0, is)

-- a halt that `?` hands on
pub handed : {A : Type 0} (r : Result A Halt) (halt : Halt) (P : Halt → Type 0) → IsErr r × IsErrAnd r (λ x. x ≡ halt) → P halt → IfErr r P
handed (Ok a) halt P i p = tt
handed (Err x) halt P i p = subst P (sym i.1) p

-- ---- what is answered without a change

told_is : {A : Type 0} (x y : Outcome A) (e : Refusal) → Answers x y → e ≢ OutOfMemory → x ≡ Err e → y ≡ Err e
told_is (Ok a) y e d ne h = absurd (cc h)
told_is {A = A} (Err z) y e d ne h = let same : z ≡ e = cc h in d.is (λ q. ne (sym same ∙ q)) ∙ h

told_ok : {A : Type 0} (x y : Outcome A) (a : A) → Answers x y → x ≡ Ok a → y ≡ Ok a
told_ok (Ok b) y a d h = d.is tt ∙ h
told_ok (Err z) y a d h = absurd (cc h)

halt_answered : {A : Type 0} (x y : Outcome A) (halt : Halt) → Answers x y → IsHaltOf x halt → IsHaltOf y halt
halt_answered x y Memory d h = tt
halt_answered x y (At s) d h = (h.0, h.1, h.2, told_is x y h.0 d h.2 h.3)

pub test_passed : (r : Result (Unit {0}) Halt) (x y : Outcome (Unit {0})) → Answers x y → IfOk r (λ _. x ≡ Ok tt) → IfOk r (λ _. y ≡ Ok tt)
test_passed (Ok u) x y d h = told_ok x y tt d h
test_passed (Err halt) x y d h = tt

pub test_halted : (r : Result (Unit {0}) Halt) (x y : Outcome (Unit {0})) → Answers x y → IfErr r (IsHaltOf x) → IfErr r (IsHaltOf y)
test_halted (Ok u) x y d h = tt
test_halted (Err halt) x y d h = halt_answered x y halt d h

-- ---- one evaluation

pub evaluation_told : {S E : Type 0} (accesses : Accesses S) (p : List Seg) (arguments : List Given) (before after : MachineState S) (r : Result Bool E) (o : Outcome Datum) → IfOk r (TellsRefused o)
    → Does (seen given_of o) after (evaluated_object accesses p arguments) before → IfOk r (IsEvaluation accesses p arguments before)
evaluation_told accesses p arguments before after (Ok true) (Ok d) h is = absurd h
evaluation_told accesses p arguments before after (Ok true) (Err e) h is = (e, after, is.is h)
evaluation_told accesses p arguments before after (Ok false) (Ok d) h is = (given_of d, after, is.is tt)
evaluation_told accesses p arguments before after (Ok false) (Err e) h is = absurd h
evaluation_told accesses p arguments before after (Err e) o h is = tt
