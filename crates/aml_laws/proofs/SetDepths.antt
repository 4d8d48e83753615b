-- Refusals for a depth that the setting doesn't allow, which come only where it allows less than the default.
use Rattle.std.specs.Prelude.{◌≡◌, ℕ, ◌||◌, nat_lt, Bool, true, false, Ok, Err, refl, if◌then◌else◌}
use Rattle.std.proofs.Common.{arith, ap, ◌∙◌}
use Rattle.std.proofs.lemmas.Bool.Decides.{nat_tests}
use Rattle.ar_space.specs.declared.refusal.Refusal.{Refusal}
use Rattle.ar_space.specs.declared.refusal.Refusal.TheVariants as refusals
use Rattle.ar_space.specs.declared.refusal.EvaluationFault.{EvaluationFault}
use Rattle.ar_space.specs.declared.refusal.EvaluationFault.TheVariants.{OutOfSteps, CallDepth, DepthSetting}
use Rattle.ar_space.specs.Outcome.{Outcome, seen}
use Rattle.aml_world.specs.declared.state.settings.Nesting.{Nesting}
use Rattle.aml_world.specs.state.Invocations.{call_allowed_within}
use Rattle.aml_laws.proofs.CleanOutcomes.{Clean, CleanRefusal, IsUnset}

-- whether fewer calls or levels are allowed than the default, which is as many as there may ever be
abbrev pub is_low : Nesting → Bool
is_low d = nat_lt d.calls 32 || nat_lt d.levels 64

-- low: whether it is so
abbrev pub SetFault : EvaluationFault → Bool → Type 0
SetFault DepthSetting low = low ≡ true
SetFault _ low = Unit {0}

abbrev pub SetRefusal : Refusal → Bool → Type 0
SetRefusal (refusals.Evaluation fault) low = SetFault fault low
SetRefusal _ low = Unit {0}

-- an outcome is no refusal for a depth that the setting doesn't allow, or it is so
abbrev pub OfSetting : {A : Type 0} → Outcome A → Bool → Type 0
OfSetting (Ok a) low = Unit {0}
OfSetting (Err e) low = SetRefusal e low

-- ---- outcomes that are clean but for that

abbrev pub CleanFaultWithin : Bool → EvaluationFault → Type 0
CleanFaultWithin low DepthSetting = low ≡ true
CleanFaultWithin low fault = IsUnset fault

abbrev pub CleanRefusalWithin : Bool → Refusal → Type 0
CleanRefusalWithin low (refusals.Evaluation fault) = CleanFaultWithin low fault
CleanRefusalWithin low e = CleanRefusal e

abbrev pub CleanWithin : {A : Type 0} → Bool → Outcome A → Type 0
CleanWithin low (Ok a) = Unit {0}
CleanWithin low (Err e) = CleanRefusalWithin low e

clean_fault_within : (low : Bool) (f : EvaluationFault) → IsUnset f → CleanFaultWithin low f
clean_fault_within low DepthSetting c = absurd c
clean_fault_within low _ c = c

clean_refusal_within : (low : Bool) (e : Refusal) → CleanRefusal e → CleanRefusalWithin low e
clean_refusal_within low (refusals.Evaluation f) c = clean_fault_within low f c
clean_refusal_within low _ c = c

pub clean_within : {A : Type 0} (low : Bool) (x : Outcome A) → Clean x → CleanWithin low x
clean_within low (Ok a) c = tt
clean_within low (Err e) c = clean_refusal_within low e c

within_fault_set : (low : Bool) (f : EvaluationFault) → CleanFaultWithin low f → SetFault f low
within_fault_set low DepthSetting c = c
within_fault_set low _ c = tt

within_refusal_set : (low : Bool) (e : Refusal) → CleanRefusalWithin low e → SetRefusal e low
within_refusal_set low (refusals.Evaluation f) c = within_fault_set low f c
within_refusal_set low _ c = tt

pub within_of_setting : {A : Type 0} (low : Bool) (x : Outcome A) → CleanWithin low x → OfSetting x low
within_of_setting low (Ok a) c = tt
within_of_setting low (Err e) c = within_refusal_set low e c

pub seen_within : {A B : Type 0} (low : Bool) (view : A → B) (x : Outcome A) → CleanWithin low x → CleanWithin low (seen view x)
seen_within low view (Ok a) c = tt
seen_within low view (Err e) c = c

-- where one is so, the other is
low_fault : (a b : Bool) (f : EvaluationFault) → (a ≡ true → b ≡ true) → CleanFaultWithin a f → CleanFaultWithin b f
low_fault a b DepthSetting h c = h c
low_fault a b _ h c = c

low_refusal : (a b : Bool) (e : Refusal) → (a ≡ true → b ≡ true) → CleanRefusalWithin a e → CleanRefusalWithin b e
low_refusal a b (refusals.Evaluation f) h c = low_fault a b f h c
low_refusal a b _ h c = c

pub low_so : {A : Type 0} (a b : Bool) (x : Outcome A) → (a ≡ true → b ≡ true) → CleanWithin a x → CleanWithin b x
low_so a b (Ok v) h c = tt
low_so a b (Err e) h c = low_refusal a b e h c

or_true : (b : Bool) → (b || true) ≡ true
or_true true = refl
or_true false = refl

pub few_calls : (d : Nesting) → nat_lt d.calls 32 ≡ true → is_low d ≡ true
few_calls d e = ap (λ b. b || nat_lt d.levels 64) e

pub few_levels : (d : Nesting) → nat_lt d.levels 64 ≡ true → is_low d ≡ true
few_levels d e = ap (λ b. nat_lt d.calls 32 || b) e ∙ or_true (nat_lt d.calls 32)

-- ---- calls

calls_by : (a b low : Bool) → (a ≡ true → b ≡ false → low ≡ true) → CleanWithin {A = Unit {0}} low (if a then (if b then Ok tt else Err (refusals.Evaluation DepthSetting)) else Err (refusals.Evaluation CallDepth))
calls_by true true low h = tt
calls_by true false low h = h refl refl
calls_by false b low h = tt

pub call_allowed_clean : (calls depth : ℕ) → CleanWithin (nat_lt calls 32) (call_allowed_within calls depth)
call_allowed_clean calls depth = calls_by (nat_lt depth 32) (nat_lt depth calls) (nat_lt calls 32) (λ e f. grind (arith, nat_tests, e, f))

-- ---- outcomes of changes

pub branch_of_setting : {H A : Type 0} (low : H → Bool) (b : Bool) (x y : Outcome A × H) → OfSetting x.0 (low x.1) → OfSetting y.0 (low y.1) → OfSetting (if b then x else y).0 (low (if b then x else y).1)
branch_of_setting low true x y f g = f
branch_of_setting low false x y f g = g

fault_anywhere : (f : EvaluationFault) (low : Bool) → SetFault f false → SetFault f low
fault_anywhere DepthSetting low h = absurd (cc h)
fault_anywhere _ low h = tt

refusal_anywhere : (e : Refusal) (low : Bool) → SetRefusal e false → SetRefusal e low
refusal_anywhere (refusals.Evaluation f) low h = fault_anywhere f low h
refusal_anywhere _ low h = tt

pub set_anywhere : {A : Type 0} (x : Outcome A) (low : Bool) → OfSetting x false → OfSetting x low
set_anywhere (Ok a) low h = tt
set_anywhere (Err e) low h = refusal_anywhere e low h

pub seen_of_setting : {A B : Type 0} (view : A → B) (x : Outcome A) (low : Bool) → OfSetting x low → OfSetting (seen view x) low
seen_of_setting view (Ok a) low h = tt
seen_of_setting view (Err e) low h = h
