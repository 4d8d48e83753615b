-- A world that is set deeper, and what a depth alone refuses.
use Rattle.std.specs.Prelude.{◌≡◌, ◌+◌, ℕ, Err}
use Rattle.ar_space.specs.declared.refusal.Refusal.TheVariants as refusal
use Rattle.ar_space.specs.declared.refusal.EvaluationFault.TheVariants.{DepthSetting}
use Rattle.ar_space.specs.Outcome.{Outcome}
use Rattle.aml_world.specs.declared.state.settings.Nesting.{Nesting}
use Rattle.aml_world.specs.state.State.{State}

-- so many calls and so many levels more
abbrev pub deeper_by : Nesting → Nesting → Nesting
deeper_by more d = record { calls = d.calls + more.calls; levels = d.levels + more.levels }

-- the same world with so many more
abbrev pub deepened : {S : Type 0} → Nesting → State S → State S
deepened more w = record w { nesting = deeper_by more w.nesting }

abbrev pub outcome_deepened : {S A : Type 0} → Nesting → Outcome A × (State S × ℕ) → Outcome A × (State S × ℕ)
outcome_deepened more r = (r.0, (deepened more r.1.0, r.1.1))

-- what is deeper than the setting allows
abbrev pub IsDepthSetting : {A : Type 0} → Outcome A → Type 0
IsDepthSetting r = r ≡ Err (refusal.Evaluation DepthSetting)
