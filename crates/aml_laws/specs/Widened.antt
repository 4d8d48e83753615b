-- A world in the wide profile, and what the core profile leaves out.
use Rattle.std.specs.Prelude.{◌≡◌, ◌⊎◌, ℕ, true, Ok, Err}
use Rattle.ar_space.specs.declared.refusal.Refusal.{Refusal}
use Rattle.ar_space.specs.declared.refusal.Refusal.TheVariants as refusal
use Rattle.ar_space.specs.declared.refusal.EvaluationFault.TheVariants.{Unsupported, DeepPci}
use Rattle.ar_space.specs.Outcome.{Outcome}
use Rattle.aml_world.specs.declared.state.profile.Profile.TheVariants as profile
use Rattle.aml_world.specs.state.PassedOver.{is_passable}
use Rattle.aml_world.specs.state.State.{State}
use Rattle.aml_meaning.specs.Tasks.{module_level}

-- the same world in the wide profile
abbrev pub widened : {S : Type 0} → State S → State S
widened w = record { names = w.names; arities = w.arities; objects = w.objects; frames = w.frames; started = w.started; space = w.space; osi = w.osi; width = w.width; profile = profile.Wide; nesting = w.nesting; passed = w.passed }

-- what an evaluation gives and leaves, with the world in the wide profile
abbrev pub outcome_widened : {S A : Type 0} → Outcome A × (State S × ℕ) → Outcome A × (State S × ℕ)
outcome_widened r = (r.0, (widened r.1.0, r.1.1))

-- a refusal of what the core profile leaves out: a term, or a register of PCI_Config behind a bridge
abbrev pub LeftOut : Refusal → Type 0
LeftOut e = ((op : ℕ) × (e ≡ refusal.Evaluation (Unsupported op))) ⊎ (e ≡ refusal.Evaluation DeepPci)

-- an outcome is such a refusal
abbrev pub IsLeftOut : {A : Type 0} → Outcome A → Type 0
IsLeftOut (Ok a) = ⊥
IsLeftOut (Err e) = LeftOut e

-- an outcome is a refusal that the wide profile passes over at module level
abbrev pub IsPassable : {A : Type 0} → Outcome A → Type 0
IsPassable (Ok a) = ⊥
IsPassable (Err e) = is_passable e ≡ true

-- what the core profile refuses and the wide one may not, where so many control methods are being called: what it leaves out, and at module
-- level what the wide one passes over
abbrev pub IsLeftOutAt : {A : Type 0} → ℕ → Outcome A → Type 0
IsLeftOutAt depth r = IsLeftOut r ⊎ ((module_level depth ≡ true) × IsPassable r)
