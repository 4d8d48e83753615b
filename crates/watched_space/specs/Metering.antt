-- A register space to which so many accesses are made, and no more.
use Rattle.std.specs.Prelude.{ℕ, zero, suc, Option, Some, None, Result, Err, refl}
use Rattle.std.specs.Coded.{Coded, code_by, coded×, coded_ℕ, coded_option}
use Rattle.ar_space.specs.Accesses.{Accesses}
use Rattle.ar_space.specs.declared.refusal.SpaceFault.{SpaceFault}
use Rattle.ar_space.specs.declared.refusal.SpaceFault.TheVariants.{Device}

-- the space, and how many accesses are still made, where they are bounded
pub record Meter (S : Type 0) : Type 0 where
  pub inner : S
  pub left : Option ℕ

abbrev pub meter_code : {S : Type 0} → Coded S → Coded (Meter S)
meter_code {S = S} code =
    code_by (S × Option ℕ) (coded× code (coded_option coded_ℕ))
    (λ m. (m.inner, m.left)) (λ p. record { inner = p.0; left = p.1 }) (λ _. refl)

-- with none left an access answers Device and leaves the space as it is; else it is made, and where they are bounded one less is left
abbrev pub made : {S A : Type 0} → Meter S → Option ℕ → (S → Result A SpaceFault × S) → Result A SpaceFault × Meter S
made m None access = let done = access m.inner in (done.0, record { inner = done.1; left = None })
made m (Some zero) access = (Err Device, m)
made m (Some (suc n)) access = let done = access m.inner in (done.0, record { inner = done.1; left = Some n })

abbrev pub metered : {S : Type 0} → Accesses S → Accesses (Meter S)
metered below = record {
  reads = λ m place width. made m m.left (λ s. below.reads s place width);
  writes = λ m place width value. made m m.left (λ s. below.writes s place width value);
}
