-- Where a fault of the register space may come from: accesses lead to a space at which one more is answered with it. Which accesses were
-- made is not said here: `Noted` says it of a space that notes them.
use Rattle.std.specs.Prelude.{◌≡◌, ◌≢◌, ℕ, Err}
use Rattle.ar_space.specs.declared.refusal.SpaceFault.{SpaceFault}
use Rattle.ar_space.specs.declared.space.Width.{Width}
use Rattle.ar_space.specs.declared.space.Place.{Place}
use Rattle.ar_space.specs.Accesses.{Accesses}
use Rattle.aml_laws.specs.Answered.{Answered}

-- an access of a space answers with a fault, and leaves a space
pub data Faults {S : Type 0} (accesses : Accesses S) (fault : SpaceFault) (before after : S) : Type 0 where
  read : (place : Place) (width : Width) → accesses.reads before place width ≡ (Err fault, after) → Faults accesses fault before after
  written : (place : Place) (width : Width) (value : ℕ) → accesses.writes before place width value ≡ (Err fault, after) → Faults accesses fault before after

-- some accesses that are all answered with values reach a space at which one more answers with the fault, and that one leaves the space
-- after
pub record LastFaults {S : Type 0} (accesses : Accesses S) (fault : SpaceFault) (before after : S) : Type 0 where
  pub last : S
  pub reached : Answered accesses before last
  pub faults : Faults accesses fault last after

-- no access answers with the fault, whatever the space is
pub record NeverFaults {S : Type 0} (accesses : Accesses S) (fault : SpaceFault) : Type 0 where
  pub reads : (s : S) (place : Place) (width : Width) → (accesses.reads s place width).0 ≢ Err fault
  pub writes : (s : S) (place : Place) (width : Width) (value : ℕ) → (accesses.writes s place width value).0 ≢ Err fault
