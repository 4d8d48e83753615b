-- Accesses of a register space to which so many are made, and no more.
use Rattle.std.specs.Prelude.{◌≡◌, ◌≤◌, ◌-◌, ℕ, suc, Some}
use Rattle.ar_space.specs.declared.space.Width.{Width}
use Rattle.ar_space.specs.declared.space.Place.{Place}
use Rattle.ar_space.specs.Accesses.{Accesses}
use Rattle.watched_space.specs.Metering.{Meter}

-- the space before, and what so many reads and writes make of it, one after another
pub data AfterAccesses {S : Type 0} (accesses : Accesses S) (before : S) : ℕ → S → Type 0 where
  none : AfterAccesses accesses before 0 before
  read : (n : ℕ) (s : S) (place : Place) (width : Width) → AfterAccesses accesses before n s → AfterAccesses accesses before (suc n) (accesses.reads s place width).1
  written : (n : ℕ) (s : S) (place : Place) (width : Width) (value : ℕ) → AfterAccesses accesses before n s → AfterAccesses accesses before (suc n) (accesses.writes s place width value).1

-- of so many accesses that may be made of the space below, these were made, and the others are left
pub record MadeAtMost {S : Type 0} (accesses : Accesses S) (bound : ℕ) (before after : Meter S) : Type 0 where
  pub count : ℕ
  pub few : count ≤ bound
  pub left : after.left ≡ Some (bound - count)
  pub made : AfterAccesses accesses before.inner count after.inner
