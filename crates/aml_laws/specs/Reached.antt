-- Register spaces that accesses lead to.
use Rattle.std.specs.Prelude.{◌≡◌, ℕ, Bool, true}
use Rattle.ar_space.specs.declared.space.Width.{Width}
use Rattle.ar_space.specs.declared.space.Place.{Place}
use Rattle.ar_space.specs.Accesses.{Accesses}

-- the space before, and what any number of reads and writes makes of it, one after another
pub data Reached {S : Type 0} (accesses : Accesses S) (before : S) : S → Type 0 where
  none : Reached accesses before before
  read : (s : S) (place : Place) (width : Width) → Reached accesses before s → Reached accesses before (accesses.reads s place width).1
  written : (s : S) (place : Place) (width : Width) (value : ℕ) → Reached accesses before s → Reached accesses before (accesses.writes s place width value).1

-- what holds of a space after each read and each write, if it holds before
pub record KeptByAccesses {S : Type 0} (accesses : Accesses S) (test : S → Bool) : Type 0 where
  pub reads : (s : S) (place : Place) (width : Width) → test s ≡ true → test (accesses.reads s place width).1 ≡ true
  pub writes : (s : S) (place : Place) (width : Width) (value : ℕ) → test s ≡ true → test (accesses.writes s place width value).1 ≡ true
