-- Register spaces that accesses lead to, each of which is answered with a value.
use Rattle.std.specs.Prelude.{◌≡◌, ℕ, Ok}
use Rattle.ar_space.specs.declared.space.Width.{Width}
use Rattle.ar_space.specs.declared.space.Place.{Place}
use Rattle.ar_space.specs.Accesses.{Accesses}

-- the space before, and what any number of such reads and writes makes of it, one after another
pub data Answered {S : Type 0} (accesses : Accesses S) (before : S) : S → Type 0 where
  none : Answered accesses before before
  read : (s : S) (place : Place) (width : Width) (value : ℕ) → Answered accesses before s → (accesses.reads s place width).0 ≡ Ok value → Answered accesses before (accesses.reads s place width).1
  written : (s : S) (place : Place) (width : Width) (value : ℕ) → Answered accesses before s → (accesses.writes s place width value).0 ≡ Ok tt → Answered accesses before (accesses.writes s place width value).1
