-- What a run is asked for.
use Rattle.std.specs.Prelude.{ℕ, Bool, false, List}

-- whether no link is set, the interrupts that no link is given, whether those of other devices are spared, whether links are to share
-- interrupts as little as they can, and whether the report has lines for a kernel
pub record RunOptions : Type 0 where
  pub dry : Bool
  pub avoid : List ℕ
  pub spare : Bool
  pub spread : Bool
  pub kernel : Bool

-- none of these
abbrev pub plain : Bool → List ℕ → RunOptions
plain dry avoid = record { dry = dry; avoid = avoid; spare = false; spread = false; kernel = false }
