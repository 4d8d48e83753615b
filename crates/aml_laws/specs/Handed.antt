-- Values that are handed in and out: their bytes are below 256, and integers that are handed out below two to the width.
use Rattle.std.specs.Prelude.{◌<◌, ◌^◌, ℕ}
use Rattle.ar_space.specs.declared.integer_width.IntegerWidth.{IntegerWidth}
use Rattle.aml_convert.specs.Integers.{bits_of}
use Rattle.aml_world.specs.state.Given.{Given, Nothing, Integer, Text, Bytes, Package, Named, Reference, Givens, none, more}
use Rattle.aml_laws.specs.Plain.{AreBytes}

-- Fits: what holds of each integer
abbrev mutual
  pub Handed : (ℕ → Type 0) → Given → Type 0
  Handed Fits Nothing = Unit {0}
  Handed Fits (Integer n) = Fits n
  Handed Fits (Text bytes) = AreBytes bytes
  Handed Fits (Bytes bytes) = AreBytes bytes
  Handed Fits (Package gs) = AllHanded Fits gs
  Handed Fits (Named p) = Unit {0}
  Handed Fits Reference = Unit {0}

  pub AllHanded : (ℕ → Type 0) → Givens → Type 0
  AllHanded Fits none = Unit {0}
  AllHanded Fits (more g gs) = Handed Fits g × AllHanded Fits gs

-- an argument: integers are cut to the width when they are handed in
abbrev pub PlainGiven : Given → Type 0
PlainGiven g = Handed (λ n. Unit {0}) g

abbrev pub GivenWithin : IntegerWidth → Given → Type 0
GivenWithin width g = Handed (λ n. n < 2 ^ bits_of width) g
