-- What stands in a writer, and what a text leaves in it.
use Rattle.std.specs.Prelude.{ℕ, ◌<◌, Bool, true, false, List, length, take, Option}
use Rattle.std.specs.Io.KnownBytes.{Appends}

-- the bytes, where they are known, and whether a write failed
pub record Held : Type 0 where
  pub bytes : Option (List ℕ)
  pub has_failed : Bool

-- the text went out whole, or a write failed and a front part went out, not the whole
abbrev pub TakesUnless : Bool → Option (List ℕ) → Option (List ℕ) → List ℕ → Type 0
TakesUnless false old new text = Appends old new text
TakesUnless true old new text = (n : ℕ) × (n < length text) × Appends old new (take n text)

abbrev pub Takes : Held → Held → List ℕ → Type 0
Takes old new text = TakesUnless new.has_failed old.bytes new.bytes text
