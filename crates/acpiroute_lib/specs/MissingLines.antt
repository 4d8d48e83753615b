-- The lines of bytes that a machine text lacks.
use Rattle.std.specs.Prelude.{ℕ, ◌+◌, ◌%◌, ◌==◌, ◌&&◌, not, Bool, false, List, [], ◌∷◌, ◌++◌, Option, Some, None, codes, if◌then◌else◌}
use Rattle.ar_space.specs.declared.space.Place.{Place}
use Rattle.ar_space.specs.declared.space.Place.TheVariants.{Memory, Io, Pci}
use Rattle.acpi_explain.specs.Explaining.{place_words}

-- a place that follows the one before, and begins no 16 bytes
abbrev pub is_next : ℕ → ℕ → Bool
is_next a b = (b == a + 1) && not (b % 16 == 0)

-- whether a place stands in the line of the one before
abbrev pub is_behind : Place → Place → Bool
is_behind (Memory a) (Memory b) = is_next a b
is_behind (Io a) (Io b) = is_next a b
is_behind (Pci s b d f r) (Pci s2 b2 d2 f2 r2) = (s == s2) && ((b == b2) && ((d == d2) && ((f == f2) && is_next r r2)))
is_behind p q = false

-- a byte in a line of its own, or behind the one before
abbrev pub byte_text : Option Place → Place → List ℕ
byte_text None p = place_words p ++ codes " 00"
byte_text (Some q) p = if is_behind q p then codes "00" else codes "\n" ++ (place_words p ++ codes " 00")

-- what ends the last line
abbrev pub line_end : Option Place → List ℕ
line_end None = []
line_end (Some q) = codes "\n"

-- the bytes behind the one before
abbrev pub lines_behind : Option Place → List Place → List ℕ
lines_behind before [] = line_end before
lines_behind before (p ∷ ps) = byte_text before p ++ lines_behind (Some p) ps

-- each byte once, as 0
abbrev pub missing_lines : List Place → List ℕ
missing_lines places = lines_behind None places
