-- The texts that ToInteger reads (ACPI 6.5, 19.6: ToInteger).
use Rattle.std.specs.Prelude.{◌≡◌, ◌≢◌, ◌⊎◌, ◌<◌, ◌+◌, ℕ, List, [], ◌∷◌}

-- characters that are the decimal digits of these values
pub data AreFigures : List ℕ → List ℕ → Type 0 where
  no_figures : AreFigures [] []
  further_figure : (d : ℕ) (figures numbers : List ℕ) → d < 10 → AreFigures figures numbers → AreFigures ((48 + d) ∷ figures) (d ∷ numbers)

-- a text doesn't begin with a decimal digit
pub data BeginsWithoutFigure : List ℕ → Type 0 where
  empty : BeginsWithoutFigure []
  no_figure : (c : ℕ) (text : List ℕ) → ((d : ℕ) → d < 10 → c ≢ 48 + d) → BeginsWithoutFigure (c ∷ text)

-- a text begins with `0x` or `0X`
pub data IsPrefixed : List ℕ → Type 0 where
  prefix : (x : ℕ) (text : List ℕ) → (x ≡ 120) ⊎ (x ≡ 88) → IsPrefixed (48 ∷ x ∷ text)
