-- Which bytes are a name segment (ACPI 6.5, 20.2.2: LeadNameChar, NameChar and NameSeg).
use Rattle.std.specs.Prelude.{◌≡◌, ◌⊎◌, ◌≤◌, ℕ, List, [], ◌∷◌}

-- `A` to `Z`, which are 65 to 90, or `_`, which is 95
abbrev pub IsLeadCharacter : ℕ → Type 0
IsLeadCharacter b = ((65 ≤ b) × (b ≤ 90)) ⊎ (b ≡ 95)

-- these, or `0` to `9`, which are 48 to 57
abbrev pub IsCharacter : ℕ → Type 0
IsCharacter b = IsLeadCharacter b ⊎ ((48 ≤ b) × (b ≤ 57))

pub data IsNameSegment : List ℕ → Type 0 where
  four : (a b c d : ℕ) → IsLeadCharacter a → IsCharacter b → IsCharacter c → IsCharacter d → IsNameSegment (a ∷ b ∷ c ∷ d ∷ [])
