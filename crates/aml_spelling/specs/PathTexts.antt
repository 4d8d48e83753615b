-- How a path may be written as text (ACPI 6.5, 5.3 and 19.2.2): `\`, which is 92, and its segments with a dot, which is 46, between each
-- two. As in ASL, a segment may be written without `_`, which is 95, at its end.
use Rattle.std.specs.Prelude.{◌≡◌, ◌<◌, ℕ, List, [], ◌∷◌, ◌++◌, length}
use Rattle.std.specs.List.{AllByRecursion}
use Rattle.aml_path.specs.declared.segment.Seg.{Seg}

-- the first characters of a segment, one at least, where each that is left out is `_`
abbrev pub Shortens : List ℕ → Seg → Type 0
Shortens text s = (0 < length text) × (missing : List ℕ) × (s.bytes ≡ text ++ missing) × AllByRecursion (λ b. b ≡ 95) missing

-- one segment at least, with dots between them
abbrev pub AreDotted : List ℕ → List Seg → Type 0
AreDotted text [] = ⊥
AreDotted text (s ∷ []) = Shortens text s
AreDotted text (s ∷ path) = (first : List ℕ) × (rest : List ℕ) × (text ≡ first ++ 46 ∷ rest) × Shortens first s × AreDotted rest path

-- the root has no segment
abbrev pub IsPathText : List ℕ → List Seg → Type 0
IsPathText text [] = text ≡ 92 ∷ []
IsPathText text (s ∷ path) = (segments : List ℕ) × (text ≡ 92 ∷ segments) × AreDotted segments (s ∷ path)
