-- Names as AML writes them, and the paths for which they stand in a scope (ACPI 6.5, 5.3 and 20.2.2).
use Rattle.std.specs.Prelude.{◌≡◌, ◌<◌, ℕ, List, [], ◌∷◌, ◌++◌, length}
use Rattle.aml_path.specs.declared.segment.Seg.{Seg}
use Rattle.aml_path.specs.declared.name.Prefix.TheVariants.{Root, Parents}
use Rattle.aml_path.specs.Paths.{Name}

-- segments behind `\`; segments behind as many `^`, none of which is no prefix; and one segment alone
abbrev pub from_root : List Seg → Name
from_root segments = record { prefix = Root; segments = segments }

abbrev pub from_parents : ℕ → List Seg → Name
from_parents count segments = record { prefix = Parents count; segments = segments }

abbrev pub single : Seg → Name
single s = from_parents 0 (s ∷ [])

-- A name with a prefix, or of more segments than one, stands for one path: that of its segments below the root, or below what is left of
-- the scope without one segment of its end for each `^`.
pub data StandsFor (scope : List Seg) : Name → List Seg → Type 0 where
  below_root : (segments : List Seg) → StandsFor scope (from_root segments) segments
  below_parent : (outer inner segments : List Seg) → scope ≡ outer ++ inner → 0 < length inner → StandsFor scope (from_parents (length inner) segments) (outer ++ segments)
  below_scope : (segments : List Seg) → 1 < length segments → StandsFor scope (from_parents 0 segments) (scope ++ segments)
