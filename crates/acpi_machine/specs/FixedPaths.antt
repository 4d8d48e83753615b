-- Paths that are given by the characters of their segments.
use Rattle.std.specs.Prelude.{ℕ, List, [], ◌∷◌, Ok}
use Rattle.ar_space.specs.Outcome.{Outcome, ◌>>=◌}
use Rattle.aml_path.specs.declared.segment.Seg.{Seg}
use Rattle.aml_path.specs.Segments.{seg_of}

-- the path of a name at the root
unfoldable pub at_root : List ℕ → Outcome (List Seg)
at_root name = do
  segment ← seg_of name
  Ok (segment ∷ [])

-- the path of a name below one at the root
unfoldable pub below_root : List ℕ → List ℕ → Outcome (List Seg)
below_root parent name = do
  above ← seg_of parent
  segment ← seg_of name
  Ok (above ∷ segment ∷ [])
