-- The path of a name one level below another, by its four characters.
use Rattle.std.specs.Prelude.{ℕ, List, [], ◌∷◌, ◌++◌, Ok}
use Rattle.ar_space.specs.Outcome.{Outcome, ◌>>=◌}
use Rattle.aml_path.specs.declared.segment.Seg.{Seg}
use Rattle.aml_path.specs.Segments.{seg_of}

unfoldable pub child_named : List Seg → List ℕ → Outcome (List Seg)
child_named p name = do
  segment ← seg_of name
  Ok (p ++ segment ∷ [])
