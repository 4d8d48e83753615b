-- What is kept of the bodies that were scanned.
use Rattle.std.specs.Prelude.{◌≡◌, List, [], ◌∷◌, true, ⊤, Ok}
use Rattle.aml_path.specs.declared.segment.Seg.{Seg}
use Rattle.aml_arities.specs.declared.arities.Arity.{Arity}
use Rattle.aml_grammar.specs.Grammar.{reading_within}
use Rattle.aml_marks.specs.Marked.{trees_by}
use Rattle.aml_world.specs.declared.state.known_names.ScannedBody.{ScannedBody}

-- by its marks the bytes of the control method at a path read as the grammar reads them, within the levels of the scan, with the arguments that names take now
abbrev pub IsScanned : List Arity → List Seg → ScannedBody → Type 0
IsScanned arities path b = reading_within b.levels b.body path true arities ≡ Ok (trees_by b.marks b.body)

-- so it is of each that is kept
unfoldable pub AreKept : List Arity → List (List Seg × ScannedBody) → Type 0
AreKept arities [] = ⊤
AreKept arities (e ∷ es) = IsScanned arities e.0 e.1 × AreKept arities es
