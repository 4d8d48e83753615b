-- The elements of a package that is handed over, as a list.
use Rattle.std.specs.Prelude.{◌≡◌, ℕ, List, [], ◌∷◌, map, refl}
use Rattle.std.proofs.Common.{ap}
use mathlib.Core.Former.{Count}
use Rattle.aml_path.specs.declared.segment.Seg.{Seg}
use Rattle.aml_world.specs.declared.state.datum.Datum as datum
use Rattle.aml_world.specs.state.Given.{Bytes, Integer, Named, Nothing, Package, Reference, Text, given_of, givens, more, none, row_of}

pub row_is_list : (n : Count) (k : datum.Row_of-Datum n) → row_of k ≡ givens (map given_of (datum.items-the_row-Datum n k))
row_is_list n datum.end_of-Datum = refl
row_is_list n (datum.more_of-Datum t rest) = ap (more (given_of t)) (row_is_list _ rest)
