-- Data of callers are seen as they are.
use Rattle.std.specs.Prelude.{◌≡◌, ◌∷◌, map, Vec, refl}
use Rattle.std.specs.declared.alloc.Global.{Global}
use Rattle.std.proofs.Common.{ap, ◌∙◌}
use mathlib.Core.Former.{Count}
use Rattle.aml_world.specs.declared.state.datum.Datum as datum
use Rattle.aml_world.specs.state.Given.{Givens, Package, given_of, row_of}
use Rattle.aml_laws.specs.DataSeen.{in_order}

row_listed : (n : Count) (k : datum.Row_of-Datum n) → in_order (row_of k) ≡ map given_of (datum.items-the_row-Datum n k)
row_listed n datum.end_of-Datum = refl
row_listed n (datum.more_of-Datum t rest) = ap (λ gs. given_of t ∷ gs) (row_listed _ rest)

-- the elements of a package, and none of anything else
abbrev row_in : datum.Datum → (n : Count) × datum.Row_of-Datum n
row_in (datum.Package' _ row) = (_, row)
row_in _ = (_, datum.end_of-Datum)

pub package_seen : (list : Vec datum.Datum Global) → (gs : Givens) × ((given_of (datum.Package list) ≡ Package gs) × (in_order gs ≡ map given_of list.items))
package_seen list = let row = row_in (datum.Package list) in (row_of row.1, (refl, row_listed row.0 row.1 ∙ ap (map given_of) (datum.items_hidden-the_row-Datum-0 list)))
