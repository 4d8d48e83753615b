-- The row at a place of the table of terms.
use Rattle.std.specs.Prelude.{Option, Some, None, slice_get}
use Rattle.aml_grammar.specs.declared.kinds.Row.{Row}
use Rattle.aml_grammar.specs.Table.{table}
use Rattle.aml_scan.specs.declared.row_places.RowPlace.{RowPlace}

-- the row at a place
abbrev pub row_at : RowPlace → Option Row
row_at p = slice_get table p.place

-- the row at the place of an opcode that has one
abbrev pub row_at_any : Option RowPlace → Option Row
row_at_any None = None
row_at_any (Some p) = row_at p
