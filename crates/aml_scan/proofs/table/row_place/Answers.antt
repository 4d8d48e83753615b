use Rattle.std.proofs.Common.{◌∙◌, ap, sym, slice_get}
use Rattle.aml_grammar.specs.Table.{table}
use Rattle.aml_scan.proofs.RowPlaces.{row_there, no_row}
use Rattle.aml_scan.proofs.table.row_place.Goals as goal

pub returns-then-place-lt-NO_ROW : goal.returns-then-place-lt-NO_ROW
returns-then-place-lt-NO_ROW c = ap (slice_get table) c.place_of-place.ensures ∙ sym (row_there c.args.number)

pub returns-else-place-lt-NO_ROW : goal.returns-else-place-lt-NO_ROW
returns-else-place-lt-NO_ROW c = no_row c.args.number _ c.place_of-place.ensures c.if-place-lt-NO_ROW.false
