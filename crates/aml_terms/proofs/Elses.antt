-- An Else reads as the row of its opcode says.
use Rattle.std.specs.Prelude.{◌≡◌, ◌≢◌, Option, Some, None, refl}
use Rattle.std.proofs.Common.{◌∙◌, sym, ap}
use Rattle.aml_grammar.specs.declared.kinds.Row.{Row}
use Rattle.aml_grammar.specs.Table.{row_of}
use Rattle.aml_marks.specs.Marked.{Place, Below, over, after, gives, inside, an_operand, all_operands, of_row, with_row, an_else}
use Rattle.aml_scan.specs.RowsAt.{row_at, row_at_any}
use Rattle.aml_scan.specs.declared.row_places.RowPlace.{RowPlace}

reads : (b : Below) (p : Place) → with_row b (row_of 0xA1) (over 1 p) ≡ an_else b p
unfolding row_of with_row of_row inside all_operands an_operand an_else after gives
reads b p = refl

pub else_read : (b : Below) (p : Place) (o : RowPlace) → row_at_any (Some o) ≡ row_of 0xA1 → with_row b (row_at o) (over 1 p) ≡ an_else b p
else_read b p o e = ap (λ r. with_row b r (over 1 p)) e ∙ reads b p

pub else_stands : row_at_any None ≢ row_of 0xA1
unfolding row_of
else_stands e = absurd (cc e)

pub ruleset else_terms = (else_read, else_stands)
