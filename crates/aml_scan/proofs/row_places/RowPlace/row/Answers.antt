use Rattle.std.proofs.Common.{◌<◌, ◌∙◌, ap, sym, subst, slice_get}
use Rattle.aml_grammar.specs.Table.{table}
use Rattle.aml_scan.proofs.RowPlaces.{got_within}
use Rattle.aml_scan.proofs.row_places.RowPlace.row.Goals as goal

pub returns : goal.returns
returns c = sym (got_within table c.from.result _ (subst (λ n. n < 112) (sym c.from.ensures) c.args.self.within)) ∙ ap (slice_get table) c.from.ensures
