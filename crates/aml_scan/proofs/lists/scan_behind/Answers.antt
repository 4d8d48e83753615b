use Rattle.aml_grammar.specs.declared.context.Position.TheVariants as positions
use Rattle.aml_grammar.specs.Grammar.{by_arities, term_at, items, outermost}
use Rattle.aml_scan.proofs.Scans.{noted_ok}
use Rattle.aml_scan.proofs.lists.scan_behind.Goals as goal

pub returns : goal.returns
returns g c = noted_ok (items (term_at by_arities c.args.levels) positions.ListItem c.args.scope.now (outermost c.args.body)) (rw c.new-reader.ensures at c.in_ok-items.ensures.reads) c.into_noted-marks.ensures.marks c.into_noted-marks.ensures.arities
