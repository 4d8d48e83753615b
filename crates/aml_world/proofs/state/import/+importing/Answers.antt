use Rattle.std.proofs.Common.{arith, rules}
use Rattle.ar_space.proofs.Changes.{does_same, does_err, same_ok}
use Rattle.aml_world.specs.declared.state.datum.Datum.{the_lemmas}
use Rattle.aml_world.proofs.GivenRows.{row_is_list}
use Rattle.aml_world.specs.state.Importing.{package_imported}
use Rattle.aml_world.proofs.Imports.{same_each, each_end}
use Rattle.aml_world.proofs.state.import.+importing.Goals as goal

pub import_by-returns-in-Package : goal.import_by-returns-in-Package
import_by-returns-in-Package g t c = search (rules, the_lemmas, row_is_list)

pub import_each-loop-datum-preserved : goal.import_each-loop-datum-preserved
import_each-loop-datum-preserved g t c = rw (c.in_ok-push.ensures.ok) (same_ok _ _ (same_each (package_imported c.args.levels) c.args.list.now c.loop-datum.done c.loop-datum.datum-index _ c.loop-datum.invariant (omega arith) c.datum-item.is) c.in_ok-value.ensures)

pub import_each-returns : goal.import_each-returns
import_each-returns g t c = each_end (package_imported c.args.levels) c.args.list.now c.loop-datum.done c.loop-datum.datum-index c.loop-datum.invariant (omega arith)

pub import_each-returns-in_err-value : goal.import_each-returns-in_err-value
import_each-returns-in_err-value g t c = does_same (same_each (package_imported c.args.levels) c.args.list.now c.loop-datum.done c.loop-datum.datum-index _ c.loop-datum.invariant (omega arith) c.datum-item.is) (does_err _ _ c.in_err-value.ensures c.from_residual.ensures)
