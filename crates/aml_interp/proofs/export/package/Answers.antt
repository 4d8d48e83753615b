use Rattle.std.proofs.Common.{rules}
use Rattle.aml_world.specs.declared.state.datum.Datum.{the_lemmas}
use Rattle.aml_world.proofs.GivenRows.{row_is_list}
use Rattle.aml_interp.proofs.export.package.Goals as goal

pub returns : goal.returns
returns c = search (rules, the_lemmas, row_is_list)
