use Rattle.std.specs.Prelude.{◌≡◌, OnErr}
use Rattle.std.proofs.Common.{subst}
use Rattle.ar_space.specs.Outcome.{Answers, seen}
use Rattle.aml_grammar.specs.Grammar.{table_reading_within}
use Rattle.aml_marks.specs.Marked.{trees_by}
use Rattle.aml_world.specs.declared.state.settings.Nesting.{Nesting}
use Rattle.aml_interp.proofs.Tables.{table_read}
use Rattle.aml_interp.proofs.readings.read_table.Goals as goal

pub returns : goal.returns
returns g c =
    let at : c.take_arities-arities.result ≡ c.args.world.now.arities = c.take_arities-arities.ensures.arities in
    let marks = c.scan_table_within-marks in
    let read = subst (λ (d : Nesting). Answers (seen (λ m. (trees_by m c.args.bytes.now, marks.new.arities)) marks.result) (table_reading_within d.levels c.args.bytes.now c.take_arities-arities.result)) c.nesting-levels.ensures marks.ensures.table in
    rw (c.set_arities.ensures, c.take_arities-arities.ensures.none) (table_read (λ m. trees_by m c.args.bytes.now) marks.result c.args.bytes.now c.args.world.now marks.new.arities
    (subst (λ a. Answers (seen (λ m. (trees_by m c.args.bytes.now, marks.new.arities)) marks.result) (table_reading_within c.args.world.now.nesting.levels c.args.bytes.now a)) at read)
    (subst (λ a. OnErr marks.result (marks.new.arities ≡ a)) at marks.ensures.refused))
