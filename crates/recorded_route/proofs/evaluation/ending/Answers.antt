use Rattle.std.specs.Prelude.{◌≡◌, ℕ, List, map}
use Rattle.std.proofs.Common.{◌∙◌, ap, sym, Vec, Global}
use Rattle.ar_tables.specs.declared.tables.Tables.{Tables}
use Rattle.ar_space.specs.Outcome.{seen}
use Rattle.aml_world.specs.state.Given.{given_of}
use Rattle.recorded_space.specs.Recordings.{Recording, begun, recorded}
use Rattle.recorded_route.specs.Runs.{Description}
use Rattle.recorded_route.specs.Evaluations.{evaluation}
use Rattle.recorded_route.specs.Endings.{ending_of, seen_ending}
use Rattle.recorded_route.proofs.Told.{seen_told}
use Rattle.recorded_route.proofs.evaluation.ending.Goals as goal

pub returns-in-Ok : goal.returns-in-Ok
returns-in-Ok c = λ ne.
    let told = c.ending_of.ensures.told ne in
    let left = c.evaluation-outcome.ensures told.0 in
    let space_is : c.new.result ≡ begun c.args.entries.now = c.new.ensures ∙ ap begun c.in-Ok.ensures.items in
    record {
      outcome = seen given_of c.evaluation-outcome.result.0;
      after = left.after;
      is_evaluation = ap (λ (space : Recording). evaluation recorded c.args.settings.now c.args.question.path.now (map given_of c.args.question.arguments.items) (seen {A = Tables × Vec (List ℕ) Global} {B = Description} (λ d. (d.0, d.1.items)) c.args.described) space) (sym space_is) ∙ left.is_run;
      is_told = ap (seen_ending given_of) told.1 ∙ (seen_told given_of c.evaluation-outcome.result.0 c.evaluation-outcome.result.1 ∙ ap (ending_of (seen given_of c.evaluation-outcome.result.0)) left.is_wanted);
    }
