-- What closes an answer.
use Rattle.std.specs.Prelude.{ℕ, List, length, map}
use Rattle.std.proofs.lemmas.List.{length-map}
use Rattle.ar_space.specs.Accesses.{Accesses}
use Rattle.ar_space.specs.Outcome.{Outcome}
use Rattle.ar_space.specs.Change.{Does}
use Rattle.aml_path.specs.declared.segment.Seg.{Seg}
use Rattle.aml_world.specs.state.State.{State}
use Rattle.aml_world.specs.declared.state.datum.Datum.{Datum}
use Rattle.aml_world.specs.state.Given.{Given, given_of}
use Rattle.aml_meaning.proofs.Runs.{calling}
use Rattle.aml_meaning.specs.Calling.{ending, with_steps, answer_exported, answered}

-- arguments are counted before they are looked at
pub does_answered : {S : Type 0} {r : Outcome Given} {w w1 : State S} (accesses : Accesses S) (p : List Seg) (arguments : List Datum) (steps : ℕ) → Does r w1 (ending (with_steps steps (answer_exported accesses p (length arguments) (map given_of arguments)))) w → Does r w1 (answered accesses p (map given_of arguments) steps) w
unfolding answered
does_answered accesses p arguments steps h = rw (length-map arguments given_of) h

pub ruleset answering = (calling, does_answered)
