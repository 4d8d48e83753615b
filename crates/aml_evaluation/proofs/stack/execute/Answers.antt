use Rattle.aml_meaning.specs.Meaning.{meaning}
use Rattle.aml_evaluation.proofs.Answering.{refused_unwound}
use Rattle.aml_evaluation.proofs.stack.execute.Goals as goal

pub returns-in_err-control-in-Err : goal.returns-in_err-control-in-Err
returns-in_err-control-in-Err g c =
    refused_unwound g.S.Space.accesses (meaning g.S.Space.accesses) c.refusals.stack.act c.refusals.stack.entries.items c.refusals.control c.refusals.invariant c.in-Err.ensures.means c.in_err-control-in-Err.ensures.known c.in_err-control-in-Err.ensures.ended c.in_err-control-in-Err.ensures.means c.from_residual.ensures
