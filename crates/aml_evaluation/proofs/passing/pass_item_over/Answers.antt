use Rattle.std.proofs.Common.{rules}
use Rattle.aml_meaning.specs.Meaning.{meaning}
use Rattle.aml_evaluation.proofs.Unwinding.{goes_passed, pass_memory, pass_goes}
use Rattle.aml_evaluation.proofs.passing.pass_item_over.Goals as goal

pub returns-in_err-pass_over-clause-memory : goal.returns-in_err-pass_over-clause-memory
returns-in_err-pass_over-clause-memory g c = pass_memory c.args.refusal _ _ _ _ c.from_residual.result c.requires c.in_err-pass_over.ensures c.from_residual.ensures

pub returns-in_err-pass_over-clause-means : goal.returns-in_err-pass_over-clause-means
returns-in_err-pass_over-clause-means g c = pass_goes g.S.Space.accesses (meaning g.S.Space.accesses) c.args.refusal _ _ _ _ c.from_residual.result c.args.stack.now.act c.args.stack.now.entries.items _ c.requires c.in_err-pass_over.ensures c.from_residual.ensures

pub returns-clause-means : goal.returns-clause-means
returns-clause-means g c =
    let e = c.run.view_is in
    rw (← e) (goes_passed g.S.Space.accesses (meaning g.S.Space.accesses) c.args.refusal c.args.stack.now.act c.over_term.new.self c.args.stack.now.entries.items c.args.item _ c.run.inside.world c.run.inside.steps c.in_ok-pass_over.ensures c.requires (search rules) (search rules))
