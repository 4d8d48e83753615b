use Rattle.std.proofs.Common.{rules}
use Rattle.acpiroute_shell.proofs.Deliveries.{told_answer, told_refusal, told_memory}
use Rattle.acpiroute_shell.proofs.delivery.deliver_outcome.Goals as goal

pub returns-in-Ok : goal.returns-in-Ok
returns-in-Ok g c = told_answer c.args.passed.now c.args.outcome c.in-Ok.answer _ _ _ _ _ _ _ c.in-Ok.is (search rules) (search rules) c.deliver.ensures

pub returns-in-Ok-line_behind : goal.returns-in-Ok-line_behind
returns-in-Ok-line_behind g c = told_refusal c.args.passed.now c.args.outcome c.in-Err.refusal _ _ _ _ _ _ c.in-Err.is (search rules) c.deliver-in-Ok-line_behind.ensures

pub returns : goal.returns
returns g c = told_memory c.args.passed.now c.args.outcome c.in-Err.refusal _ _ _ _ _ c.in-Err.is c.deliver-in-Err-line_behind.ensures
