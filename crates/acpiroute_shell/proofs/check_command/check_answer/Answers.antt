use Rattle.std.proofs.Common.{rules}
use Rattle.acpiroute_shell.proofs.Checks.{refused_report, judged_report, verdict_is}
use Rattle.acpiroute_shell.proofs.check_command.check_answer.Goals as goal

pub returns-in_err-claim : goal.returns-in_err-claim
returns-in_err-claim c = refused_report c.args.report.now c.in_err-claim.field-0.0 c.from_residual.result (search rules) (search rules)

pub returns : goal.returns
returns c = judged_report c.args.report.now c.in_ok-claim.claim c.in_ok-verdict.verdict c.verdict_answer.result (search rules) (verdict_is c.in_ok-claim.claim c.in_ok-verdict.verdict c.in_ok-verdict.ensures.ok c.in_ok-verdict.ensures.flaw) c.verdict_answer.ensures
