use Rattle.acpiroute_lib.proofs.Telling.{why_told}
use Rattle.acpiroute_lib.proofs.why_command.why.Goals as goal

pub returns-clause-lines : goal.returns-clause-lines
returns-clause-lines c = why_told c.args.asking.now c.args.said c.args.text.now c.watched_run-end.result.0 c.watched_run-end.result.1 c.explained-answer.result c.watched_run-end.ensures c.explained-answer.ensures.lines
