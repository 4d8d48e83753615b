use Rattle.acpiroute_lib.proofs.Telling.{why_answered}
use Rattle.acpiroute_lib.proofs.why_command.why_answer.Goals as goal

pub returns : goal.returns
returns c = why_answered c.args.asking.now c.args.text.now c.why.result c.in_ok-said.ensures c.why.ensures.memory c.why.ensures.lines
