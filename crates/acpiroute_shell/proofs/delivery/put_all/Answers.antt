use Rattle.std.proofs.Common.{rules}
use Rattle.acpiroute_shell.proofs.Outputs.{part_on}
use Rattle.acpiroute_shell.proofs.delivery.put_all.Goals as goal

pub loop-done-preserved : goal.loop-done-preserved
loop-done-preserved g c = (part_on (g.W.Sink.held c.args.writer.now).bytes (g.W.Sink.held c.loop-done.writer).bytes (g.W.Sink.held c.put.new.self).bytes c.args.text.now c.loop-done.done c.in_ok-done.field-0 c.loop-done.invariant.0 (search rules), search rules, search rules)
