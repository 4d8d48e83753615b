use Rattle.std.proofs.Common.{rules}
use Rattle.acpiroute_shell.proofs.Deliveries.{not_all}
use Rattle.acpiroute_shell.proofs.delivery.deliver.Goals as goal

-- src/delivery.rt:28:1
pub returns-then-is_ok-2 : goal.returns-then-is_ok-2
returns-then-is_ok-2 g c = not_all (record { text = c.args.text.now; line = c.args.line.now; status = c.args.status })
    (g.W.Sink.held c.args.writer.now) (g.W.Sink.held c.put_all-wrote.new.writer) (g.E.Sink.held c.args.errors.now) (g.E.Sink.held c.put_all-told.new.writer) (g.E.Sink.held c.put_all.new.writer)
    (search rules) c.put_all-wrote.ensures.takes (search rules) c.put_all-told.ensures.takes c.put_all.ensures.takes
