use Rattle.acpiroute_shell.proofs.PassedPut.{item_more, items_end}
use Rattle.acpiroute_shell.proofs.passed_lines.put_items.Goals as goal

pub loop-item-preserved : goal.loop-item-preserved
loop-item-preserved c = item_more c.args.items.now c.loop-item.item-index c.item-item.result c.loop-item.text.items c.put_item.new.text.items _ c.loop-item-test.true c.item-item.is c.loop-item.invariant c.in_ok-put_item.ensures

pub returns : goal.returns
returns c = items_end c.args.items.now c.loop-item.item-index c.loop-item.text.items _ c.loop-item-test.false c.loop-item.invariant
