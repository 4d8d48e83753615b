use Rattle.std.proofs.Common.{◌+◌, ◌<◌, arith}
use Rattle.ar_space.proofs.PageCells.{marked_put, marked_below, marked_above}
use Rattle.ar_space.proofs.page.Page.mark.Goals as goal

pub loop-n-preserved : goal.loop-n-preserved
loop-n-preserved c =
    let small : c.args.at + c.loop-n.n < 64 = omega (arith, c.requires, c.loop-n-test.true) in
    record {
      bytes = c.loop-n.invariant.bytes;
      put = marked_put c.loop-n.self.present c.args.self.now.present c.args.at c.loop-n.n small c.loop-n.invariant.put;
      below = marked_below c.loop-n.self.present c.args.self.now.present c.args.at c.loop-n.n small c.loop-n.invariant.below;
      above = marked_above c.loop-n.self.present c.args.self.now.present c.args.at c.loop-n.n small c.loop-n.invariant.above;
    }
