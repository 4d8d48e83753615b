use Rattle.route_spread.proofs.Improved.{same_again, improved_more, improved_still}
use Rattle.route_spread.proofs.sharing.Sharing.level.Goals as goal

pub loop-preserved : goal.loop-preserved
loop-preserved c =
    let inv = c.loop.invariant in
    let step = c.loop-test.ensures in
    record {
      can = step.can;
      same = same_again c.args.self.now c.loop.self c.improve.new.self inv.same step.same;
      improved = improved_more c.args.self.now c.loop.self c.improve.new.self inv.same inv.improved step.yes;
    }

pub returns-clause-improved : goal.returns-clause-improved
returns-clause-improved c =
    let inv = c.loop.invariant in
    improved_still c.args.self.now c.loop.self c.improve.new.self inv.improved c.loop-test.ensures.no
