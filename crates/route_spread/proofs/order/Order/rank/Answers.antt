use Rattle.std.proofs.Common.{ℕ, length, arith, ap}
use Rattle.std.specs.Global.{Vec}
use Rattle.route_spread.proofs.Ranks.{listed_anew}
use Rattle.route_spread.proofs.order.Order.rank.Goals as goal

pub returns-clause-listed : goal.returns-clause-listed
returns-clause-listed c =
    let inv = c.loop-j.invariant in
    let same = ap (λ (v : Vec ℕ). v.items) inv.same in
    let end = c.loop-j-test.false in
    let count = c.len-j-end.ensures in
    listed_anew c.loop-j.self.interrupts.items c.requires.listed.0 c.loop-j.self.ranks.items (rw same c.requires.listed.1) inv.long (λ j b. inv.ranked j (let e = ap length same in omega arith))
