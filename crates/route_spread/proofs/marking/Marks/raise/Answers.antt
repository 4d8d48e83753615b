use Rattle.std.proofs.Common.{◌≡◌, ◌≢◌, ◌+◌, ◌∙◌, ℕ, true, false, arith, ap, cond, set, get_or-set_same, get_or-set_other}
use Rattle.route_spread.specs.Marks.{at, is_raised, height_at}
use Rattle.route_spread.proofs.Arranged.{arranged_more, is_behind}
use Rattle.route_spread.proofs.Found.{raised_at}
use Rattle.route_spread.proofs.marking.Marks.raise.Goals as goal

pub returns-clause-arranged : goal.returns-clause-arranged
returns-clause-arranged c =
    let s = c.args.self.now in
    let i = c.args.i in
    let loads = c.args.loads.now in
    let room = c.requires.room in
    let long = room.listed.long in
    let within = c.requires.within in
    let near = c.requires.near in
    let less = c.if-loads-i.false in
    let was : is_raised s.raised.items i ≡ false = raised_at s.raised.items i c.index.result.now (let m = room.marks in omega arith) c.index.ensures ∙ c.if-index.false in
    let now : is_raised (set s.raised.items i true) i ≡ true = get_or-set_same s.raised.items i true false (let m = room.marks in omega arith) in
    let low : height_at loads s.raised.items i ≡ at loads i = (let e = ap (λ b. at loads i + cond b 1 0) was in omega arith) in
    let raised : height_at loads (set s.raised.items i true) i ≡ at loads i + 1 = ap (λ b. at loads i + cond b 1 0) now in
    let same : (x : ℕ) → x ≢ i → height_at loads (set s.raised.items i true) x ≡ height_at loads s.raised.items x = λ x ne. ap (λ b. at loads x + cond b 1 0) (get_or-set_other s.raised.items i x true false ne) in
    let high = c.promote.ensures.higher in
    let order = room.order in
    let behind = is_behind loads s.raised.items s.order.interrupts.items s.order.ranks.items s.order.high c.args.top i c.requires.arranged (omega arith) (omega arith) in
    let rank = room.listed.rank i (omega arith) in
    rw high (arranged_more s.order.interrupts.items c.promote.new.self.interrupts.items s.order.ranks.items c.promote.new.self.ranks.items i s.order.high room.listed (omega arith) (omega arith) c.promote.ensures.promoted loads s.raised.items (set s.raised.items i true) c.args.top behind c.requires.arranged (omega arith) (omega arith) same)
