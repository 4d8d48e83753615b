use Rattle.std.proofs.Common.{arith, map, ℕ, ◌-◌}
use Rattle.std.proofs.lemmas.List.{get_or-map, length-map}
use Rattle.route_solve.proofs.Ascending.{no, ascends_more, ascends_not}
use Rattle.route_solve.proofs.conditions.wired_ascend.Goals as goal

pub returns-then-wired-i : goal.returns-then-wired-i
returns-then-wired-i c =
    let ws = c.args.wired.now in
    let i = c.loop-i.i in
    let f = λ (w : ℕ × ℕ). w.0 in
    let long = length-map ws f in
    let one = c.loop-i.auto.i in
    let a = get_or-map f ws i (0, 0) 0 (omega arith) in
    let b = get_or-map f ws (i - 1) (0, 0) 0 (omega arith) in
    let t = c.if-wired-i.true in
    no (ascends_not (map f ws) i (omega arith) (omega arith) (omega arith))

pub loop-i-preserved : goal.loop-i-preserved
loop-i-preserved c =
    let ws = c.args.wired.now in
    let i = c.loop-i.i in
    let f = λ (w : ℕ × ℕ). w.0 in
    let long = length-map ws f in
    let one = c.loop-i.auto.i in
    let a = get_or-map f ws i (0, 0) 0 (omega arith) in
    let b = get_or-map f ws (i - 1) (0, 0) 0 (omega arith) in
    let t = c.if-wired-i.false in
    ascends_more (map f ws) i (omega arith) (omega arith) c.loop-i.invariant
