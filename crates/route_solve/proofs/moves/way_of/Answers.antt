use Rattle.std.proofs.Common.{arith}
use Rattle.route_solve.proofs.moves.way_of.Goals as goal

pub returns-clause-there : goal.returns-clause-there
returns-clause-there c = let w = c.requires in absurd (c.loop-k.invariant w.0 (let b = w.1 in let t = c.loop-k-test.false in omega arith) w.2)
