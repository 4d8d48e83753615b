use Rattle.std.proofs.Common.{arith}
use Rattle.route_solve.proofs.rows.all_rows.Goals as goal

pub add_links-requires-clause-within : goal.add_links-requires-clause-within
add_links-requires-clause-within c l i o = let b = c.requires.below l i o in omega (arith, c.in_ok-words.ensures.len, c.deref_mut.ensures.len)
