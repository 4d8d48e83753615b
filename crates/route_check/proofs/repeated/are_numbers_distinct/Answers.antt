use Rattle.std.specs.Ordering.{nat_cmp}
use Rattle.route_check.proofs.Ascending.{nat_exact, ascending_distinct}
use Rattle.route_check.proofs.Loops.{yes, no}
use Rattle.route_check.proofs.repeated.are_numbers_distinct.Goals as goal

pub returns-in-Less : goal.returns-in-Less
returns-in-Less g c = yes (ascending_distinct nat_cmp nat_exact g.T.Numbered.number c.args.xs.now c.in-Less.ensures)

pub returns-in-Equal : goal.returns-in-Equal
returns-in-Equal g c = no c.in-Equal.ensures
