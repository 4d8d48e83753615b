use Rattle.route_solve.proofs.LeftBits.{cleared_is}
use Rattle.route_solve.proofs.left.clear_left.Goals as goal

pub returns : goal.returns
returns c = cleared_is c.args.left.now c.args.link c.requires.four c.requires.link c.requires.left
