use Rattle.route_solve.proofs.Bits.{bit_set, bit_kept, bit_only}
use Rattle.route_solve.proofs.rows.set_bit.Goals as goal

pub returns-clause-set : goal.returns-clause-set
returns-clause-set c = bit_set c.args.words.now c.args.i c.args.link c.requires.within c.requires.link

pub returns-clause-kept : goal.returns-clause-kept
returns-clause-kept c = bit_kept c.args.words.now c.args.i c.args.link c.requires.within c.requires.link

pub returns-clause-only : goal.returns-clause-only
returns-clause-only c = bit_only c.args.words.now c.args.i c.args.link c.requires.within c.requires.link
