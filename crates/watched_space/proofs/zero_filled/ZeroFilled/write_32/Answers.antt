use Rattle.std.proofs.Common.{rules}
use Rattle.watched_space.specs.Filling.{write_32}
use Rattle.watched_space.proofs.Filled.{makes_ok, makes_err}
use Rattle.watched_space.proofs.zero_filled.ZeroFilled.write_32.Goals as goal

pub returns-in_err-write_16 : goal.returns-in_err-write_16
unfolding write_32
returns-in_err-write_16 g c = makes_err _ _ c.in_err-write_16.ensures (search rules)

pub returns : goal.returns
unfolding write_32
returns g c = makes_ok _ _ c.in_ok-write_16.ensures c.write_16-2.ensures
