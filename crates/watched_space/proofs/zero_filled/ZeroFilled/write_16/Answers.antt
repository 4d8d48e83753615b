use Rattle.std.proofs.Common.{rules}
use Rattle.watched_space.specs.Filling.{write_16}
use Rattle.watched_space.proofs.Filled.{makes_ok, makes_err}
use Rattle.watched_space.proofs.zero_filled.ZeroFilled.write_16.Goals as goal

pub returns-in_err-write_8 : goal.returns-in_err-write_8
unfolding write_16
returns-in_err-write_8 g c = makes_err _ _ c.in_err-write_8.ensures (search rules)

pub returns : goal.returns
unfolding write_16
returns g c = makes_ok _ _ c.in_ok-write_8.ensures c.write_8-2.ensures
