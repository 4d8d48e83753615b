use Rattle.std.proofs.Common.{rules}
use Rattle.watched_space.specs.Filling.{write_64}
use Rattle.watched_space.proofs.Filled.{makes_ok, makes_err}
use Rattle.watched_space.proofs.zero_filled.ZeroFilled.write_64.Goals as goal

pub returns-in_err-write_32 : goal.returns-in_err-write_32
unfolding write_64
returns-in_err-write_32 g c = makes_err _ _ c.in_err-write_32.ensures (search rules)

pub returns : goal.returns
unfolding write_64
returns g c = makes_ok _ _ c.in_ok-write_32.ensures c.write_32-2.ensures
