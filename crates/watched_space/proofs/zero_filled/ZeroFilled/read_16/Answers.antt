use Rattle.std.proofs.Common.{rules}
use Rattle.watched_space.specs.Filling.{read_16}
use Rattle.watched_space.proofs.Filled.{makes_give, makes_ok, makes_err}
use Rattle.watched_space.proofs.zero_filled.ZeroFilled.read_16.Goals as goal

pub returns-in_err-low-clause-made : goal.returns-in_err-low-clause-made
unfolding read_16
returns-in_err-low-clause-made g c = makes_err _ _ c.in_err-low.ensures.made (search rules)

pub returns-in_err-high-clause-made : goal.returns-in_err-high-clause-made
unfolding read_16
returns-in_err-high-clause-made g c = makes_ok _ _ c.in_ok-low.ensures.made (makes_err _ _ c.in_err-high.ensures.made (search rules))

pub returns-clause-made : goal.returns-clause-made
unfolding read_16
returns-clause-made g c = makes_ok _ _ c.in_ok-low.ensures.made (makes_ok _ _ c.in_ok-high.ensures.made makes_give)
