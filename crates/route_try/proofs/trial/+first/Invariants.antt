use Rattle.std.proofs.Common.{◌-◌, length}
use Rattle.route_try.proofs.trial.+first.Given as goal

abbrev pub decreases-first : goal.decreases-first
decreases-first l = length l.links.now - l.at
