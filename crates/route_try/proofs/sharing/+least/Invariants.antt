use Rattle.std.proofs.Common.{◌-◌, length}
use Rattle.route_try.proofs.sharing.+least.Given as goal

abbrev pub decreases-least : goal.decreases-least
decreases-least l = length l.links.now - l.at
