use Rattle.route_report.proofs.Barred.{nothing_else}
use Rattle.route_report.proofs.laws.nothing_else_is_avoided.Goals as goal

pub returns : goal.returns
returns c report n = nothing_else report.avoid report.options n
