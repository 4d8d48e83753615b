use Rattle.route_report.proofs.Barred.{avoided_barred}
use Rattle.route_report.proofs.laws.an_avoided_interrupt_stays_avoided.Goals as goal

pub returns : goal.returns
returns c report n = avoided_barred report.avoid report.options n
