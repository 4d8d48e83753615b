use Rattle.route_report.proofs.Barred.{spared_barred}
use Rattle.route_report.proofs.laws.a_spared_interrupt_is_avoided.Goals as goal

pub returns : goal.returns
returns c report s n have = spared_barred report.avoid report.options s n have
