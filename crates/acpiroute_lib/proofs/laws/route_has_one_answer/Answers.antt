use Rattle.acpiroute_lib.proofs.One.{one_answer}
use Rattle.acpiroute_lib.proofs.laws.route_has_one_answer.Goals as goal

pub returns : goal.returns
returns c = one_answer c.a_machine_has_one_report_with_options.ensures
