use Rattle.acpiroute_lib.proofs.Caused.{cause_told}
use Rattle.acpiroute_lib.proofs.laws.a_refusal_of_a_run_has_its_cause.Goals as goal

pub returns : goal.returns
returns c = cause_told
