use Rattle.machine_laws.proofs.RefusalsNumbered.{told_by_number}
use Rattle.machine_laws.proofs.refusals.each_refusal_is_told_by_its_number.Goals as goal

pub returns : goal.returns
returns c = told_by_number
