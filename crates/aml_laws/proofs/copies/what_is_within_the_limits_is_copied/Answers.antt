use Rattle.aml_laws.proofs.CopiesAnswered.{copy_answers}
use Rattle.aml_laws.proofs.copies.what_is_within_the_limits_is_copied.Goals as goal

pub returns : goal.returns
returns c = λ objects count v is room. copy_answers objects count v is room
