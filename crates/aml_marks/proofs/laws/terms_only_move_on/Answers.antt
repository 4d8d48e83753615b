use Rattle.aml_marks.proofs.Onward.{moves_on_term, takes_a_byte}
use Rattle.aml_marks.proofs.laws.terms_only_move_on.Goals as goal

pub returns : goal.returns
returns c = record { on = moves_on_term; byte = takes_a_byte }
