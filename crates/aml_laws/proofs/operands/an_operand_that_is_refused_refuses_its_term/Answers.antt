use Rattle.aml_laws.proofs.OperandsStop.{refused_with_operand}
use Rattle.aml_laws.proofs.operands.an_operand_that_is_refused_refuses_its_term.Goals as goal

pub returns : goal.returns
returns g c = λ accesses scope depth w steps t xs takes x at comes e after is. refused_with_operand accesses scope depth w steps t xs takes x at comes e after is
