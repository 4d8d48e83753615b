use Rattle.aml_laws.proofs.OperandsStop.{refused_without_value}
use Rattle.aml_laws.proofs.operands.an_operand_without_a_value_is_refused.Goals as goal

pub returns : goal.returns
returns g c = λ accesses scope depth w steps t xs takes x at comes after is. refused_without_value accesses scope depth w steps t xs takes x at comes after is
