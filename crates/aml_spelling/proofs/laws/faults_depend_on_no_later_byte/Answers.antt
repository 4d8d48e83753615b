use Rattle.aml_spelling.proofs.SteadyTerms.{fault_again, fault_placed, truncated_again, opcode_again}
use Rattle.aml_spelling.proofs.laws.faults_depend_on_no_later_byte.Goals as goal

pub returns : goal.returns
returns c = record { fault = fault_again; place = fault_placed; truncated = truncated_again; opcode = opcode_again }
