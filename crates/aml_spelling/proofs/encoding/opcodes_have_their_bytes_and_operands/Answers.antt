use Rattle.aml_spelling.proofs.OpcodesWritten.{has_its_bytes, has_its_operands, no_other_code}
use Rattle.aml_spelling.proofs.encoding.opcodes_have_their_bytes_and_operands.Goals as goal

pub returns : goal.returns
returns c = record { bytes = has_its_bytes; operands = has_its_operands; others = no_other_code }
