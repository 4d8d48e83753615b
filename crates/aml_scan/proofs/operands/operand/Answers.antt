use Rattle.aml_grammar.specs.State.{text}
use Rattle.aml_grammar.specs.Names.{name_string}
use Rattle.aml_grammar.specs.Operands.{name_operand, text_operand}
use Rattle.aml_grammar.specs.Grammar.{operand}
use Rattle.aml_grammar.specs.Tree.{name, bytes}
use Rattle.aml_scan.proofs.Scans.{kept_keeping, scanned_wrapped}
use Rattle.aml_scan.proofs.operands.operand.Goals as goal

pub returns-in-NameString-clause-reads : goal.returns-in-NameString-clause-reads
unfolding operand name_operand
returns-in-NameString-clause-reads g c inner_term = rw c.in-NameString.is (kept_keeping _ _ name_operand (scanned_wrapped name name_string c.skip_name.ensures.reads))

pub returns-in-AsciiCharList-clause-reads : goal.returns-in-AsciiCharList-clause-reads
unfolding operand text_operand
returns-in-AsciiCharList-clause-reads g c inner_term = rw c.in-AsciiCharList.is (kept_keeping _ _ text_operand (scanned_wrapped bytes text c.skip_text.ensures.reads))
