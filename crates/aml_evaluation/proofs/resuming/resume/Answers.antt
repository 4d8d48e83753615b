use Rattle.std.proofs.Common.{arith}
use Rattle.aml_frames.proofs.Weighing.{charged_free}
use Rattle.aml_evaluation.proofs.resuming.resume.Goals as goal

pub returns-in-UnitRead-clause-means : goal.returns-in-UnitRead-clause-means
returns-in-UnitRead-clause-means g c = rw c.in-UnitRead.is c.resume_unit.ensures.means

pub returns-in-Operand-clause-falls : goal.returns-in-Operand-clause-falls
returns-in-Operand-clause-falls g c = rw c.in-Operand.is (charged_free c.resume_operand.result c.resume_operand.new.run.1 c.args.run.now.1 _ _ c.resume_operand.ensures.spent (omega arith) c.resume_operand.ensures.falls)

pub returns-in-First-clause-falls : goal.returns-in-First-clause-falls
returns-in-First-clause-falls g c = rw c.in-First.is (charged_free c.resume_first.result c.resume_first.new.run.1 c.args.run.now.1 _ _ c.resume_first.ensures.spent (omega arith) c.resume_first.ensures.falls)

pub returns-in-Second-clause-falls : goal.returns-in-Second-clause-falls
returns-in-Second-clause-falls g c = rw c.in-Second.is (charged_free c.resume_second.result c.resume_second.new.run.1 c.args.run.now.1 _ _ c.resume_second.ensures.spent (omega arith) c.resume_second.ensures.falls)

pub returns-in-UnitWritten-clause-falls : goal.returns-in-UnitWritten-clause-falls
returns-in-UnitWritten-clause-falls g c =
    let h = rw c.into_inner.ensures at c.next_write.ensures.falls in
    rw c.in-UnitWritten.is (charged_free c.next_write.result c.next_write.new.run.1 c.args.run.now.1 _ _ c.next_write.ensures.spent (omega arith) h)

pub returns-in-Third-clause-falls : goal.returns-in-Third-clause-falls
returns-in-Third-clause-falls g c = rw c.in-Third.is (charged_free c.resume_third.result c.resume_third.new.run.1 c.args.run.now.1 _ _ c.resume_third.ensures.spent (omega arith) c.resume_third.ensures.falls)

pub returns-in-BankRead-clause-falls : goal.returns-in-BankRead-clause-falls
returns-in-BankRead-clause-falls g c = rw c.in-BankRead.is (charged_free c.read_selected.result c.read_selected.new.run.1 c.args.run.now.1 _ _ c.read_selected.ensures.spent (omega arith) c.read_selected.ensures.falls)

pub returns-in-BankWrite-clause-falls : goal.returns-in-BankWrite-clause-falls
returns-in-BankWrite-clause-falls g c = rw c.in-BankWrite.is (charged_free c.write_selected.result c.write_selected.new.run.1 c.args.run.now.1 _ _ c.write_selected.ensures.spent (omega arith) c.write_selected.ensures.falls)

pub returns-in-BankRead-clause-means : goal.returns-in-BankRead-clause-means
returns-in-BankRead-clause-means g c = rw c.in-BankRead.is c.read_selected.ensures.means
