use Rattle.std.proofs.Common.{rules, arith}
use Rattle.aml_accesses.proofs.UnitSteps.{falls_written}
use Rattle.aml_accesses.proofs.BankSteps.{leads_read}
use Rattle.aml_accesses.proofs.bank_access.next_bank_read.Goals as goal

pub returns-in-Some : goal.returns-in-Some
returns-in-Some g c = record {
  spent = omega arith;
  falls = falls_written c.select_to_read.result c.args.reads.field.calls c.args.reads.left c.next.new.self c.in-Some.unit c.in-Some.ensures.steps c.select_to_read.ensures.falls;
  means = leads_read (record { field = c.args.reads.field; reading = c.args.reads.reading; bytes = c.args.reads.bytes; left = c.next.new.self }) c.in-Some.unit c.args.reads.left c.in-Some.ensures.steps c.select_to_read.ensures.means;
  ends = search rules;
}
