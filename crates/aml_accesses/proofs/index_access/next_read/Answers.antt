use Rattle.std.proofs.Common.{rules, arith}
use Rattle.aml_accesses.proofs.UnitSteps.{falls_read, leads_read}
use Rattle.aml_accesses.proofs.index_access.next_read.Goals as goal

pub returns-in-Some : goal.returns-in-Some
returns-in-Some g c = record {
  spent = omega arith;
  falls = falls_read c.choose.result c.args.reads.field.calls c.args.reads.left c.next.new.self c.in-Some.unit c.in-Some.ensures.steps c.choose.ensures.falls;
  means = leads_read (record { field = c.args.reads.field; reading = c.args.reads.reading; bytes = c.args.reads.bytes; left = c.next.new.self }) c.in-Some.unit c.args.reads.left c.in-Some.ensures.steps c.choose.ensures.means;
  ends = search rules;
}
