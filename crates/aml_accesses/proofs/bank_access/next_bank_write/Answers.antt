use Rattle.std.proofs.Common.{sym, ◌∙◌, rules, arith}
use Rattle.aml_accesses.proofs.UnitSteps.{falls_written}
use Rattle.aml_accesses.proofs.BankSteps.{falls_over, leads_kept, leads_unkept}
use Rattle.aml_accesses.proofs.bank_access.next_bank_write.Goals as goal

pub returns-then-is_kept : goal.returns-then-is_kept
returns-then-is_kept g c = record {
  spent = omega arith;
  falls = falls_written c.select_to_read.result c.args.writes.field.calls c.args.writes.left c.next.new.self c.in-Some.unit c.in-Some.ensures.steps c.select_to_read.ensures.falls;
  means = leads_kept (record { field = c.args.writes.field; bytes = c.args.writes.bytes; left = c.next.new.self }) c.in-Some.unit c.args.writes.left c.in-Some.ensures.steps (sym c.is_kept.ensures ∙ c.if-is_kept.true) c.select_to_read.ensures.means;
  ends = search rules;
}

pub returns-else-is_kept : goal.returns-else-is_kept
returns-else-is_kept g c = record {
  spent = omega arith;
  falls = falls_over c.select_to_write.result c.args.writes.field.calls c.args.writes.left c.next.new.self c.in-Some.unit c.in-Some.ensures.steps c.select_to_write.ensures.falls;
  means = leads_unkept (record { field = c.args.writes.field; bytes = c.args.writes.bytes; left = c.next.new.self }) c.in-Some.unit c.args.writes.left c.in-Some.ensures.steps (sym c.is_kept.ensures ∙ c.if-is_kept.false) c.select_to_write.ensures.means;
  ends = search rules;
}
