use Rattle.std.proofs.Common.{rules, arith}
use Rattle.aml_accesses.proofs.bank_access.begin_units.Goals as goal

pub returns-in_ok-bytes-in-Read : goal.returns-in_ok-bytes-in-Read
returns-in_ok-bytes-in-Read g c = record {
  spent = omega arith;
  falls = rw c.units-left.ensures at c.next_bank_read.ensures.falls;
  means = search rules;
  ends = search rules;
}

pub returns-in-Write : goal.returns-in-Write
returns-in-Write g c = record {
  spent = omega arith;
  falls = rw c.units-left.ensures at c.next_bank_write.ensures.falls;
  means = search rules;
  ends = search rules;
}
