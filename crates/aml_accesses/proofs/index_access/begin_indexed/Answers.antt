use Rattle.std.proofs.Common.{◌<◌, rules, arith}
use Rattle.aml_accesses.proofs.UnitSteps.{falls_units, indexed}
use Rattle.aml_accesses.proofs.index_access.begin_indexed.Goals as goal

pub returns-in_ok-bytes-in-Read-clause-steps : goal.returns-in_ok-bytes-in-Read-clause-steps
returns-in_ok-bytes-in-Read-clause-steps g c = record {
  spent = omega arith;
  falls =
      let few : c.args.access.0.bits < 4294967296 = first_of (search rules, grind arith) in
      let h = rw c.units-left.ensures at c.next_read.ensures.falls in falls_units c.next_read.result c.args.calls c.args.access.0 few h;
  means = search (rules, indexed);
  ends = search rules;
}

pub returns-in-Write-clause-steps : goal.returns-in-Write-clause-steps
returns-in-Write-clause-steps g c = record {
  spent = omega arith;
  falls =
      let few : c.args.access.0.bits < 4294967296 = first_of (search rules, grind arith) in
      let h = rw c.units-left.ensures at c.next_write.ensures.falls in falls_units c.next_write.result c.args.calls c.args.access.0 few h;
  means = search (rules, indexed);
  ends = search rules;
}
