use Rattle.std.proofs.Common.{rules, arith}
use Rattle.aml_accesses.proofs.BankSteps.{falls_located}
use Rattle.aml_accesses.proofs.field_access.access_space.Goals as goal

pub returns-in-Some : goal.returns-in-Some
returns-in-Some g c = record {
  spent = omega arith;
  falls = falls_located c.begin_units.result c.args.access c.in-Some.bank c.in-Some.is c.begin_units.ensures.falls;
  means = search rules;
  ends = search rules;
}
