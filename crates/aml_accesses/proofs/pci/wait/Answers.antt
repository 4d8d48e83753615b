use Rattle.std.proofs.Common.{rules, arith}
use Rattle.aml_accesses.proofs.Addressing.{leads_part}
use Rattle.aml_accesses.proofs.pci.wait.Goals as goal

pub returns-in_ok-waiting-in-Field : goal.returns-in_ok-waiting-in-Field
returns-in_ok-waiting-in-Field g c = record {
  spent = omega arith;
  falls = first_of (search rules, grind arith);
  means = rw (c.in-Field.is, c.in_ok-access-in-Field.ensures, c.in_ok-waiting-in-Field.ensures) (leads_part c.in-Field.calls c.in-Field.field c.args.pci);
  ends = search rules;
}
