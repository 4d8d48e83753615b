use Rattle.std.proofs.Common.{rules, arith}
use Rattle.aml_accesses.proofs.UnitSteps.{leads_over}
use Rattle.aml_accesses.proofs.index_access.write_over.Goals as goal

pub returns : goal.returns
returns g c = record {
  spent = omega arith;
  falls = first_of (search rules, grind arith);
  means = let h = rw c.as_slice.ensures at c.merge_unit-number.ensures in
      let m = rw c.in_ok-new.ensures at c.write_then.ensures.means in
      leads_over c.args.writes c.args.unit c.args.old c.merge_unit-number.result h m;
  ends = search rules;
}
