use Rattle.std.proofs.Common.{rules, arith}
use Rattle.aml_frames.specs.Addresses.{segment_known}
use Rattle.aml_accesses.proofs.Addressing.{leads_waits}
use Rattle.aml_accesses.proofs.pci.begin_bus.Goals as goal

pub returns-in-Waits : goal.returns-in-Waits
unfolding segment_known
returns-in-Waits g c = record {
  spent = omega arith;
  falls = first_of (search rules, grind arith);
  means = let h = rw c.base_bus.ensures at c.in_ok-asked.ensures.means in leads_waits c.in_ok-asked.asked c.in-Waits.waited _ _ h c.in-Waits.is c.wait.ensures.means;
  ends = search rules;
}
