use Rattle.std.proofs.Common.{rules, arith}
use Rattle.aml_frames.specs.Addresses.{bridges_known}
use Rattle.aml_accesses.proofs.Addressing.{leads_waits}
use Rattle.aml_accesses.proofs.pci.begin_segment.Goals as goal

pub returns-in-Waits : goal.returns-in-Waits
unfolding bridges_known
returns-in-Waits g c = record {
  spent = omega arith;
  falls = first_of (search rules, grind arith);
  means = let h = rw c.segment_group.ensures at c.in_ok-asked.ensures.means in leads_waits c.in_ok-asked.asked c.in-Waits.waited _ _ h c.in-Waits.is c.wait.ensures.means;
  ends = search rules;
}
