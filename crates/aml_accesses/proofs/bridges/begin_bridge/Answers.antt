use Rattle.std.proofs.Common.{rules, arith}
use Rattle.aml_frames.specs.Addresses.{bridge_asked}
use Rattle.aml_accesses.proofs.Addressing.{leads_waits}
use Rattle.aml_accesses.proofs.bridges.begin_bridge.Goals as goal

pub returns-in-Waits : goal.returns-in-Waits
unfolding bridge_asked
returns-in-Waits g c = record {
  spent = omega arith;
  falls = first_of (search rules, grind arith);
  means = leads_waits c.in_ok-asked.asked c.in-Waits.waited _ _ c.in_ok-asked.ensures.means c.in-Waits.is c.wait.ensures.means;
  ends = search rules;
}
