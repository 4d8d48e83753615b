use Rattle.std.proofs.Common.{rules, arith}
use Rattle.aml_evaluation.proofs.Machine.{falls_done}
use Rattle.aml_evaluation.proofs.Machine.{listing_on}
use Rattle.aml_evaluation.proofs.lists.follow_item.Goals as goal

pub returns-in-Flow : goal.returns-in-Flow
returns-in-Flow g c = record {
  falls = rw c.in-Flow.is (falls_done c.next_item.result _ _ _ c.next_item.ensures.falls);
  ended = search (rules, listing_on);
  memory = search (rules, listing_on);
  means = rw c.in-Flow.is c.next_item.ensures.means;
}
