use Rattle.std.proofs.Common.{rules, arith}
use Rattle.aml_evaluation.proofs.Machine.{weight_on}
use Rattle.aml_evaluation.proofs.Machine.{listing_on}
use Rattle.aml_evaluation.proofs.lists.follow_above.Goals as goal

pub returns : goal.returns
returns g c = record {
  falls = let h = rw (c.in_ok-push_list.ensures.kept, c.in_ok-push_list.ensures.pushed, weight_on) at c.follow.ensures.falls in h;
  ended = search (rules, listing_on);
  memory = search (rules, listing_on);
  means = let h = rw (c.push_list.ensures.act, c.in_ok-push_list.ensures.kept, c.in_ok-push_list.ensures.pushed) at c.follow.ensures.means in h;
}
