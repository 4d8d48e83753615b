use Rattle.std.proofs.Common.{◌≤◌, rules, arith}
use Rattle.aml_frames.proofs.Weighing.{falls_search}
use Rattle.aml_operators.proofs.Matching.{matching}
use Rattle.aml_operators.proofs.searching.next_operand.Goals as goal

pub returns-in_ok-searching-in-Start : goal.returns-in_ok-searching-in-Start
returns-in_ok-searching-in-Start g c = record {
  spent = omega arith;
  falls =
      let few : c.in_ok-searching-in-Start.searching.left ≤ 18446744073709551616 = first_of (search rules, grind arith) in
      falls_search c.search_on.result c.in_ok-searching-in-Start.searching.left few c.search_on.ensures.falls;
  means = search (rules, matching);
  ends = search rules;
}
