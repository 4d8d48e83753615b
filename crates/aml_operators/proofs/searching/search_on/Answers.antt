use Rattle.std.proofs.Common.{arith, rules}
use Rattle.aml_operators.proofs.Matching.{leads_none}
use Rattle.aml_frames.proofs.Weighing.{search_up}
use Rattle.aml_operators.proofs.searching.search_on.Goals as goal

pub returns-in-Some : goal.returns-in-Some
returns-in-Some g c = record {
  spent = omega arith;
  falls =
      let h = rw c.in-Some.is at c.in_ok-looked.ensures.falls in
      let p = search_up c.elements.rest c.args.left c.elements.invariant.1 in
      omega (arith, h, p);
  means = search rules;
  ends = search rules;
}

pub returns : goal.returns
returns g c = record {
  spent = omega arith;
  falls = first_of (search rules, grind arith);
  means = leads_none g.S.Space.accesses c.args.act.now.depth c.args.search c.args.left c.elements.rest c.elements.invariant.0 (omega (arith, c.elements-test.false)) c.find_none.ensures.means;
  ends = search rules;
}
