use Rattle.std.proofs.Common.{arith, rules}
use Rattle.aml_frames.specs.declared.frames.Frame.TheVariants as frames
use Rattle.aml_frames.proofs.Knowing.{taken_known, predicate_known}
use Rattle.aml_frames.proofs.Weighing.{charged_paid}
use Rattle.aml_statements.proofs.loops.begin_predicate.Goals as goal

pub returns-in-Some-clause-falls : goal.returns-in-Some-clause-falls
returns-in-Some-clause-falls g c =
    let paid = rw c.in-Some.is at c.in_ok-number.ensures.paid in
    let p = charged_paid c.known_integer.new.run.1 c.args.run.now.1 paid in
    omega (arith, p, c.next_turn.ensures.steps.falls)

pub returns-in-Some-clause-steps : goal.returns-in-Some-clause-steps
returns-in-Some-clause-steps g c = record {
  spent = omega arith;
  falls = first_of (search rules, grind arith);
  means =
      let integer = rw c.in-Some.is at c.in_ok-number.ensures.integer in
      let behind = rw c.in-Some.is at c.in_ok-number.ensures.behind in
      let h = rw c.is_true.ensures at c.next_turn.ensures.steps.means in
      taken_known c.args.act.now c.args.turn.levels c.in-Some.number (frames.Predicate c.args.turn) integer behind (predicate_known c.known_integer.new.act c.in-Some.number c.args.turn h);
  ends = search rules;
}
