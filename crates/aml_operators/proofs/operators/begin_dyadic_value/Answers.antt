use Rattle.std.proofs.Common.{refl, rules, arith}
use Rattle.aml_meaning.specs.Meaning.{meaning}
use Rattle.aml_frames.specs.declared.frames.Frame.TheVariants as frames
use Rattle.aml_frames.specs.declared.frames.Next.TheVariants as next
use Rattle.aml_frames.specs.declared.uses.SecondOperand.{SecondOperand}
use Rattle.aml_frames.specs.Places.{behind_term}
use Rattle.aml_frames.specs.Uses.{dyadic_done}
use Rattle.aml_frames.proofs.Knowing.{leads_on, taken_value}
use Rattle.aml_frames.proofs.Stepping.{leads_settled, leads_value}
use Rattle.aml_operators.proofs.operators.begin_dyadic_value.Goals as goal

pub returns-in-Some-clause-steps : goal.returns-in-Some-clause-steps
returns-in-Some-clause-steps g c = record {
  spent = omega arith;
  falls = first_of (search rules, grind arith);
  means =
      let v = c.in-Some.first in
      let at = c.short_value.new.act in
      let o : SecondOperand = record { kind = c.args.kind; levels = c.args.levels; first = v } in
      let known = rw c.in-Some.is at c.in_ok-first.ensures.value in
      let behind = rw c.in-Some.is at c.in_ok-first.ensures.behind in
      let second = leads_on (next.Term c.args.levels (frames.Second o)) at _ c.begin_second.ensures.steps.means (leads_value c.args.levels (frames.Second o) (λ u. dyadic_done g.S.Space.accesses (meaning g.S.Space.accesses) o u (behind_term at c.args.levels)) refl) in
      taken_value c.args.act.now c.args.levels v (frames.First c.args.kind c.args.levels) known behind (leads_settled v _ second);
  ends = search rules;
}
