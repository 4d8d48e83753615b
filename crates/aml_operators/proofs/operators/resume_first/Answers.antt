use Rattle.std.proofs.Common.{refl, rules, arith}
use Rattle.aml_frames.specs.declared.frames.Frame.TheVariants as frames
use Rattle.aml_frames.specs.declared.frames.Next.TheVariants as next
use Rattle.aml_frames.specs.declared.uses.SecondOperand.{SecondOperand}
use Rattle.aml_meaning.specs.Meaning.{meaning}
use Rattle.aml_frames.specs.Places.{behind_term}
use Rattle.aml_frames.specs.Uses.{dyadic_done}
use Rattle.aml_frames.proofs.Knowing.{leads_on}
use Rattle.aml_frames.proofs.Stepping.{leads_settle_ok, leads_value}
use Rattle.aml_operators.proofs.operators.resume_first.Goals as goal

pub returns : goal.returns
returns g c = record {
  spent = omega arith;
  falls = first_of (search rules, grind arith);
  means =
      let o : SecondOperand = record { kind = c.args.kind; levels = c.args.levels; first = c.in_ok-value.value } in
      leads_settle_ok _ _ c.in_ok-value.ensures.answer (leads_on (next.Term c.args.levels (frames.Second o)) c.args.act.now _ c.begin_second.ensures.steps.means (leads_value c.args.levels (frames.Second o) (λ u. dyadic_done g.S.Space.accesses (meaning g.S.Space.accesses) o u (behind_term c.args.act.now c.args.levels)) refl));
  ends = search rules;
}
