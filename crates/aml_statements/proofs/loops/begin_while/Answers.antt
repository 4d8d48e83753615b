use Rattle.std.proofs.Common.{refl, rules, arith}
use Rattle.aml_frames.specs.declared.frames.Frame.TheVariants as frames
use Rattle.aml_frames.specs.declared.frames.Loop.{Loop}
use Rattle.aml_frames.specs.declared.frames.Next.TheVariants as next
use Rattle.aml_frames.proofs.Knowing.{leads_on}
use Rattle.aml_frames.proofs.Stepping.{leads_while}
use Rattle.aml_statements.proofs.loops.begin_while.Goals as goal

pub returns-clause-steps : goal.returns-clause-steps
returns-clause-steps g c = record {
  spent = omega arith;
  falls = first_of (search rules, grind arith);
  means =
      let l : Loop = record { levels = c.args.levels; predicate = c.position-predicate.result; outer = c.open-outer.result } in
      leads_on (next.Term c.args.levels (frames.Predicate l)) c.open-outer.new.self _ c.begin_predicate.ensures.steps.means (leads_while c.args.act.now c.open-outer.new.self c.args.levels l c.open-outer.ensures.inside c.position-predicate.ensures refl);
  ends = search rules;
}
