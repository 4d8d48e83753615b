use Rattle.std.proofs.Common.{subst, rules, arith}
use Rattle.aml_frames.specs.declared.frames.Frame.TheVariants as frames
use Rattle.aml_frames.specs.declared.frames.Next.TheVariants as next
use Rattle.aml_frames.specs.Follow.{EndsAt}
use Rattle.aml_frames.proofs.Knowing.{leads_on}
use Rattle.aml_frames.proofs.Forming.{leads_buffer, ends_buffer}
use Rattle.aml_declarations.proofs.data.begin_buffer.Goals as goal

pub returns : goal.returns
returns g c = record {
  spent = omega arith;
  falls = first_of (search rules, grind arith);
  means = leads_on (next.Term c.args.levels (frames.Buffer c.open-outer.result)) c.open-outer.new.self _ c.begin_size.ensures.means (leads_buffer c.args.act.now c.open-outer.new.self c.args.levels c.open-outer.result c.open-outer.ensures.inside);
  ends = subst (EndsAt c.begin_size.result c.begin_size.new.act) (ends_buffer c.args.act.now c.open-outer.new.self c.args.levels c.open-outer.result c.open-outer.ensures.inside c.open-outer.ensures.outer) c.begin_size.ensures.ends;
}
