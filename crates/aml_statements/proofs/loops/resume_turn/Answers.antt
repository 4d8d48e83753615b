use Rattle.aml_frames.specs.declared.frames.Frame.TheVariants as frames
use Rattle.aml_frames.specs.declared.frames.Next.TheVariants as next
use Rattle.aml_frames.proofs.Knowing.{leads_on}
use Rattle.aml_frames.proofs.Stepping.{leads_again, leads_loop}
use Rattle.aml_statements.proofs.loops.resume_turn.Goals as goal

pub returns-in-None-clause-means : goal.returns-in-None-clause-means
returns-in-None-clause-means g c = rw (c.told_turn.ensures.same, c.told_turn.ensures.act) (leads_again c.args.act.now c.args.turn c.loop_end.result c.args.flow c.loop_end.ensures c.in-None.is (leads_on (next.Term c.args.turn.levels (frames.Predicate c.args.turn)) c.go_to.new.self _ c.begin_predicate-next.ensures.steps.means (leads_loop c.args.act.now c.go_to.new.self c.args.turn c.go_to.ensures)))
