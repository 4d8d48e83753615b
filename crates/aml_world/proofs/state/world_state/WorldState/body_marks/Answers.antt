use Rattle.std.proofs.Common.{List}
use Rattle.aml_grammar.specs.declared.marks.Mark.{Mark}
use Rattle.aml_marks.specs.Marked.{trees_by}
use Rattle.aml_world.proofs.BodyMarks.{body_of_world}
use Rattle.aml_world.proofs.state.world_state.WorldState.body_marks.Goals as goal

pub returns-clause-marks : goal.returns-clause-marks
returns-clause-marks g c =
    let i = c.self.inside in
    let call = c.body_marks in
    body_of_world (λ (m : List Mark). trees_by m c.args.body.now) call.result c.args.path.now c.args.body.now i.declarations call.new.self i.heap i.frames.items i.started i.space i.osi.items i.width i.profile i.nesting i.passed
    c.args.self.now c.self.view_is call.ensures.unchanged call.ensures.marks
