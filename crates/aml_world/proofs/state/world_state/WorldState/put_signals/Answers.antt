use Rattle.std.proofs.Common.{rules}
use Rattle.aml_world.specs.state.State.{State}
use Rattle.aml_world.proofs.Signals.{put_at}
use Rattle.aml_world.proofs.state.world_state.WorldState.put_signals.Goals as goal

pub returns : goal.returns
returns g c =
    let i = c.self.inside in
    let w : State g.row.S.Denot = record { names = i.declarations.names; arities = i.declarations.arities; objects = i.heap; frames = i.frames.items; started = i.started; space = i.space; osi = i.osi.items; width = i.width; profile = i.profile; nesting = i.nesting; passed = i.passed } in
    let k = c.replace_node.new.self in
    record { change = put_at w _ c.args.number c.args.count k.names k.arities _ c.self.view_is c.in_ok-declaration.ensures.answer c.numbered.result c.numbered.ensures c.replace_node.ensures.change c.replace_node.ensures.arities; memory = search rules }
