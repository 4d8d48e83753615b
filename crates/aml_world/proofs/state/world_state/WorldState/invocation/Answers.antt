use Rattle.aml_world.proofs.Uses.{found_is, refused_is, does_use, does_refuse}
use Rattle.aml_world.proofs.state.world_state.WorldState.invocation.Goals as goal

pub returns-in-Ok : goal.returns-in-Ok
returns-in-Ok g c =
    let f = found_is _ _ c.in-Ok.ensures.answer in
    does_use c.args.self.now c.args.scope.path.now c.args.name.now c.args.count f.0 _ f.1 (c.use_with.ensures f.0 f.2)

pub returns-in-Err : goal.returns-in-Err
returns-in-Err g c = does_refuse c.args.self.now c.args.scope.path.now c.args.name.now c.args.count c.in-Err.refusal (refused_is c.in-Err.refusal _ c.in-Err.ensures.answer)
