use Rattle.std.proofs.Common.{◌<◌, length, ap, sym, ◌∙◌, arith}
use Rattle.aml_world.specs.state.NewObjects.{filled}
use Rattle.aml_world.proofs.Filling.{grown}
use Rattle.aml_world.proofs.state.new_objects.filled.Goals as goal

pub loop-all-preserved : goal.loop-all-preserved
loop-all-preserved c =
    let room : length c.loop-all.all < c.args.count = rw (← c.as_slice.ensures) (omega arith) in
    c.loop-all.invariant ∙ grown c.args.count c.loop-all.all room ∙ ap (filled c.args.count) (sym c.in_ok-push.ensures.ok)
