use Rattle.aml_frames.proofs.ShortNames.{finds_if}
use Rattle.aml_frames.proofs.at_once.short_names.node_at.Goals as goal

pub returns-in-Some : goal.returns-in-Some
returns-in-Some g c = rw (← c.scope.ensures) (finds_if c.args.world.now _ c.args.act.now.place c.in-Some.segment c.node_named.result c.in-Some.ensures c.node_named.ensures.found)
