use Rattle.aml_world.proofs.Uses.{does_use}
use Rattle.aml_operators.proofs.names.name_used.Goals as goal

pub returns-in-Some : goal.returns-in-Some
returns-in-Some g c =
    let f = rw c.in-Some.is at c.requires in
    rw (← c.from.ensures, f.stands.name) (does_use c.args.world.now c.args.act.now.scope _ c.from.result f.node _ f.finds (c.use_with.ensures f.node f.is))
