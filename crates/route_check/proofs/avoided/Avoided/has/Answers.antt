use Rattle.std.proofs.lemmas.List.{map-id}
use Rattle.route_model.proofs.NotAvoided.{avoided_is}
use Rattle.route_check.proofs.avoided.Avoided.has.Goals as goal

pub returns : goal.returns
returns c = avoided_is c.args.self.now c.args.n c.has_number.result (rw (map-id c.self.inside.interrupts.now, c.self.view_is) at c.has_number.ensures)
