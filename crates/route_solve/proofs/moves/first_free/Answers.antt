use Rattle.std.proofs.lemmas.List.Elements.{Contains-get_or}
use Rattle.route_solve.proofs.moves.first_free.Goals as goal

pub has_room-requires-clause-known : goal.has_room-requires-clause-known
has_room-requires-clause-known c = c.requires.known _ (Contains-get_or c.args.offers.now c.loop-i.i-index 0 c.loop-i-test.true)
