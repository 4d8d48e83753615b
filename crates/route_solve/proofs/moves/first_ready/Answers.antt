use Rattle.std.proofs.Common.{◌≡◌, false, arith, subst, ◌∙◌}
use Rattle.std.proofs.lemmas.List.{get_or_default}
use Rattle.std.proofs.lemmas.List.Elements.{Contains-get_or}
use Rattle.route_model.specs.Placement.{is_reached}
use Rattle.route_solve.proofs.moves.first_ready.Goals as goal

pub bounds-visited-offers : goal.bounds-visited-offers
bounds-visited-offers c = c.requires _ (Contains-get_or c.args.offers.now c.loop-k.k 0 c.loop-k-test.true)

pub returns : goal.returns
returns c i w = subst (λ m. is_reached c.args.visited.now m ≡ false) (get_or_default c.args.offers.now w.0 0 i w.1 ∙ w.2) (c.loop-k.invariant w.0 (let b = w.1 in let t = c.loop-k-test.false in omega arith))
