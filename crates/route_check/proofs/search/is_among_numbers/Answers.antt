use Rattle.std.proofs.Common.{arith, sym, ◌≢◌}
use Rattle.std.proofs.lemmas.List.{take_all}
use Rattle.std.proofs.lemmas.List.Elements.{All-same}
use Rattle.route_check.proofs.Loops.{none_found, no}
use Rattle.route_check.proofs.search.is_among_numbers.Goals as goal

pub returns : goal.returns
returns g c = no (none_found g.T.Numbered.number c.args.xs.now c.args.n (All-same (λ x. g.T.Numbered.number x ≢ c.args.n) _ _ (sym (take_all c.loop-x.x-index c.args.xs.now (omega arith))) c.loop-x.invariant))
