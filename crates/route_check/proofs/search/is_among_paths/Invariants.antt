use Rattle.std.proofs.Common.{take, ◌≢◌}
use Rattle.std.specs.Prelude.{All}
use Rattle.route_check.proofs.search.is_among_paths.Given as goal

abbrev pub invariant-loop-x : goal.invariant-loop-x
invariant-loop-x g l = All (λ x. g.T.Named.path x ≢ l.path) (take l.x-index l.xs)
