use Rattle.std.proofs.Common.{take}
use Rattle.std.specs.Prelude.{Contains, All}
use Rattle.route_check.specs.Valid.{keys_of}
use Rattle.route_check.proofs.known.all_given.Given as goal

abbrev pub invariant-loop-link : goal.invariant-loop-link
invariant-loop-link l = All (λ x. Contains (keys_of l.gives) x.path) (take l.link-index l.links)
