use Rattle.std.proofs.Common.{take}
use Rattle.std.specs.Prelude.{Contains, All}
use Rattle.route_model.specs.Links.{paths_of}
use Rattle.route_check.proofs.known.all_known.Given as goal

abbrev pub invariant-loop-give : goal.invariant-loop-give
invariant-loop-give l = All (λ x. Contains (paths_of l.links) x.0) (take l.give-index l.gives)
