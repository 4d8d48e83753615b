use Rattle.std.proofs.Common.{◌≡◌, ◌++◌, Some, reverse}
use Rattle.aml_namespace.specs.Namespace.{numbered}
use Rattle.aml_namespace.specs.Search.{Found}
use Rattle.aml_namespace.proofs.names.Names.path_of.Given as goal

-- the path of the node that is reached, and the segments that were passed on the way to it
abbrev pub invariant-levels : goal.invariant-levels
invariant-levels l = (f : Found) → numbered l.initial.current.number l.self.map ≡ Some f → (g : Found) × (numbered l.current.number l.self.map ≡ Some g) × (f.0 ≡ g.0 ++ reverse l.segments.items)

abbrev pub decreases-levels : goal.decreases-levels
decreases-levels l = l.current.number
