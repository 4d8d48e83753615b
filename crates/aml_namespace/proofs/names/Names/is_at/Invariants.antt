use Rattle.std.proofs.Common.{◌≡◌, ◌≤◌, ◌++◌, length, drop, Some}
use Rattle.aml_namespace.specs.Namespace.{numbered}
use Rattle.aml_namespace.specs.Search.{Found}
use Rattle.aml_namespace.proofs.names.Names.is_at.Given as goal

-- the path of the node that is reached, and the segments that were passed on the way to it
abbrev pub invariant-levels : goal.invariant-levels
invariant-levels l = (l.depth ≤ length l.segments) × ((f : Found) → numbered l.initial.current.number l.self.map ≡ Some f → (g : Found) × (numbered l.current.number l.self.map ≡ Some g) × (f.0 ≡ g.0 ++ drop l.depth l.segments))

abbrev pub decreases-levels : goal.decreases-levels
decreases-levels l = l.depth
