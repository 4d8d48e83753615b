use Rattle.std.proofs.Common.{◌≡◌, Some, length}
use Rattle.aml_namespace.specs.Namespace.{numbered}
use Rattle.aml_namespace.specs.Search.{Found, search_up}
use Rattle.aml_namespace.proofs.names.Names.search_above.Given as goal

-- what is found from the scope is what is found from the node that is reached
abbrev pub invariant-scopes : goal.invariant-scopes
invariant-scopes l = (f : Found) → numbered l.initial.current.number l.self.map ≡ Some f → (g : Found) × (numbered l.current.number l.self.map ≡ Some g) × (search_up l.self.map f.0 l.segments (length f.0) ≡ search_up l.self.map g.0 l.segments (length g.0))

abbrev pub decreases-scopes : goal.decreases-scopes
decreases-scopes l = l.current.number
