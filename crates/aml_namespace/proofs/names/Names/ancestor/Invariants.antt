use Rattle.std.proofs.Common.{◌≡◌, Some}
use Rattle.aml_namespace.specs.Namespace.{numbered}
use Rattle.aml_namespace.specs.Search.{Found, IsAncestor}
use Rattle.aml_namespace.proofs.names.Names.ancestor.Given as goal

abbrev pub invariant-loop-level : goal.invariant-loop-level
invariant-loop-level l = (f : Found) → numbered l.initial.current.number l.self.map ≡ Some f → IsAncestor l.self.map f.0 l.current.number l.level
