use Rattle.std.proofs.Common.{◌≡◌, [], Some, subst}
use Rattle.aml_objects.specs.declared.entry.Entry.{Entry}
use Rattle.aml_namespace.specs.Namespace.{Namespace, numbered}
use Rattle.aml_namespace.specs.Tree.{child_in}
use Rattle.aml_namespace.proofs.Climbing.{root_is}
use Rattle.aml_namespace.proofs.names.Names.root.Goals as goal

pub returns : goal.returns
returns c = subst (λ (s : Namespace). (e : Entry) × (numbered c.root_id.result.number s.map ≡ Some ([], e))) c.self.view_is (root_is c.self.inside.nodes (child_in c.self.inside.index) c.self.inside.next c.self.invariant c.root_id.result.number c.root_id.ensures)
