use Rattle.std.proofs.Common.{subst}
use Rattle.aml_namespace.specs.Numbering.{Numbered}
use Rattle.aml_namespace.specs.Tree.{child_in}
use Rattle.aml_namespace.proofs.Numbering.{tree_numbered}
use Rattle.aml_namespace.proofs.names.Names.numbers_are_given_once.Goals as goal

pub returns : goal.returns
returns c = subst Numbered c.self.view_is (tree_numbered c.self.inside.nodes (child_in c.self.inside.index) c.self.inside.next c.self.invariant)
