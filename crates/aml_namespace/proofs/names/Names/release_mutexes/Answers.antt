use Rattle.std.proofs.Common.{◌∙◌, ap}
use Rattle.aml_namespace.specs.Namespace.{mutexes_released}
use Rattle.aml_namespace.specs.Tree.{child_in}
use Rattle.aml_namespace.proofs.Changes.{released_linked, released_is}
use Rattle.aml_namespace.proofs.names.Names.release_mutexes.Goals as goal

pub invariant_of-self : goal.invariant_of-self
invariant_of-self c = released_linked c.self.inside.nodes (child_in c.self.inside.index) c.self.inside.next c.self.invariant c.release.new.self c.release.ensures

pub returns : goal.returns
returns c = released_is c.self.inside.nodes (child_in c.self.inside.index) c.self.inside.next c.self.invariant c.release.new.self c.release.ensures ∙ ap mutexes_released c.self.view_is
