use Rattle.std.proofs.Common.{refl}
use Rattle.aml_arities.specs.PathTree.{paths_of}
use Rattle.aml_arities.proofs.path_tree.PathTree.new.Goals as goal

pub returns : goal.returns
unfolding paths_of
returns c = rw c.new.ensures.items refl
