use Rattle.std.proofs.Common.{◌∙◌, [], ap, sym, List}
use Rattle.aml_path.specs.declared.segment.Seg.{Seg}
use Rattle.aml_arities.specs.PathTree.{child_in, number_of}
use Rattle.aml_arities.proofs.PathTrees.{root_number}
use Rattle.aml_arities.proofs.path_tree.PathTree.root.Goals as goal

pub returns : goal.returns
returns c =
    ap (λ (ps : List (List Seg)). number_of [] ps) (sym c.self.view_is)
    ∙ root_number c.self.inside.steps.items (child_in c.self.inside.index.entries) c.self.invariant
