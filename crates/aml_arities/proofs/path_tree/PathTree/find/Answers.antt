use Rattle.std.proofs.Common.{◌∙◌, ◌++◌, ap, List}
use Rattle.aml_path.specs.declared.segment.Seg.{Seg}
use Rattle.aml_arities.specs.PathTree.{number_of}
use Rattle.aml_arities.proofs.PathTrees.{number_is}
use Rattle.aml_arities.proofs.path_tree.PathTree.find.Goals as goal

pub descend-requires : goal.descend-requires
descend-requires c = (number_is _ c.args.self.now c.root.result c.root.ensures).0

pub returns : goal.returns
returns c =
    c.descend.ensures
    ∙ ap (λ (p : List Seg). number_of (p ++ c.segments.result.now) c.args.self.now) (number_is _ c.args.self.now c.root.result c.root.ensures).1
    ∙ ap (λ (p : List Seg). number_of p c.args.self.now) c.segments.ensures
