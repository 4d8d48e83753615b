use Rattle.std.proofs.Common.{◌≡◌, ◌∙◌, ◌+◌, ap, sym, length, arith}
use Rattle.aml_arities.proofs.PathTrees.{many_paths}
use Rattle.aml_arities.proofs.path_tree.PathTree.len.Goals as goal

pub returns : goal.returns
returns c =
    let number : c.len.result + 1 ≡ length c.self.inside.steps.items + 1 = omega (arith, c.len.ensures) in
    number ∙ sym (many_paths c.self.inside.steps.items) ∙ ap length c.self.view_is
