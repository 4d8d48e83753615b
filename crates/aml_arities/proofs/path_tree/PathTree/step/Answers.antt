use Rattle.std.proofs.Common.{◌≡◌, ◌∙◌, ◌<◌, ◌≤◌, ◌+◌, ◌++◌, ◌∷◌, [], ap, sym, length, get_or, List, Some, arith, suc, refl}
use Rattle.std.specs.List.{slice_get}
use Rattle.std.proofs.lemmas.Option.{slice_get-get_or}
use Rattle.aml_path.specs.declared.segment.Seg.{Seg}
use Rattle.aml_arities.specs.PathTree.{paths_of}
use Rattle.aml_arities.proofs.PathTrees.{many_paths, step_path}
use Rattle.aml_arities.proofs.path_tree.PathTree.step.Goals as goal

pub index-requires : goal.index-requires
index-requires c = omega (arith, c.requires, many_paths c.self.inside.steps.items, ap length c.self.view_is)

pub returns-clause-parent : goal.returns-clause-parent
returns-clause-parent c =
    let steps = c.self.inside.steps.items in
    let within : c.args.before < length steps = omega (arith, c.requires, many_paths steps, ap length c.self.view_is) in
    let at : slice_get steps c.args.before ≡ Some c.index.result.now = slice_get-get_or steps c.args.before c.index.result.now within ∙ ap Some (sym c.index.ensures) in
    let low = c.self.invariant.before (suc c.args.before) c.index.result.now.0 c.index.result.now.1 at in
    omega (arith, low)

pub returns-clause-path : goal.returns-clause-path
returns-clause-path c =
    let steps = c.self.inside.steps.items in
    let within : c.args.before < length steps = omega (arith, c.requires, many_paths steps, ap length c.self.view_is) in
    let at : slice_get steps c.args.before ≡ Some c.index.result.now = slice_get-get_or steps c.args.before c.index.result.now within ∙ ap Some (sym c.index.ensures) in
    let low = c.self.invariant.before (suc c.args.before) c.index.result.now.0 c.index.result.now.1 at in
    ap (λ (ps : List (List Seg)). get_or ps (c.args.before + 1) []) (sym c.self.view_is)
    ∙ step_path steps c.args.before c.index.result.now.0 c.index.result.now.1 at (omega (arith, low))
    ∙ ap (λ (ps : List (List Seg)). get_or ps c.index.result.now.0 [] ++ c.index.result.now.1 ∷ []) c.self.view_is
