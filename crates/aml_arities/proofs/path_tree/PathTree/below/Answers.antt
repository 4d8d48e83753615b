use Rattle.std.proofs.Common.{◌≡◌, ◌∙◌, ◌<◌, ◌++◌, ◌∷◌, [], ap, sym, subst, length, get_or, List, None}
use Rattle.aml_path.specs.declared.segment.Seg.{Seg}
use Rattle.aml_arities.specs.PathTree.{child_in, number_of, paths_of}
use Rattle.aml_arities.proofs.PathTrees.{child_is, none_deeper}
use Rattle.aml_arities.proofs.path_tree.PathTree.below.Goals as goal

pub returns-clause-here : goal.returns-clause-here
returns-clause-here c =
    let steps = c.self.inside.steps.items in
    let within : c.args.parent < length (paths_of steps) = subst (λ (ps : List (List Seg)). c.args.parent < length ps) (sym c.self.view_is) c.requires in
    c.copied.ensures ∙ c.get.ensures.value
    ∙ child_is steps (child_in c.self.inside.index.entries) c.self.invariant c.args.parent c.args.segment within
    ∙ ap (λ (ps : List (List Seg)). number_of (get_or ps c.args.parent [] ++ c.args.segment ∷ []) ps) c.self.view_is

pub returns-clause-deeper : goal.returns-clause-deeper
returns-clause-deeper c = λ none rest.
    let steps = c.self.inside.steps.items in
    let within : c.args.parent < length (paths_of steps) = subst (λ (ps : List (List Seg)). c.args.parent < length ps) (sym c.self.view_is) c.requires in
    let absent : child_in c.self.inside.index.entries c.args.parent c.args.segment ≡ None = sym (c.copied.ensures ∙ c.get.ensures.value) ∙ none in
    ap (λ (ps : List (List Seg)). number_of (get_or ps c.args.parent [] ++ c.args.segment ∷ rest) ps) (sym c.self.view_is)
    ∙ none_deeper steps (child_in c.self.inside.index.entries) c.self.invariant c.args.parent c.args.segment rest within absent
