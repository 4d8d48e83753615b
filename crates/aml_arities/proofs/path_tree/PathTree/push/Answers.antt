use Rattle.std.proofs.Common.{◌≡◌, ◌∙◌, ◌<◌, ◌+◌, ◌++◌, ◌∷◌, [], ℕ, ap, sym, subst, length, get_or, List, Some, None, cond, arith}
use Rattle.std.specs.Ordering.{eq_by_cmp}
use Rattle.aml_path.specs.declared.segment.Seg.{Seg}
use Rattle.aml_arities.specs.PathTree.{Step, step_cmp, child_in, number_of, paths_of, Linked, Kept}
use Rattle.aml_arities.proofs.PathTrees.{child_is, push_linked, push_number, push_kept}
use Rattle.aml_arities.proofs.path_tree.PathTree.push.Goals as goal

pub invariant_of-self-2 : goal.invariant_of-self-2
invariant_of-self-2 c =
    let steps = c.self.inside.steps.items in
    let children = child_in c.self.inside.index.entries in
    let within : c.args.parent < length (paths_of steps) = subst (λ (ps : List (List Seg)). c.args.parent < length ps) (sym c.self.view_is) c.requires.within in
    let free : children c.args.parent c.args.segment ≡ None =
    child_is steps children c.self.invariant c.args.parent c.args.segment within
    ∙ ap (λ (ps : List (List Seg)). number_of (get_or ps c.args.parent [] ++ c.args.segment ∷ []) ps) c.self.view_is ∙ c.requires.free in
    let number : c.len-before.result + 1 ≡ length steps + 1 = omega (arith, c.len-before.ensures) in
    let updated : (p : ℕ) (s : Seg) → child_in c.insert.new.self.entries p s ≡ cond (eq_by_cmp step_cmp (c.args.parent, c.args.segment) (p, s)) (Some (length steps + 1)) (children p s) = λ p s.
    c.in_ok-insert.ensures.updates.0 (p, s) ∙ ap (λ n. cond (eq_by_cmp step_cmp (c.args.parent, c.args.segment) (p, s)) (Some n) (children p s)) number in
    let items : c.push_reserved.new.self.items ≡ steps ++ (c.args.parent, c.args.segment) ∷ [] =
    c.push_reserved.ensures.items ∙ ap (λ (l : List Step). l ++ (c.args.parent, c.args.segment) ∷ []) c.reserve.ensures.items in
    subst (λ (l : List Step). Linked l (child_in c.insert.new.self.entries)) (sym items)
    (push_linked steps children c.self.invariant c.args.parent c.args.segment within free (child_in c.insert.new.self.entries) updated)

pub returns-clause-kept : goal.returns-clause-kept
returns-clause-kept c =
    let steps = c.self.inside.steps.items in
    let items : c.push_reserved.new.self.items ≡ steps ++ (c.args.parent, c.args.segment) ∷ [] =
    c.push_reserved.ensures.items ∙ ap (λ (l : List Step). l ++ (c.args.parent, c.args.segment) ∷ []) c.reserve.ensures.items in
    subst (λ (ps : List (List Seg)). Kept ps (paths_of c.push_reserved.new.self.items)) c.self.view_is
    (subst (λ (l : List Step). Kept (paths_of steps) (paths_of l)) (sym items) (push_kept steps (c.args.parent, c.args.segment)))

pub returns-clause-node : goal.returns-clause-node
returns-clause-node c =
    let steps = c.self.inside.steps.items in
    let children = child_in c.self.inside.index.entries in
    let within : c.args.parent < length (paths_of steps) = subst (λ (ps : List (List Seg)). c.args.parent < length ps) (sym c.self.view_is) c.requires.within in
    let free : children c.args.parent c.args.segment ≡ None =
    child_is steps children c.self.invariant c.args.parent c.args.segment within
    ∙ ap (λ (ps : List (List Seg)). number_of (get_or ps c.args.parent [] ++ c.args.segment ∷ []) ps) c.self.view_is ∙ c.requires.free in
    let number : c.len-before.result + 1 ≡ length steps + 1 = omega (arith, c.len-before.ensures) in
    let updated : (p : ℕ) (s : Seg) → child_in c.insert.new.self.entries p s ≡ cond (eq_by_cmp step_cmp (c.args.parent, c.args.segment) (p, s)) (Some (length steps + 1)) (children p s) = λ p s.
    c.in_ok-insert.ensures.updates.0 (p, s) ∙ ap (λ n. cond (eq_by_cmp step_cmp (c.args.parent, c.args.segment) (p, s)) (Some n) (children p s)) number in
    let items : c.push_reserved.new.self.items ≡ steps ++ (c.args.parent, c.args.segment) ∷ [] =
    c.push_reserved.ensures.items ∙ ap (λ (l : List Step). l ++ (c.args.parent, c.args.segment) ∷ []) c.reserve.ensures.items in
    ap (λ (ps : List (List Seg)). number_of (get_or ps c.args.parent [] ++ c.args.segment ∷ []) (paths_of c.push_reserved.new.self.items)) (sym c.self.view_is)
    ∙ ap (λ (l : List Step). number_of (get_or (paths_of steps) c.args.parent [] ++ c.args.segment ∷ []) (paths_of l)) items
    ∙ push_number steps children c.self.invariant c.args.parent c.args.segment within free (child_in c.insert.new.self.entries) updated
    ∙ ap Some (sym number)
