use Rattle.std.proofs.Common.{◌≡◌, ◌∙◌, ◌<◌, ◌≤◌, ◌+◌, ◌++◌, ◌∷◌, [], ℕ, ap, sym, subst, length, get_or, List, Some, arith}
use Rattle.std.proofs.lemmas.List.{get_or_read, length_push}
use Rattle.aml_path.specs.declared.segment.Seg.{Seg}
use Rattle.aml_arities.specs.PathTree.{number_of, Kept, Leads, child_in, paths_of, Distinct}
use Rattle.aml_arities.proofs.PathTrees.{number_is, kept_itself, kept_more, kept_number, many_paths, root_first, distinct, nodes_more}
use Rattle.aml_arities.proofs.path_tree.PathTree.make_all.Goals as goal

pub loop-before-init : goal.loop-before-init
loop-before-init c =
    let others = c.args.others.now in
    let items : c.push.new.self.items ≡ c.root.result ∷ [] = c.in_ok-push.ensures.items ∙ ap (λ (l : List ℕ). l ++ c.root.result ∷ []) c.in_ok-nodes.ensures.items in
    let first : get_or others 0 [] ≡ [] = ap (λ (ps : List (List Seg)). get_or ps 0 []) (sym c.others.view_is) ∙ root_first c.others.inside.steps.items in
    record {
      kept = kept_itself c.args.self.now;
      many = ap length items;
      each = λ n lt.
          let z : n ≡ 0 = omega (arith, lt) in
          ap (λ k. number_of (get_or others k []) c.args.self.now) z
          ∙ ap (λ (p : List Seg). number_of p c.args.self.now) first
          ∙ c.root.ensures
          ∙ sym (ap (λ k. Some (get_or c.push.new.self.items k 0)) z ∙ ap (λ (l : List ℕ). Some (get_or l 0 0)) items);
    }

pub step-parent-requires : goal.step-parent-requires
step-parent-requires c = omega (arith, many_paths c.others.inside.steps.items, ap length c.others.view_is, c.len-before-end.ensures, c.loop-before-test.true)

pub child-requires : goal.child-requires
child-requires c =
    let parent = c.step-parent.result.0 in
    let low : parent < c.loop-before.before + 1 = omega (arith, c.step-parent.ensures.parent) in
    let node : c.index.result.now ≡ get_or c.loop-before.nodes.items parent 0 = get_or_read c.loop-before.nodes.items parent c.index.result.now (omega (arith, low, c.loop-before.invariant.many)) c.index.ensures 0 in
    let at = number_is (get_or c.args.others.now parent []) c.loop-before.self (get_or c.loop-before.nodes.items parent 0) (c.loop-before.invariant.each parent low) in
    omega (arith, at.0, node)

pub loop-before-preserved : goal.loop-before-preserved
loop-before-preserved c =
    let parent = c.step-parent.result.0 in
    let segment = c.step-parent.result.1 in
    let others = c.args.others.now in
    let ps = c.loop-before.self in
    let qs = c.child.new.self in
    let ns = c.loop-before.nodes.items in
    let b = c.loop-before.before in
    let low : parent < b + 1 = omega (arith, c.step-parent.ensures.parent) in
    let node : c.index.result.now ≡ get_or ns parent 0 = get_or_read ns parent c.index.result.now (omega (arith, low, c.loop-before.invariant.many)) c.index.ensures 0 in
    let at = number_is (get_or others parent []) ps (get_or ns parent 0) (c.loop-before.invariant.each parent low) in
    let above : get_or ps c.index.result.now [] ≡ get_or others parent [] = ap (λ k. get_or ps k []) node ∙ at.1 in
    let last : number_of (get_or others (b + 1) []) qs ≡ Some c.in_ok-node.node =
    ap (λ (p : List Seg). number_of p qs) (c.step-parent.ensures.path ∙ ap (λ (p : List Seg). p ++ segment ∷ []) (sym above)) ∙ c.in_ok-node.ensures.node in
    let kept = c.in_ok-node.ensures.kept in
    let items : c.push-in-loop-before.new.self.items ≡ ns ++ c.in_ok-node.node ∷ [] = c.in_ok-push-2.ensures.items in
    record {
      kept = kept_more c.args.self.now ps qs c.loop-before.invariant.kept kept;
      many = ap length items ∙ length_push ns c.in_ok-node.node ∙ ap (λ k. k + 1) c.loop-before.invariant.many;
      each = λ n lt.
          nodes_more qs others ns b c.in_ok-node.node c.loop-before.invariant.many (λ k l. kept_number ps qs kept (get_or others k []) (get_or ns k 0) (c.loop-before.invariant.each k l)) last n lt
          ∙ ap (λ (l : List ℕ). Some (get_or l n 0)) (sym items);
    }

pub returns-clause-nodes : goal.returns-clause-nodes
returns-clause-nodes c =
    let long : length c.args.others.now ≡ c.loop-before.before + 1 =
    omega (arith, many_paths c.others.inside.steps.items, ap length c.others.view_is, c.len-before-end.ensures, c.loop-before-test.false, c.loop-before.auto.before-end) in
    record {
      distinct = subst (λ (ps : List (List Seg)). Distinct ps) c.others.view_is (distinct c.others.inside.steps.items (child_in c.others.inside.index.entries) c.others.invariant);
      many = omega (arith, c.loop-before.invariant.many, long);
      each = λ n lt. c.loop-before.invariant.each n (omega (arith, lt, long));
    }
