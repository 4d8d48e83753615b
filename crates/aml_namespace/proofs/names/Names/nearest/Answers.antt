use Rattle.std.proofs.Common.{◌≡◌, ◌∙◌, ◌+◌, ◌-◌, ◌++◌, ◌∷◌, [], ℕ, ap, sym, length, take, List, Some, None, arith, refl}
use Rattle.std.specs.Option.{option_map}
use Rattle.aml_path.specs.declared.segment.Seg.{Seg}
use Rattle.aml_objects.specs.declared.node.NodeId.{NodeId}
use Rattle.aml_namespace.specs.Namespace.{numbered}
use Rattle.aml_namespace.specs.Search.{Found, at_path, or_else, search_up}
use Rattle.aml_namespace.proofs.Searching.{some_is, found_there}
use Rattle.aml_namespace.proofs.NearestScopes.{shown, wanted, taken, near_first, near_next, near_end, near_node, near_depth}
use Rattle.aml_namespace.proofs.names.Names.nearest.Goals as goal

pub loop-step-init : goal.loop-step-init
loop-step-init c =
    let m = c.args.self.now.map in
    let steps = c.segments-steps.result.now in
    let e = c.root-current.ensures in
    record {
      stands = (([], e.0), e.1, refl);
      depth = refl;
      near = ap (shown m steps c.args.segments.now) c.nearest_so_far-nearest.ensures ∙ near_first m steps c.args.segments.now c.below.result (c.below.ensures ([], e.0) e.1);
    }

pub returns-in-None-clause-node : goal.returns-in-None-clause-node
returns-in-None-clause-node c =
    let m = c.args.self.now.map in
    let steps = c.segments-steps.result.now in
    let i = c.loop-step.step-index in
    let s = c.step-item.result in
    let g = c.loop-step.invariant.stands in
    let none : (rest : List Seg) → at_path m (take i steps ++ s ∷ rest) ≡ None = λ rest.
    ap (λ (p : List Seg). at_path m (p ++ s ∷ rest)) (sym g.2) ∙ c.child_of.ensures.deeper g.0 g.1 c.in-None.is rest in
    near_node m steps c.args.segments.now c.loop-step.nearest (c.loop-step.invariant.near ∙ near_end m steps c.args.segments.now i s c.loop-step-test.true c.step-item.is none)
    ∙ ap (λ (p : List Seg). option_map Some (search_up m p c.args.segments.now (length p))) c.segments-steps.ensures

pub returns-in-None-clause-depth : goal.returns-in-None-clause-depth
returns-in-None-clause-depth c =
    let m = c.args.self.now.map in
    let steps = c.segments-steps.result.now in
    let i = c.loop-step.step-index in
    let s = c.step-item.result in
    let g = c.loop-step.invariant.stands in
    let none : (rest : List Seg) → at_path m (take i steps ++ s ∷ rest) ≡ None = λ rest.
    ap (λ (p : List Seg). at_path m (p ++ s ∷ rest)) (sym g.2) ∙ c.child_of.ensures.deeper g.0 g.1 c.in-None.is rest in
    near_depth m steps c.args.segments.now c.loop-step.nearest (c.loop-step.invariant.near ∙ near_end m steps c.args.segments.now i s c.loop-step-test.true c.step-item.is none)
    ∙ ap (λ (p : List Seg). option_map (λ (f : Found). length f.0 - length c.args.segments.now) (search_up m p c.args.segments.now (length p))) c.segments-steps.ensures

pub overflow_add-depth : goal.overflow_add-depth
overflow_add-depth c =
    let d = c.loop-step.invariant.depth in
    let lt = c.loop-step-test.true in
    let few = c.segments-steps.type_inv.0 in
    omega (arith, d, lt, few)

pub loop-step-preserved : goal.loop-step-preserved
loop-step-preserved c =
    let m = c.args.self.now.map in
    let steps = c.segments-steps.result.now in
    let i = c.loop-step.step-index in
    let s = c.step-item.result in
    let g = c.loop-step.invariant.stands in
    let f = some_is (numbered c.in-Some.next.number m) (at_path m (g.0.0 ++ s ∷ [])) (c.in-Some.ensures.here g.0 g.1) in
    let path : f.0.0 ≡ take (i + 1) steps = found_there m (g.0.0 ++ s ∷ []) f.0 f.1 ∙ ap (λ (p : List Seg). p ++ s ∷ []) g.2 ∙ sym (taken steps i s c.loop-step-test.true c.step-item.is) in
    let depth : c.loop-step.depth + 1 ≡ i + 1 = ap (λ (n : ℕ). n + 1) c.loop-step.invariant.depth in
    let below : option_map (λ (id : NodeId). numbered id.number m) c.below-in-loop-step.result ≡ option_map Some (at_path m (take (i + 1) steps ++ c.args.segments.now)) =
    c.below-in-loop-step.ensures f.0 f.2 ∙ ap (λ (p : List Seg). option_map Some (at_path m (p ++ c.args.segments.now))) path in
    record {
      stands = (f.0, f.2, path);
      depth = depth;
      near =
          ap (shown m steps c.args.segments.now) (c.nearest_so_far-nearest-in-loop-step.ensures ∙ ap (λ (n : ℕ). or_else (option_map (λ id. (n, id)) c.below-in-loop-step.result) c.loop-step.nearest) depth)
          ∙ near_next m steps c.args.segments.now i c.below-in-loop-step.result c.loop-step.nearest c.loop-step-test.true below c.loop-step.invariant.near;
    }

pub returns-clause-node : goal.returns-clause-node
returns-clause-node c =
    let m = c.args.self.now.map in
    let steps = c.segments-steps.result.now in
    let ends : c.loop-step.step-index ≡ length steps = (let le = c.loop-step.auto.step-index-end in let ge = c.loop-step-test.false in omega (arith, le, ge)) in
    near_node m steps c.args.segments.now c.loop-step.nearest (c.loop-step.invariant.near ∙ ap (wanted m steps c.args.segments.now) ends)
    ∙ ap (λ (p : List Seg). option_map Some (search_up m p c.args.segments.now (length p))) c.segments-steps.ensures

pub returns-clause-depth : goal.returns-clause-depth
returns-clause-depth c =
    let m = c.args.self.now.map in
    let steps = c.segments-steps.result.now in
    let ends : c.loop-step.step-index ≡ length steps = (let le = c.loop-step.auto.step-index-end in let ge = c.loop-step-test.false in omega (arith, le, ge)) in
    near_depth m steps c.args.segments.now c.loop-step.nearest (c.loop-step.invariant.near ∙ ap (wanted m steps c.args.segments.now) ends)
    ∙ ap (λ (p : List Seg). option_map (λ (f : Found). length f.0 - length c.args.segments.now) (search_up m p c.args.segments.now (length p))) c.segments-steps.ensures
