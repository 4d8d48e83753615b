use Rattle.std.proofs.Common.{◌≡◌, ◌∙◌, ◌+◌, ◌++◌, ◌∷◌, [], ℕ, ap, sym, take, List, Option, Some, None, refl}
use Rattle.aml_path.specs.declared.segment.Seg.{Seg}
use Rattle.aml_namespace.specs.Namespace.{numbered}
use Rattle.aml_namespace.specs.Search.{Found, at_path}
use Rattle.aml_world.specs.fields.Bridges.{with_scope, bridges_over, bridges_to}
use Rattle.aml_world.proofs.NearestFunctions.{taken, some_is, found_there}
use Rattle.aml_world.proofs.PassedBridges.{over_first, over_next, bridges_end}
use Rattle.aml_world.proofs.fields.bridges.bridges_to.Goals as goal

pub loop-step-init : goal.loop-step-init
loop-step-init c =
    let e = c.root-current.ensures in
    record {
      stands = (([], e.0), e.1, refl);
      depth = refl;
      bridges = over_first c.args.names.now.map c.segments-steps.result.now c.new-bridges.result.items c.new-bridges.ensures.items;
    }

pub returns-in-None-clause-bridges : goal.returns-in-None-clause-bridges
returns-in-None-clause-bridges c =
    let m = c.args.names.now.map in
    let steps = c.segments-steps.result.now in
    let i = c.loop-step.step-index in
    let s = c.step-item.result in
    let f = c.loop-step.invariant.stands in
    let path : take i steps ≡ take c.loop-step.depth c.args.device.now = ap (λ (k : ℕ). take k steps) (sym c.loop-step.invariant.depth) ∙ ap (λ (l : List Seg). take c.loop-step.depth l) c.segments-steps.ensures in
    let here : c.pass_scope.new.bridges.items ≡ with_scope m (take i steps) (bridges_over m steps i) =
    c.in_ok-pass_scope.ensures.passed f.0 f.1 (f.2 ∙ path)
    ∙ ap (λ (q : List Seg). with_scope m q c.loop-step.bridges.items) (sym path)
    ∙ ap (with_scope m (take i steps)) c.loop-step.invariant.bridges in
    let none : (rest : List Seg) → at_path m (take i steps ++ s ∷ rest) ≡ None = λ rest.
    ap (λ (p : List Seg). at_path m (p ++ s ∷ rest)) (sym f.2) ∙ c.child_of.ensures.deeper f.0 f.1 c.in-None.is rest in
    bridges_end m steps i s c.pass_scope.new.bridges.items (over_next m steps i c.pass_scope.new.bridges.items here) c.loop-step-test.true c.step-item.is none
    ∙ ap (bridges_to m) c.segments-steps.ensures

pub loop-step-preserved : goal.loop-step-preserved
loop-step-preserved c =
    let m = c.args.names.now.map in
    let steps = c.segments-steps.result.now in
    let i = c.loop-step.step-index in
    let s = c.step-item.result in
    let f = c.loop-step.invariant.stands in
    let path : take i steps ≡ take c.loop-step.depth c.args.device.now = ap (λ (k : ℕ). take k steps) (sym c.loop-step.invariant.depth) ∙ ap (λ (l : List Seg). take c.loop-step.depth l) c.segments-steps.ensures in
    let here : c.pass_scope.new.bridges.items ≡ with_scope m (take i steps) (bridges_over m steps i) =
    c.in_ok-pass_scope.ensures.passed f.0 f.1 (f.2 ∙ path)
    ∙ ap (λ (q : List Seg). with_scope m q c.loop-step.bridges.items) (sym path)
    ∙ ap (with_scope m (take i steps)) c.loop-step.invariant.bridges in
    let h = some_is (numbered c.in-Some.next.number m) (at_path m (f.0.0 ++ s ∷ [])) (c.in-Some.ensures.here f.0 f.1) in
    let next : h.0.0 ≡ take (i + 1) steps = found_there m (f.0.0 ++ s ∷ []) h.0 h.1 ∙ ap (λ (p : List Seg). p ++ s ∷ []) f.2 ∙ sym (taken steps i s c.loop-step-test.true c.step-item.is) in
    record {
      stands = (h.0, h.2, next);
      depth = ap (λ (n : ℕ). n + 1) c.loop-step.invariant.depth;
      bridges = over_next m steps i c.pass_scope.new.bridges.items here;
    }
